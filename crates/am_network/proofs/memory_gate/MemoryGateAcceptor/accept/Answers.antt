use Rattle.std.proofs.Common.{refl, ap}
use Rattle.am_network.specs.Memory.{links_of}
use Rattle.am_network.proofs.Handing.{hands_out, hands_unread}
use Rattle.am_network.proofs.memory_gate.MemoryGateAcceptor.accept.Goals as goal

-- counting the call left the links as they were
pub returns-clause-next : goal.returns-clause-next
returns-clause-next c =
    rw (← ap links_of c.in_ok-count_accept.ensures.exact) (hands_out c.count_accept.new.self c.hand_out.new.self _
    c.hand_out.result refl c.hand_out.ensures.answer c.hand_out.ensures.exact c.hand_out.ensures.unused)

pub returns-clause-unread : goal.returns-clause-unread
returns-clause-unread c = hands_unread c.count_accept.new.self.handed _ c.hand_out.result c.hand_out.ensures.answer
    c.hand_out.ensures.unused
