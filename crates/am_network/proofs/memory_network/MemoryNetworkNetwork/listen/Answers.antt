use Rattle.std.proofs.Common.{length, slice_get, ap, sym, ◌∙◌}
use Rattle.am_network.proofs.Opening.{gates_count, gates_new}
use Rattle.am_network.proofs.memory_network.MemoryNetworkNetwork.listen.Goals as goal

pub returns-clause-count : goal.returns-clause-count
returns-clause-count c = ap length c.in_ok-open.ensures.made ∙ gates_count c.args.gates _

pub returns-clause-new : goal.returns-clause-new
returns-clause-new c = λ k gate at. gates_new c.args.gates _ k gate
    (ap (λ made. slice_get made k) (sym c.in_ok-open.ensures.made) ∙ at)
