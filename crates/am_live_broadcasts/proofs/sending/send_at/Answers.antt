use Rattle.am_types.specs.Bounds.{greatest_number}
use Rattle.am_live_broadcasts.proofs.BroadcastLemmas.{still_left}
use Rattle.am_live_broadcasts.proofs.sending.send_at.Goals as goal

pub send-requires-2-clause-broadcasts : goal.send-requires-2-clause-broadcasts
send-requires-2-clause-broadcasts g c =
    still_left c.args.queues.now _ _ c.args.call.now greatest_number c.in-Ok.ensures c.expire.ensures.expired
    c.requires.broadcasts
