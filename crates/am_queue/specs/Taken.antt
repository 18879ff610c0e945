-- Which results are removed, and why a delivery isn't finished.
use Rattle.std.specs.Prelude.{ℕ, Bool, not, ◌&&◌, ◌==◌, nat_le, nat_lt, Option, Some, None, if◌then◌else◌}
use Rattle.am_types.specs.declared.broadcast.Answer.{Answer}
use Rattle.am_types.specs.declared.broadcast.FinishFault.{FinishFault}
use Rattle.am_types.specs.declared.broadcast.FinishFault.TheVariants.{NoDelivery, NotYours, NotOrdered}
use Rattle.am_model.specs.Broadcasts as broadcasts
use Rattle.am_model.specs.Broadcasts.{Broadcasts}
use Rattle.am_model.specs.Sending.{Held, is_for_ordered, live}
use Rattle.am_types.specs.declared.broadcast.SendFault.{SendFault}
use Rattle.am_types.specs.declared.broadcast.SendFault.TheVariants.{Full, TooMany}
use Rattle.am_queue.specs.declared.results.Taken.{Taken}
use Rattle.am_queue.specs.declared.results.Taken.TheVariants.{Delivery, Sender}

-- the result with a delivery number, or the results of a sender
abbrev pub is_taken : Taken → broadcasts.Result → Bool
is_taken (Delivery number) result = result.delivery == number
is_taken (Sender uid) result = result.sender == uid

-- who holds a delivery, and whether it is an ordered broadcast's
abbrev pub held_as : ℕ × Bool → Held
held_as holder = record { uid = holder.0; ordered = holder.1 }

-- why a uid doesn't finish what is held
abbrev pub fault_of : ℕ → Answer → Option Held → Option FinishFault
fault_of uid answer None = Some NoDelivery
fault_of uid answer (Some holder) =
    if not (holder.uid == uid) then Some NotYours
    else if is_for_ordered answer && not holder.ordered then Some NotOrdered
    else None

-- why a broadcast of a sender to this many receivers isn't sent
abbrev pub refusal_of : Broadcasts → ℕ → ℕ → Option SendFault
refusal_of all sender receivers =
    if nat_le 64 (live all sender) then Some Full else if nat_lt 1024 receivers then Some TooMany else None
