-- The next number of a broadcast, whatever is done with broadcasts.
use Rattle.std.proofs.Common.{◌≡◌, ℕ, ◌+◌, Bool, true, false, cond, List, [], ◌∷◌, ◌++◌, refl, ◌∙◌}
use Rattle.std.specs.Prelude.{Option, Some, None, ◌==◌}
use Rattle.am_types.specs.declared.broadcast.Answer.{Answer}
use Rattle.am_types.specs.declared.broadcast.Ordered.{Ordered}
use Rattle.am_types.specs.declared.broadcast.Sending.{Sending}
use Rattle.am_types.specs.declared.broadcast.Spot.{Spot}
use Rattle.am_model.specs.Broadcasts.{Broadcasts, InTurn, queue_of, with_queue, settle, settle_both, late_head, is_head_due, expired_queue, expired}
use Rattle.am_model.specs.Sending as sending
use Rattle.am_model.specs.Sending.{in_turn, with_sent, finished, with_answered, with_unwanted, without_struck}

-- a queue is put in the place of another
queue_keeps : (foreground : Bool) (queue : List InTurn) (all : Broadcasts)
    → (with_queue foreground queue all).next_broadcast ≡ all.next_broadcast
queue_keeps true queue all = refl
queue_keeps false queue all = refl

-- a queue settles
settle_keeps : (foreground : Bool) (now : ℕ) (all : Broadcasts) → (settle foreground now all).next_broadcast
    ≡ all.next_broadcast
settle_keeps foreground now all = queue_keeps foreground _ all

-- both queues settle
both_keep : (now : ℕ) (all : Broadcasts) → (settle_both now all).next_broadcast ≡ all.next_broadcast
both_keep now all = settle_keeps false now (settle true now all) ∙ settle_keeps true now all

-- a deadline of a queue
expired_queue_keeps : (foreground : Bool) (now : ℕ) (all : Broadcasts)
    → (expired_queue foreground now all).next_broadcast ≡ all.next_broadcast
expired_queue_keeps foreground now all = by (is_head_due now (queue_of foreground all))
  where
    late : Broadcasts
    late = with_queue foreground (late_head now (queue_of foreground all)) all

    by : (due : Bool) → (cond due (settle foreground now late) all).next_broadcast ≡ all.next_broadcast
    by true = settle_keeps foreground now late ∙ queue_keeps foreground (late_head now (queue_of foreground all)) all
    by false = refl

-- the passing of time
pub expired_keeps : (all : Broadcasts) (now : ℕ) → (expired all now).next_broadcast ≡ all.next_broadcast
expired_keeps all now = expired_queue_keeps false now (expired_queue true now all) ∙ expired_queue_keeps true now all

-- receivers that are forgotten
pub forget_keeps : (all : Broadcasts) (struck : Spot → Bool) (now : ℕ) → (sending.forget all struck now).next_broadcast
    ≡ all.next_broadcast
forget_keeps all struck now = both_keep now (without_struck all struck)

-- an app that is forgotten
pub forget_uid_keeps : (all : Broadcasts) (uid now : ℕ) → (sending.forget_uid all uid now).next_broadcast
    ≡ all.next_broadcast
forget_uid_keeps all uid now = forget_keeps (with_unwanted all uid) (λ (spot : Spot). spot.uid == uid) now

-- a delivery that is finished
pub finished_keeps : (all : Broadcasts) (number : ℕ) (answer : Answer) (now : ℕ)
    → (finished all number answer now).next_broadcast ≡ all.next_broadcast
finished_keeps all number answer now = both_keep now (with_answered all number answer)

-- one more broadcast
pub sent_gives_one : (all : Broadcasts) (sent : Sending) (ordered : Option Ordered)
    → (with_sent all sent ordered).next_broadcast ≡ all.next_broadcast + 1
sent_gives_one all sent None = refl
sent_gives_one all sent (Some ordered) =
    settle_keeps sent.foreground sent.now (with_queue sent.foreground queue numbered)
    ∙ queue_keeps sent.foreground queue numbered
  where
    numbered : Broadcasts
    numbered = record all { next_broadcast = all.next_broadcast + 1 }

    queue : List InTurn
    queue = queue_of sent.foreground all ++ in_turn all.next_broadcast sent ordered ∷ []
