-- How a queue settles head by head, and what this keeps.
use Rattle.std.proofs.Common.{◌≡◌, ℕ, ◌+◌, ◌≤◌, Bool, true, false, cond, List, [], ◌∷◌, ◌++◌, length, arith}
use Rattle.am_model.specs.Broadcasts as broadcasts
use Rattle.am_model.specs.Broadcasts.{InTurn, settled, is_over, result_of}
use Rattle.am_queue_ordered.specs.Counts.{Covers, Follows, queued_of, results_of}

-- a queue is on its way from how it began to how it settles
pub record IsUnderWay (deadline : ℕ) (next' next : ℕ) (queue' queue : List InTurn)
    (results' results : List broadcasts.Result) (live' live : List (ℕ × ℕ)) : Type 0 where
  pub queue_settles : (settled next deadline queue).queue ≡ (settled next' deadline queue').queue
  pub results_settle : results ++ (settled next deadline queue).results ≡ results'
      ++ (settled next' deadline queue').results
  pub next_settles : (settled next deadline queue).next ≡ (settled next' deadline queue').next
  pub room : length queue + length results ≤ length queue' + length results'
  pub small : next + length queue ≤ next' + length queue'
  pub counted : Covers live (queued_of queue)
  pub follows : Follows live' live (λ uid. queued_of queue' uid + results_of results' uid)
      (λ uid. queued_of queue uid + results_of results uid)

-- a broadcast leaves one result at most
pub one_result : (delivery : ℕ) (b : InTurn) → length (result_of delivery b) ≤ 1
one_result delivery b = by b.wanted
  where
    one : broadcasts.Result
    one = record { delivery = delivery; broadcast = b.number; sender = b.sender; outcome = broadcasts.outcome_of b }

    by : (wanted : Bool) → length (cond wanted (one ∷ []) []) ≤ 1
    by true = omega arith
    by false = omega arith
