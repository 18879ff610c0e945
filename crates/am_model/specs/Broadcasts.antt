-- Broadcasts: deliveries and their deadlines, the two queues, and the result of an ordered broadcast.
use Rattle.std.specs.Prelude.{ℕ, ◌+◌, min, Bool, true, false, not, ◌&&◌, ◌||◌, nat_le, List, [], ◌∷◌, ◌++◌, length, map, filter, flat_map, if◌then◌else◌, Option, Some, None}
use Rattle.std.specs.List.{list_any}
use Rattle.am_types.specs.declared.intent.Intent.{Intent}
use Rattle.am_types.specs.declared.broadcast.Spot.{Spot}
use Rattle.am_types.specs.declared.broadcast.Answer.{Answer}
use Rattle.am_types.specs.declared.broadcast.Outcome.{Outcome}
use Rattle.am_model.specs.Filters.{is_empty}

-- a delivery of a normal broadcast that isn't finished: its number, its receiver and its deadline
pub record Delivery : Type 0 where
  pub number : ℕ
  pub spot : Spot
  pub deadline : ℕ

-- a normal broadcast with the deliveries that it has left
pub record Normal : Type 0 where
  pub number : ℕ
  pub sender : ℕ
  pub intent : Intent
  pub deliveries : List Delivery

-- what a receiver did with an ordered broadcast: it answered, was late, or went away
pub data Doing : Type 0 where
  Answered : Answer → Doing
  Late : Doing
  Gone : Doing

-- a receiver that is past, and what it did
pub record Past : Type 0 where
  pub spot : Spot
  pub doing : Doing

-- the delivery to the first receiver that is left: its number and its deadline
pub record Current : Type 0 where
  pub number : ℕ
  pub deadline : ℕ

-- an ordered broadcast in a queue: how it began, the receivers that are past and those that are left
pub record InTurn : Type 0 where
  pub number : ℕ
  pub sender : ℕ
  pub intent : Intent
  pub no_abort : Bool
  pub initial : Outcome
  pub wanted : Bool
  pub past : List Past
  pub rest : List Spot
  pub current : Option Current

-- the result of an ordered broadcast that ended, in its sender's inbox
pub record Result : Type 0 where
  pub delivery : ℕ
  pub broadcast : ℕ
  pub sender : ℕ
  pub outcome : Outcome

-- all broadcasts, the two queues from their heads on, and the next numbers
pub record Broadcasts : Type 0 where
  pub normal : List Normal
  pub foreground : List InTurn
  pub background : List InTurn
  pub results : List Result
  pub next_broadcast : ℕ
  pub next_delivery : ℕ

-- no broadcast yet
abbrev pub no_broadcasts : Broadcasts
no_broadcasts = record {
  normal = [];
  foreground = [];
  background = [];
  results = [];
  next_broadcast = 1;
  next_delivery
      = 1;
}

-- how long a delivery may take, in milliseconds
abbrev pub span : Bool → ℕ
span foreground = if foreground then 10000 else 60000

-- the outcome that an answer sets, or the one before
abbrev pub outcome_after : Outcome → Option Outcome → Outcome
outcome_after before None = before
outcome_after before (Some set) = set

-- the outcome after those doings: the last one that was set before an abort that counts
abbrev pub fold_outcome : Outcome → Bool → List Doing → Outcome
fold_outcome outcome no_abort [] = outcome
fold_outcome outcome no_abort (Late ∷ others) = fold_outcome outcome no_abort others
fold_outcome outcome no_abort (Gone ∷ others) = fold_outcome outcome no_abort others
fold_outcome outcome no_abort (Answered answer ∷ others) =
    if answer.abort && not no_abort
    then outcome_after outcome answer.set
    else fold_outcome (outcome_after outcome answer.set) no_abort others

-- what the receivers did that are past
abbrev pub doings : InTurn → List Doing
doings broadcast = map (λ (past : Past). past.doing) broadcast.past

-- the outcome so far
abbrev pub outcome_of : InTurn → Outcome
outcome_of broadcast = fold_outcome broadcast.initial broadcast.no_abort (doings broadcast)

-- the doing is an answer that aborts
abbrev pub is_abort : Doing → Bool
is_abort (Answered answer) = answer.abort
is_abort Late = false
is_abort Gone = false

-- an ordered broadcast ends when no receiver is left, or when one aborted and that counts
abbrev pub is_over : InTurn → Bool
is_over broadcast = is_empty broadcast.rest || (not broadcast.no_abort && list_any is_abort (doings broadcast))

-- the result for the sender, if it asked for it
abbrev pub result_of : ℕ → InTurn → List Result
result_of delivery broadcast =
    if broadcast.wanted
    then record {
      delivery = delivery;
      broadcast = broadcast.number;
      sender = broadcast.sender;
      outcome = outcome_of
          broadcast;
    } ∷ []
    else []

-- a queue with the results that left it, and the next delivery number
pub record Settled : Type 0 where
  pub queue : List InTurn
  pub results : List Result
  pub next : ℕ

-- the queue whose head has the delivery that it has, or the next one
abbrev pub dispatched : ℕ → ℕ → InTurn → List InTurn → Option Current → Settled
dispatched next deadline head others (Some current) = record { queue = head ∷ others; results = []; next = next }
dispatched next deadline head others None =
    record {
      queue = record head { current = Some (record { number = next; deadline = deadline }) }
          ∷ others;
      results = [];
      next = next + 1;
    }

-- what settled, with results that left before
abbrev pub with_results : List Result → Settled → Settled
with_results results after = record after { results = results ++ after.results }

-- the queue without the heads that are over, each leaving its result; the head that is left has a delivery with that
-- deadline if it had none
abbrev pub settled : ℕ → ℕ → List InTurn → Settled
settled next deadline [] = record { queue = []; results = []; next = next }
settled next deadline (head ∷ others) =
    if is_over head
    then with_results (result_of next head) (settled (next + length (result_of next head)) deadline others)
    else dispatched next deadline head others head.current

-- one of the two queues
abbrev pub queue_of : Bool → Broadcasts → List InTurn
queue_of true all = all.foreground
queue_of false all = all.background

-- the broadcasts with that queue in the place of one of the two
abbrev pub with_queue : Bool → List InTurn → Broadcasts → Broadcasts
with_queue true queue all = record all { foreground = queue }
with_queue false queue all = record all { background = queue }

-- what settled, put back among the broadcasts
abbrev pub settled_in : Bool → Settled → Broadcasts → Broadcasts
settled_in foreground after all =
    record (with_queue foreground after.queue all) {
      results = all.results
          ++ after.results;
      next_delivery = after.next;
    }

-- the broadcasts with one of the two queues settled at a moment
abbrev pub settle : Bool → ℕ → Broadcasts → Broadcasts
settle foreground now all =
    settled_in foreground (settled all.next_delivery (now + span foreground) (queue_of foreground all)) all

-- the broadcasts with both queues settled at a moment, the foreground queue first
abbrev pub settle_both : ℕ → Broadcasts → Broadcasts
settle_both now all = settle false now (settle true now all)

-- the first receiver that is left did this, and is past
abbrev pub turned : Doing → InTurn → List Spot → InTurn
turned doing broadcast [] = record broadcast { current = None }
turned doing broadcast (spot ∷ rest) =
    record broadcast {
      past = broadcast.past ++ record { spot = spot; doing = doing }
          ∷ [];
      rest = rest;
      current = None;
    }

-- the first receiver that is left, if there is one, did this
abbrev pub turn : Doing → InTurn → InTurn
turn doing broadcast = turned doing broadcast broadcast.rest

-- the delivery's deadline is at most that moment
abbrev pub is_late : ℕ → Option Current → Bool
is_late now None = false
is_late now (Some current) = nat_le current.deadline now

-- the queue whose head, if its delivery is late, passes its receiver over
abbrev pub late_head : ℕ → List InTurn → List InTurn
late_head now [] = []
late_head now (head ∷ others) = if is_late now head.current then turn Late head ∷ others else head ∷ others

-- the head of the queue has a delivery that is due
abbrev pub is_head_due : ℕ → List InTurn → Bool
is_head_due now [] = false
is_head_due now (head ∷ others) = is_late now head.current

-- a normal delivery is due
abbrev pub is_delivery_due : ℕ → Delivery → Bool
is_delivery_due now delivery = nat_le delivery.deadline now

-- some deadline is at most that moment
abbrev pub due : Broadcasts → ℕ → Bool
due all now =
    (is_head_due now all.foreground || is_head_due now all.background)
    || list_any (λ (n : Normal). list_any (is_delivery_due now) n.deliveries) all.normal

-- the deadline of a delivery in turn, if there is one
abbrev pub current_deadline : Option Current → List ℕ
current_deadline None = []
current_deadline (Some current) = current.deadline ∷ []

-- the deadline of the delivery that the head of the queue has, if there is one
abbrev pub head_deadline : List InTurn → List ℕ
head_deadline [] = []
head_deadline (head ∷ others) = current_deadline head.current

-- the deadlines of a normal broadcast's deliveries
abbrev pub deadlines_of : Normal → List ℕ
deadlines_of broadcast = map (λ (d : Delivery). d.deadline) broadcast.deliveries

-- the deadlines of some normal broadcasts' deliveries
abbrev pub normal_deadlines : List Normal → List ℕ
normal_deadlines normal = flat_map deadlines_of normal

-- all deadlines: those of both heads, and those of the normal deliveries
abbrev pub deadlines : Broadcasts → List ℕ
deadlines all = head_deadline all.foreground ++ head_deadline all.background ++ normal_deadlines all.normal

-- the earlier of a moment and another, if there is another
abbrev pub earlier : ℕ → Option ℕ → ℕ
earlier moment None = moment
earlier moment (Some other) = min moment other

-- the earliest of some moments, if there are any
abbrev pub earliest : List ℕ → Option ℕ
earliest [] = None
earliest (first ∷ others) = Some (earlier first (earliest others))

-- the earliest deadline, if there is one
abbrev pub earliest_deadline : Broadcasts → Option ℕ
earliest_deadline all = earliest (deadlines all)

-- a normal broadcast with the deliveries that pass the test
abbrev pub keeping : (Delivery → Bool) → Normal → Normal
keeping keeps broadcast = record broadcast { deliveries = filter keeps broadcast.deliveries }

-- the normal broadcasts with the deliveries that pass the test; one without deliveries isn't live any more
abbrev pub normals_keeping : (Delivery → Bool) → List Normal → List Normal
normals_keeping keeps normal = filter (λ (n : Normal). not (is_empty n.deliveries)) (map (keeping keeps) normal)

-- the broadcasts after the deadline of one of the two queues, if that is due: one receiver is passed over
abbrev pub expired_queue : Bool → ℕ → Broadcasts → Broadcasts
expired_queue foreground now all =
    if is_head_due now (queue_of foreground all)
    then settle foreground now (with_queue foreground (late_head now (queue_of foreground all)) all)
    else all

-- the broadcasts after the deadlines that are due at a moment: the foreground queue's, then the background queue's,
-- each passing over one receiver at most; then the normal deliveries that are due leave
abbrev pub expired : Broadcasts → ℕ → Broadcasts
expired all now =
    let passed = expired_queue false now (expired_queue true now all) in
    record passed { normal = normals_keeping (λ delivery. not (is_delivery_due now delivery)) passed.normal }
