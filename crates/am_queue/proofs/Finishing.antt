-- What a finish finds and leaves.
use Rattle.std.proofs.Common.{◌≡◌, ℕ, Bool, true, false, not, ◌&&◌, cond, List, [], ◌∷◌, refl, ap, ◌∙◌}
use Rattle.std.specs.Prelude.{Option, Some, None, is_some, ◌==◌, Ok, Err}
use Rattle.std.specs.Option.{option_map}
use Rattle.std.specs.List.{filter, list_all}
use Rattle.std.proofs.lemmas.Bool.{and_parts, false_from_ne_true}
use Rattle.am_types.specs.declared.broadcast.Answer.{Answer}
use Rattle.am_types.specs.declared.broadcast.FinishFault.{FinishFault}
use Rattle.am_types.specs.declared.broadcast.FinishFault.TheVariants.{NotYours, NotOrdered}
use Rattle.am_model.specs.Filters.{is_empty}
use Rattle.am_model.specs.Broadcasts.{Broadcasts, Normal, Delivery, InTurn, Doing, normals_keeping}
use Rattle.am_model.specs.Sending.{Held, or_held, held_in_deliveries, held_in_normals, answered_head, is_for_ordered, finished, finish_held}
use Rattle.am_queue_ordered.specs.Heads.{is_head, head_turned}
use Rattle.am_queue_normal.specs.Kept.{AllLive, at_once_by, is_other}
use Rattle.am_queue.specs.Sound.{has_current, IsSound}
use Rattle.am_queue.specs.Taken.{fault_of}
use Rattle.am_queue.proofs.Refusals.{unless_refused}

-- a delivery that isn't held isn't one of these
unheld_in : (number : ℕ) (deliveries : List Delivery) → held_in_deliveries number deliveries ≡ None
    → filter (is_other number) deliveries ≡ deliveries
unheld_in number [] none = refl
unheld_in number (first ∷ others) none = by (first.number == number) none (unheld_in number others)
  where
    by : (same : Bool) → cond same (Some (at_once_by first.spot.uid)) (held_in_deliveries number others) ≡ None
        → (held_in_deliveries number others ≡ None → filter (is_other number) others ≡ others)
        → cond (not same) (first ∷ filter (is_other number) others) (filter (is_other number) others) ≡ first ∷ others
    by true none rest = absurd cc
    by false none rest = ap (λ l. first ∷ l) (rest none)

-- neither of two is held
neither : (a b : Option Held) → or_held a b ≡ None → (a ≡ None) × (b ≡ None)
neither None b none = (refl, none)
neither (Some held) b none = absurd cc

-- if a delivery isn't held, all stay without it
pub unheld : (number : ℕ) (normal : List Normal) → held_in_normals number normal ≡ None → AllLive normal
    → normals_keeping (is_other number) normal ≡ normal
unheld number [] none live = refl
unheld number (n ∷ others) none live =
    let parts = neither (held_in_deliveries number n.deliveries) (held_in_normals number others) none in
    let tests = and_parts (not (is_empty n.deliveries)) (list_all (λ (n : Normal). not (is_empty n.deliveries)) others) live
    in
    rw (unheld_in number n.deliveries parts.0, tests.0, unheld number others parts.1 tests.1) refl

-- no holder is found if none holds it
pub no_holder : (holder : Option ℕ) (held : Option Held) → held ≡ option_map at_once_by holder → is_some holder ≡ false
    → held ≡ None
no_holder None held is none = is
no_holder (Some uid) held is none = cc

-- the head that has the delivery has its turn
pub answered_turned : (number : ℕ) (doing : Doing) (queue : List InTurn) → is_head number queue ≡ true
    → answered_head number doing queue ≡ head_turned doing queue
answered_turned number doing [] is = refl
answered_turned number doing (head ∷ others) is = rw is refl

-- another head stays
pub unanswered : (number : ℕ) (doing : Doing) (queue : List InTurn) → is_head number queue ≡ false
    → answered_head number doing queue ≡ queue
unanswered number doing [] is = refl
unanswered number doing (head ∷ others) is = rw is refl

-- the head has what it has
head_current : (number : ℕ) (queue : List InTurn) → is_head number queue ≡ true → has_current number queue ≡ true
head_current number [] is = cc
head_current number (head ∷ others) is = rw is refl

-- the heads of both queues have different deliveries
pub heads_differ : (number : ℕ) (all : Broadcasts) → IsSound all → is_head number all.foreground ≡ true
    → is_head number all.background ≡ false
heads_differ number all sound is =
    false_from_ne_true (is_head number all.background)
    (λ other. sound.queues.differ number (head_current number all.foreground is)
    (head_current number all.background other))

-- a fault is the refusal; without one it is finished
pub finished_unless : (all : Broadcasts) (number uid : ℕ) (answer : Answer) (now : ℕ) (held : Option Held)
    {fault : Option FinishFault} → fault_of uid answer held ≡ fault
    → finish_held all number uid answer now held ≡ unless_refused fault (finished all number answer now)
finished_unless all number uid answer now None is = ap (λ f. unless_refused f (finished all number answer now)) is
finished_unless all number uid answer now (Some holder) is = by (not (holder.uid == uid))
    (is_for_ordered answer && not holder.ordered) ∙ ap (λ f. unless_refused f (finished all number answer now)) is
  where
    by : (other unfit : Bool)
        → cond other (Err NotYours) (cond unfit (Err NotOrdered) (Ok (finished all number answer now)))
        ≡ unless_refused (cond other (Some NotYours) (cond unfit (Some NotOrdered) None))
        (finished all number answer now)
    by true unfit = refl
    by false true = refl
    by false false = refl
