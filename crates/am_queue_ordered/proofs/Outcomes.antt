-- What a turn does to the outcome of an ordered broadcast, and to the marks that the code keeps of it.
use Rattle.std.proofs.Common.{◌≡◌, ℕ, ◌+◌, ◌≤◌, ◌<◌, Bool, true, false, not, ◌&&◌, ◌||◌, cond, List, [], ◌∷◌, ◌++◌, length, map, refl, sym, ap, ◌∙◌, arith, length-append, zero, suc}
use Rattle.std.specs.Prelude.{Option, Some, None, is_some, slice_get}
use Rattle.std.specs.List.{list_any}
use Rattle.std.proofs.lemmas.List.Folds.{list_any-append}
use Rattle.std.proofs.lemmas.List.{map-append}
use Rattle.am_types.specs.declared.broadcast.Spot.{Spot}
use Rattle.am_types.specs.declared.broadcast.Outcome.{Outcome}
use Rattle.am_model.specs.Broadcasts.{InTurn, Past, Doing, Answered, Late, Gone, outcome_after, fold_outcome, outcome_of, turned, doings, is_abort}
use Rattle.am_model.proofs.BroadcastLaws.{fold_in_turn}
use Rattle.am_queue_ordered.specs.Turns.{set_by, set_by_past, outcome_at, up_to, was_aborted, IsMarked}

-- the doings of those that are past, and one more
doings_and_one : (past : List Past) (last : Past) → map (λ (p : Past). p.doing) (past ++ last ∷ [])
    ≡ map (λ (p : Past). p.doing) past ++ last.doing ∷ []
doings_and_one past last = map-append (λ (p : Past). p.doing) past (last ∷ [])

-- the outcome after one doing
outcome_of_one : (outcome : Outcome) (no_abort : Bool) (doing : Doing) → fold_outcome outcome no_abort (doing ∷ [])
    ≡ outcome_after outcome (set_by doing)
outcome_of_one outcome no_abort Late = refl
outcome_of_one outcome no_abort Gone = refl
outcome_of_one outcome no_abort (Answered answer) = either (answer.abort && not no_abort)
  where
    either : (b : Bool) → cond b (outcome_after outcome answer.set) (outcome_after outcome answer.set)
        ≡ outcome_after outcome answer.set
    either true = refl
    either false = refl

-- the outcome after a turn
outcome_of-turned : (doing : Doing) (b : InTurn) (spot : Spot) (rest : List Spot)
    → outcome_of (turned doing b (spot ∷ rest)) ≡ cond (was_aborted b) (outcome_of b)
    (outcome_after (outcome_of b) (set_by doing))
outcome_of-turned doing b spot rest =
    ap (fold_outcome b.initial b.no_abort) (doings_and_one b.past (record { spot = spot; doing = doing }))
    ∙ fold_in_turn b.initial b.no_abort (doings b) (doing ∷ [])
    ∙ ap (cond (was_aborted b) (outcome_of b)) (outcome_of_one (outcome_of b) b.no_abort doing)

-- an abort that counts ends the broadcast
was_aborted-turned : (doing : Doing) (b : InTurn) (spot : Spot) (rest : List Spot)
    → was_aborted (turned doing b (spot ∷ rest)) ≡ was_aborted b || (not b.no_abort && is_abort doing)
was_aborted-turned doing b spot rest =
    ap (λ list. not b.no_abort && list_any is_abort list) (doings_and_one b.past
    (record { spot = spot; doing = doing }))
    ∙ ap (λ any. not b.no_abort && any) (list_any-append is_abort (doings b) (doing ∷ []))
    ∙ apart (not b.no_abort) (list_any is_abort (doings b)) (is_abort doing)
  where
    apart : (counts before now : Bool) → counts && (before || (now || false)) ≡ (counts && before) || (counts && now)
    apart true true now = refl
    apart true false true = refl
    apart true false false = refl
    apart false before now = refl

-- one more doesn't change the item at a place
slice_get-more : {X : Type 0} (xs : List X) (x : X) (place : ℕ) → place < length xs → slice_get (xs ++ x ∷ []) place
    ≡ slice_get xs place
slice_get-more [] x place below = absurd (omega arith)
slice_get-more (first ∷ others) x zero below = refl
slice_get-more (first ∷ others) x (suc place) below = slice_get-more others x place (omega arith)

-- one more is last
slice_get-last : {X : Type 0} (xs : List X) (x : X) → slice_get (xs ++ x ∷ []) (length xs) ≡ Some x
slice_get-last [] x = refl
slice_get-last (first ∷ others) x = slice_get-last others x

-- one more doesn't change the outcome that a place gives
outcome_at-more : (initial : Outcome) (past : List Past) (one : Past) (last : Option ℕ) → up_to last ≤ length past
    → outcome_at initial (past ++ one ∷ []) last ≡ outcome_at initial past last
outcome_at-more initial past one None within = refl
outcome_at-more initial past one (Some place) within =
    ap (λ found. outcome_after initial (set_by_past found)) (slice_get-more past one place (omega arith))

-- after a turn the marks that the code then keeps are those of the broadcast
pub marked_turned : (doing : Doing) (b : InTurn) (spot : Spot) (rest : List Spot) (last : Option ℕ) (aborted : Bool)
    → IsMarked b last aborted
    → IsMarked (turned doing b (spot ∷ rest)) (cond (is_some (set_by doing) && not aborted) (Some (length b.past)) last)
    (aborted || (not b.no_abort && is_abort doing))
marked_turned doing b spot rest last aborted marked = record {
  outcome = outcome_of-turned doing b spot rest ∙ rw (sym marked.ended) (by aborted (set_by doing) refl);
  within = rw length-append (bound (is_some (set_by doing) && not aborted));
  ended = rw marked.ended (sym (was_aborted-turned doing b spot rest));
}
  where
    one : Past
    one = record { spot = spot; doing = doing }

    bound : (b' : Bool) → up_to (cond b' (Some (length b.past)) last) ≤ length b.past + 1
    bound true = omega arith
    bound false = omega (arith, marked.within)

    stays : outcome_of b ≡ outcome_at b.initial (b.past ++ one ∷ []) last
    stays = marked.outcome ∙ sym (outcome_at-more b.initial b.past one last marked.within)

    by : (over : Bool) (set : Option Outcome) → set_by doing ≡ set
        → cond over (outcome_of b) (outcome_after (outcome_of b) set)
        ≡ outcome_at b.initial (b.past ++ one ∷ []) (cond (is_some set && not over) (Some (length b.past)) last)
    by true None is = stays
    by true (Some set) is = stays
    by false None is = stays
    by false (Some set) is =
        sym (ap (λ found. outcome_after b.initial (set_by_past found)) (slice_get-last b.past one)
        ∙ ap (outcome_after b.initial) is)
