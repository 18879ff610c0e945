-- What holds of the broadcast of a result, when something follows from it, or when receivers are struck that it had
-- left.
use Rattle.std.proofs.Common.{◌≡◌, Bool, true, false, not, ◌&&◌, ◌||◌, List, [], ◌∷◌, refl, sym}
use Rattle.std.specs.Prelude.{Option, Some, filter}
use Rattle.std.specs.List.{list_any}
use Rattle.am_types.specs.declared.broadcast.Spot.{Spot}
use Rattle.am_model.specs.Filters.{is_empty}
use Rattle.am_model.specs.Broadcasts.{InTurn, Current, Result, fold_outcome, doings, is_abort, is_over}
use Rattle.am_model.specs.Sending.{strike_rest}
use Rattle.am_laws_courses.proofs.Courses.{Settling}

-- the result is that of a broadcast of which this holds, and that ended
pub record OutcomeBy (P : InTurn → Type 0) (r : Result) : Type 0 where
  pub of : InTurn
  pub course : P of
  pub over : is_over of ≡ true
  pub wanted : of.wanted ≡ true
  pub number : r.broadcast ≡ of.number
  pub sender : r.sender ≡ of.sender
  pub outcome : r.outcome ≡ fold_outcome of.initial of.no_abort (doings of)

-- so a queue settles
pub settling : (P : InTurn → Type 0) → ((b : InTurn) (current : Option Current) → P b
    → P (record b { current = current })) → Settling P (OutcomeBy P)
settling P gives = record {
  gives = λ b current none one. gives b (Some current) one;
  ends = λ b delivery one over wanted. record {
    of = b;
    course = one;
    over = over;
    wanted = wanted;
    number = refl;
    sender = refl;
    outcome = refl;
  };
}

-- what follows
pub outcome_follows : (P Q : InTurn → Type 0) (r : Result) → ((b : InTurn) → b.number ≡ r.broadcast → P b → Q b)
    → OutcomeBy P r → OutcomeBy Q r
outcome_follows P Q r follows one = record {
  of = one.of;
  course = follows one.of (sym one.number) one.course;
  over = one.over;
  wanted = one.wanted;
  number = one.number;
  sender = one.sender;
  outcome = one.outcome;
}

-- it stays over without some of those that were left
still_over : (struck : Spot → Bool) (b : InTurn) → is_over b ≡ true → is_over (strike_rest struck b) ≡ true
still_over struck b over = by b.rest (not b.no_abort && list_any is_abort (doings b)) over
  where
    or_true : (first : Bool) → first || true ≡ true
    or_true true = refl
    or_true false = refl

    by : (rest : List Spot) (aborted : Bool) → is_empty rest || aborted ≡ true
        → is_empty (filter (λ (s : Spot). not (struck s)) rest) || aborted ≡ true
    by [] aborted is = refl
    by (spot ∷ rest) true is = or_true (is_empty (filter (λ (s : Spot). not (struck s)) (spot ∷ rest)))
    by (spot ∷ rest) false is = absurd cc

pub outcome_struck : (P Q : InTurn → Type 0) (r : Result) (struck : Spot → Bool)
    → ((b : InTurn) → b.number ≡ r.broadcast → P b → Q (strike_rest struck b))
    → OutcomeBy P r → OutcomeBy Q r
outcome_struck P Q r struck follows one = record {
  of = strike_rest struck one.of;
  course = follows one.of (sym one.number) one.course;
  over = still_over struck one.of one.over;
  wanted = one.wanted;
  number = one.number;
  sender = one.sender;
  outcome = one.outcome;
}
