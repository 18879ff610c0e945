-- Who holds a delivery or a result is the uid that its number is for.
use Rattle.std.proofs.Common.{◌≡◌, ℕ, Bool, true, false, cond, eqb, List, [], ◌∷◌, refl, sym, ap, ◌∙◌, subst}
use Rattle.std.specs.Prelude.{All, Option, Some, None}
use Rattle.std.proofs.lemmas.Bool.{eqb-true}
use Rattle.std.proofs.lemmas.List.Elements.{All-head, All-tail}
use Rattle.am_types.specs.declared.broadcast.Spot.{Spot}
use Rattle.am_model.specs.Broadcasts.{Broadcasts, InTurn, Normal, Delivery, Current, Result}
use Rattle.am_model.specs.Sending.{is_current, Held, or_held, held_in_deliveries, held_in_normals, held_by, held_at_head, held_in_results, held}
use Rattle.am_laws_courses.proofs.Holders.{IsFor, CurrentFor, TurnFor, NormalFor, ResultFor, IsHeldBy}

module _ (f : ℕ → ℕ) (next number : ℕ) where
  -- who holds what is found by its number
  abbrev IfHeld : Option Held → Type 0
  IfHeld None = Unit {0}
  IfHeld (Some holder) = f number ≡ holder.uid

  or_for : (first second : Option Held) → IfHeld first → IfHeld second → IfHeld (or_held first second)
  or_for None second one other = other
  or_for (Some holder) second one other = one

  by_number : (other : ℕ) (uid : ℕ) (ordered : Bool) (rest : Option Held) (b : Bool) → eqb other number ≡ b
      → IsFor f next other uid → IfHeld rest
      → IfHeld (cond b (Some (record { uid = uid; ordered = ordered })) rest)
  by_number other uid ordered rest true same one all = ap f (sym (eqb-true other number same)) ∙ one.is
  by_number other uid ordered rest false same one all = all

  in_deliveries : (deliveries : List Delivery) → All (λ (d : Delivery). IsFor f next d.number d.spot.uid) deliveries
      → IfHeld (held_in_deliveries number deliveries)
  in_deliveries [] all = tt
  in_deliveries (first ∷ others) all =
      by_number first.number first.spot.uid false (held_in_deliveries number others) (eqb first.number number) refl
      (All-head (λ (d : Delivery). IsFor f next d.number d.spot.uid) first others all)
      (in_deliveries others (All-tail (λ (d : Delivery). IsFor f next d.number d.spot.uid) first others all))

  in_normals : (normal : List Normal) → All (NormalFor f next) normal → IfHeld (held_in_normals number normal)
  in_normals [] all = tt
  in_normals (first ∷ others) all =
      or_for (held_in_deliveries number first.deliveries) (held_in_normals number others)
      (in_deliveries first.deliveries (All-head (NormalFor f next) first others all))
      (in_normals others (All-tail (NormalFor f next) first others all))

  in_results : (results : List Result) → All (ResultFor f next) results → IfHeld (held_in_results number results)
  in_results [] all = tt
  in_results (first ∷ others) all =
      by_number first.delivery first.sender false (held_in_results number others) (eqb first.delivery number) refl
      (All-head (ResultFor f next) first others all) (in_results others (All-tail (ResultFor f next) first others all))

  -- the first receiver that is left, where the delivery is the current one
  pub current_is : (spot : Spot) (rest : List Spot) (current : Option Current) → CurrentFor f next (spot ∷ rest) current
      → is_current number current ≡ true → f number ≡ spot.uid
  current_is spot rest None one test = absurd cc
  current_is spot rest (Some current) one test = ap f (sym (eqb-true current.number number test)) ∙ one.is

  at_head : (queue : List InTurn) → All (TurnFor f next) queue → IfHeld (held_at_head number queue)
  at_head [] all = tt
  at_head (head ∷ others) all = by head.rest (is_current number head.current) refl
      (All-head (TurnFor f next) head others all)
    where
      by : (rest : List Spot) (b : Bool) → is_current number head.current ≡ b → CurrentFor f next rest head.current
          → IfHeld (cond b (held_by rest) None)
      by [] true test one = tt
      by (spot ∷ rest) true test one = current_is spot rest head.current one test
      by rest false test one = tt

-- who holds a number is the uid that it is for
pub held_is : (f : ℕ → ℕ) (all : Broadcasts) (number : ℕ) (holder : Held) → IsHeldBy f all → held all number
    ≡ Some holder → f number ≡ holder.uid
held_is f all number holder has is = subst (λ (o : Option Held). IfHeld f all.next_delivery number o) is found
  where
    found : IfHeld f all.next_delivery number (held all number)
    found =
        or_for f all.next_delivery number _ _ (in_normals f all.next_delivery number all.normal has.normal)
        (or_for f all.next_delivery number _ _ (at_head f all.next_delivery number all.foreground has.foreground)
        (or_for f all.next_delivery number _ _ (at_head f all.next_delivery number all.background has.background)
        (in_results f all.next_delivery number all.results has.results)))
