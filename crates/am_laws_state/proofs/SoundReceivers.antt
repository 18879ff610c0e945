-- Registered receivers stay sound when one comes or goes.
use Rattle.std.proofs.Common.{ℕ, ◌+◌, ◌<◌, Bool, List, [], ◌∷◌, ◌++◌, subst, arith}
use Rattle.std.specs.Prelude.{filter}
use Rattle.std.proofs.lemmas.List.Elements.{All-filter, All-push, All-weaker}
use Rattle.am_types.specs.declared.resolve.Registration.{Registration}
use Rattle.am_installed.specs.Places.{AreByNumber}
use Rattle.am_installed.proofs.Orders.{fewer_registered, registered_in_order}
use Rattle.am_installed.proofs.Placing.{place_last}
use Rattle.am_laws_state.specs.Sound.{AreSoundReceivers}

-- some go
pub receivers_left : (keeps : Registration → Bool) (registered : List Registration) (next : ℕ)
    → AreSoundReceivers registered next
    → AreSoundReceivers (filter keeps registered) next
receivers_left keeps registered next sound = record {
  order = fewer_registered keeps registered sound.order;
  below = All-filter keeps (λ (r : Registration). r.number < next) registered sound.below;
}

-- a number below another is below one more
below_one_more : (n : ℕ) (r : Registration) → r.number < n → r.number < n + 1
below_one_more n r below = omega arith

-- the next one comes
pub receivers_more : (registered : List Registration) (r : Registration) → AreSoundReceivers registered r.number
    → AreSoundReceivers (registered ++ r ∷ []) (r.number + 1)
receivers_more registered r sound = record {
  order = subst AreByNumber (place_last r registered sound.below) (registered_in_order r registered sound.order);
  below = All-push (λ (s : Registration). s.number < r.number + 1) registered r
      (All-weaker (λ (s : Registration). s.number < r.number) (λ (s : Registration). s.number < r.number + 1)
      (below_one_more r.number) registered sound.below)
      (omega arith);
}
