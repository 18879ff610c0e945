-- What follows from tests that hold, or don't.
use Rattle.std.proofs.Common.{◌≡◌, Bool, true, false, not, ◌&&◌, ◌||◌, cond, refl}

-- what holds of both holds of either
pub either_holds : {A : Type 0} (Q : A → Type 0) (test : Bool) (first second : A) → Q first → Q second
    → Q (cond test first second)
either_holds Q true first second one other = one
either_holds Q false first second one other = other

-- both of two tests hold
pub both : (a b : Bool) → a && b ≡ true → (a ≡ true) × (b ≡ true)
both true b e = (refl, e)
both false b e = absurd cc

-- neither of two tests holds
pub neither : (a b : Bool) → a || b ≡ false → (a ≡ false) × (b ≡ false)
neither false b e = (refl, e)
neither true b e = absurd cc

-- a test that doesn't hold
pub unless_true : (a : Bool) → not a ≡ true → a ≡ false
unless_true true e = absurd cc
unless_true false e = refl
