-- A registered receiver that comes last.
use Rattle.std.proofs.Common.{◌≡◌, ◌<◌, Bool, true, false, cond, ltb, List, [], ◌∷◌, ◌++◌, refl, ap, ◌∙◌, arith}
use Rattle.std.specs.Prelude.{All}
use Rattle.std.specs.List.{AllByRecursion}
use Rattle.std.proofs.lemmas.Bool.{ltb-true}
use Rattle.std.proofs.lemmas.List.Elements.{recursion_from_All}
use Rattle.am_types.specs.declared.resolve.Registration.{Registration}
use Rattle.am_installed.specs.Places.{place_registered}

last_placed : (r : Registration) (rs : List Registration) → AllByRecursion (λ (s : Registration). s.number < r.number)
    rs → place_registered r rs ≡ rs ++ r ∷ []
last_placed r [] a = refl
last_placed r (s ∷ rs) a = ap (λ b. cond b (r ∷ s ∷ rs) (s ∷ place_registered r rs)) (by (ltb r.number s.number) refl)
    ∙ ap (λ l. s ∷ l) (last_placed r rs a.1)
  where
    by : (b : Bool) → ltb r.number s.number ≡ b → b ≡ false
    by true e = absurd (let back : r.number < s.number = ltb-true r.number s.number e in let lower : s.number < r.number
        = a.0 in omega (arith, back, lower))
    by false e = refl

-- a registered receiver whose number is above all others comes after them
pub place_last : (r : Registration) (rs : List Registration) → All (λ (s : Registration). s.number < r.number) rs
    → place_registered r rs ≡ rs ++ r ∷ []
place_last r rs above = last_placed r rs (recursion_from_All (λ (s : Registration). s.number < r.number) rs above)
