-- The package of a name is installed.
use Rattle.std.proofs.Common.{◌≡◌, ℕ, Bool, true, false, ◌||◌, List, [], ◌∷◌, refl, subst, arith}
use Rattle.std.specs.Prelude.{Some, ◌==◌, if◌then◌else◌}
use Rattle.am_types.specs.declared.device.Package.{Package}
use Rattle.am_model.specs.Boards.{is_package_uid, package_named}
use Rattle.am_model.specs.Texts.{is_same}

-- what is found by its name is installed
pub named_is_live : (packages : List Package) (name : List ℕ) (owner : Package) → package_named packages name
    ≡ Some owner → is_package_uid packages owner.uid ≡ true
named_is_live [] name owner is = absurd cc
named_is_live (first ∷ others) name owner is = by (is_same first.name name) (named_is_live others name owner) is
  where
    second : (a b : Bool) → b ≡ true → a || b ≡ true
    second true b e = refl
    second false b e = e

    itself : (n : ℕ) → (n == n) ≡ true
    itself n = grind (arith)

    first_is : (a b : Bool) → a ≡ true → a || b ≡ true
    first_is true b e = refl
    first_is false b e = cc

    by : (b : Bool) → (package_named others name ≡ Some owner → is_package_uid others owner.uid ≡ true)
        → (if b then Some first else package_named others name) ≡ Some owner → is_package_uid (first ∷ others) owner.uid
        ≡ true
    by true rest found =
        let same : first ≡ owner = cc in
        subst (λ (p : Package). is_package_uid (first ∷ others) p.uid ≡ true) same
        (first_is (first.uid == first.uid) (is_package_uid others first.uid) (itself first.uid))
    by false rest found = second (first.uid == owner.uid) (is_package_uid others owner.uid) (rest found)
