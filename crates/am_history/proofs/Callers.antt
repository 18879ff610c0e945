-- Who has a key is a caller.
use Rattle.std.proofs.Common.{◌≡◌, ℕ, ◌==◌, Bool, true, false, ◌&&◌, ◌||◌, List, [], ◌∷◌, Option, Some, None, refl, subst, IsTrue}
use Rattle.std.specs.Prelude.{if◌then◌else◌, is_some}
use Rattle.std.proofs.lemmas.Bool.{eq-eqb, or_left, or_right}
use Rattle.am_types.specs.declared.device.Package.{Package}
use Rattle.am_model.specs.Texts.{is_same}
use Rattle.am_model.specs.Boards.{is_package_uid}
use Rattle.am_history.specs.State.{State, uid_of, has_uid, system_uid, root_uid, root_or, uid_of_package}

-- one of three tests holds, if one of the last two does
last_two_hold : (a b c : Bool) → b || c ≡ true → a || b || c ≡ true
last_two_hold true b c e = refl
last_two_hold false b c e = e

-- who has the key of a package is one of the packages
package_has_uid : (packages : List Package) (key : List ℕ) (uid : ℕ) → uid_of_package packages key ≡ Some uid
    → is_package_uid packages uid ≡ true
package_has_uid [] key uid is = absurd cc
package_has_uid (first ∷ others) key uid is = by (is_same first.key key) (package_has_uid others key uid) is
  where
    by : (b : Bool) → (uid_of_package others key ≡ Some uid → is_package_uid others uid ≡ true)
        → (if b then Some first.uid else uid_of_package others key) ≡ Some uid → is_package_uid (first ∷ others) uid
        ≡ true
    by true others_have found =
        let same : first.uid ≡ uid = cc in
        subst (λ (u : ℕ). is_package_uid (first ∷ others) u ≡ true) same
        (or_left (first.uid == first.uid) (is_package_uid others first.uid) (eq-eqb first.uid first.uid refl))
    by false others_have found = or_right (first.uid == uid) (is_package_uid others uid) (others_have found)

-- who has the root's key, or that of a package, is the root or one of the packages
root_has_uid : (root : Option (List ℕ)) (packages : List Package) (key : List ℕ) (uid : ℕ)
    → root_or root key (uid_of_package packages key) ≡ Some uid
    → (uid == root_uid && is_some root) || is_package_uid packages uid ≡ true
root_has_uid None packages key uid is = or_right (uid == root_uid && false) (is_package_uid packages uid)
    (package_has_uid packages key uid is)
root_has_uid (Some own) packages key uid is = by (is_same own key) is
  where
    by : (b : Bool) → (if b then Some root_uid else uid_of_package packages key) ≡ Some uid
        → (uid == root_uid && true) || is_package_uid packages uid ≡ true
    by true found =
        let same : root_uid ≡ uid = cc in
        subst (λ (u : ℕ). (u == root_uid && true) || is_package_uid packages u ≡ true) same refl
    by false found = or_right (uid == root_uid && true) (is_package_uid packages uid)
        (package_has_uid packages key uid found)

-- who has a key is a caller
pub uid_has_caller : (state : State) (key : List ℕ) (uid : ℕ) → uid_of state key ≡ Some uid → IsTrue (has_uid state uid)
uid_has_caller state key uid is = by (is_same state.system_key key) is
  where
    by : (b : Bool) → (if b then Some system_uid else root_or state.root_key key
        (uid_of_package state.board.packages key)) ≡ Some uid → has_uid state uid ≡ true
    by true found =
        let same : system_uid ≡ uid = cc in
        subst (λ (u : ℕ). has_uid state u ≡ true) same refl
    by false found =
        last_two_hold (uid == system_uid) (uid == root_uid && is_some state.root_key)
        (is_package_uid state.board.packages uid)
        (root_has_uid state.root_key state.board.packages key uid found)
