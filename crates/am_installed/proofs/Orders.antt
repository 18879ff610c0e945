-- Grants, links and registered receivers stay in order whatever changes.
use Rattle.std.proofs.Common.{◌≡◌, ℕ, ◌<◌, ◌≤◌, arith, Bool, true, false, cond, ltb, List, [], ◌∷◌, filter, refl, sym, ◌∙◌, subst, Result, Ok, Err}
use Rattle.std.specs.Prelude.{OnOk, OnErr}
use Rattle.std.specs.List.{AllByRecursion}
use Rattle.std.specs.List.Sorted.{IsStrictlySortedBy}
use Rattle.std.proofs.lemmas.Bool.{ltb-true, ltb-false}
use Rattle.am_types.specs.declared.device.Grant.{Grant}
use Rattle.am_types.specs.declared.device.Link.{Link}
use Rattle.am_types.specs.declared.resolve.Registration.{Registration}
use Rattle.am_model.specs.Boards.{Board, with_grant, with_link}
use Rattle.am_model.specs.Rights.{grant_of, link_of, of_grant, of_link}
use Rattle.am_model.specs.Sound.{right_cmp, rights_approved, rights_granted}
use Rattle.am_model.proofs.Lists.{all_inserted, ascends_by_left}
use Rattle.am_model.proofs.Rights.{fewer_in_order, with_in_order}
use Rattle.am_installed.specs.Installed.{IsInOrder}
use Rattle.am_installed.specs.Places.{AreByNumber, before_registered, place_registered}

-- grants stay in order when some go
pub fewer_grants : (p : Grant → Bool) (gs : List Grant) → IsStrictlySortedBy right_cmp (rights_granted gs)
    → IsStrictlySortedBy right_cmp (rights_granted (filter p gs))
fewer_grants p gs sorted = fewer_in_order of_grant p gs sorted

-- and links
pub fewer_links : (p : Link → Bool) (ls : List Link) → IsStrictlySortedBy right_cmp (rights_approved ls)
    → IsStrictlySortedBy right_cmp (rights_approved (filter p ls))
fewer_links p ls sorted = fewer_in_order of_link p ls sorted

-- grants stay in order when one is given or taken away
pub grants_in_order : (grants : List Grant) (uid : ℕ) (permission : List ℕ) (held : Bool)
    → IsStrictlySortedBy right_cmp (rights_granted grants) → IsStrictlySortedBy right_cmp
    (rights_granted (with_grant grants uid permission held))
grants_in_order grants uid permission held sorted = with_in_order of_grant grant_of (λ u t. refl) grants uid permission
    held sorted

-- and links
pub links_in_order : (links : List Link) (uid : ℕ) (host : List ℕ) (approved : Bool)
    → IsStrictlySortedBy right_cmp (rights_approved links) → IsStrictlySortedBy right_cmp
    (rights_approved (with_link links uid host approved))
links_in_order links uid host approved sorted = with_in_order of_link link_of (λ u t. refl) links uid host approved
    sorted

no_less_all : (n m : ℕ) (rs : List Registration) → n ≤ m → AllByRecursion (λ (s : Registration). m ≤ s.number) rs
    → AllByRecursion (λ (s : Registration). n ≤ s.number) rs
no_less_all n m [] h a = tt
no_less_all n m (s ∷ rs) h a = (let k : m ≤ s.number = a.0 in omega (arith, h, k), no_less_all n m rs h a.1)

-- registered receivers stay in order when one comes
pub registered_in_order : (r : Registration) (rs : List Registration) → AreByNumber rs
    → AreByNumber (place_registered r rs)
registered_in_order r [] sorted = (tt, tt)
registered_in_order r (s ∷ rs) sorted = by (ltb r.number s.number) refl (registered_in_order r rs sorted.1)
  where
    by : (b : Bool) → ltb r.number s.number ≡ b → AreByNumber (place_registered r rs)
        → AreByNumber (cond b (r ∷ s ∷ rs) (s ∷ place_registered r rs))
    by true e rest =
        let lower : r.number < s.number = ltb-true r.number s.number e in
        let no_greater : r.number ≤ s.number = omega (arith, lower) in
        ((no_greater, no_less_all r.number s.number rs no_greater sorted.0), sorted)
    by false e rest = (
      all_inserted before_registered (λ (t : Registration). s.number ≤ t.number) r rs
          (ltb-false r.number s.number e) sorted.0,
      rest,
    )

-- and when some go
pub fewer_registered : (p : Registration → Bool) (rs : List Registration) → AreByNumber rs → AreByNumber (filter p rs)
fewer_registered p rs sorted = ascends_by_left (λ (first r : Registration). first.number ≤ r.number) p rs sorted

-- and so does everything else that is installed
pub in_order_left : (board : Board) (keeps : Registration → Bool) → IsInOrder board
    → IsInOrder (record board { registered = filter keeps board.registered })
in_order_left board keeps order = record {
  packages = order.packages;
  grants = order.grants;
  links = order.links;
  registered = fewer_registered keeps board.registered order.registered;
}

-- what was taken out, whether or not it was changed, is put back as it has to be
pub put_back : {T E X : Type 0} (P : X → Type 0) (r : Result T E) (change : X → X) {was taken left put : X}
    → taken ≡ was → OnOk r (left ≡ change taken) → OnErr r (left ≡ taken) → put ≡ left
    → ((x : X) → P x → P (change x)) → P was → P put
put_back P (Ok x) change {taken = taken} taken_is ok err put_is keeps before =
    subst P (sym (put_is ∙ ok)) (keeps taken (subst P (sym taken_is) before))
put_back P (Err e) change taken_is ok err put_is keeps before =
    subst P (sym (put_is ∙ err)) (subst P (sym taken_is) before)
