-- Grants and links stay sound when one is given or taken, and when packages come and go.
use Rattle.std.proofs.Common.{◌≡◌, ℕ, suc, ◌<◌, ◌≤◌, Bool, true, false, not, ◌&&◌, ◌||◌, cond, eqb, List, [], ◌∷◌, length, map, refl, sym, ap, ◌∙◌, subst, arith}
use Rattle.std.specs.Prelude.{All, filter, IsTrue, nat_le, nat_lt, ◌==◌}
use Rattle.std.specs.List.{AllByRecursion, count_by}
use Rattle.std.proofs.lemmas.Bool.{leb-false, eqb-true, eq-eqb}
use Rattle.std.proofs.lemmas.List.Elements.{All-from_recursion, recursion_from_All, All-weaker}
use Rattle.std.proofs.lemmas.List.Sums.{length-filter}
use Rattle.am_types.specs.declared.device.Package.{Package}
use Rattle.am_types.specs.declared.device.Grant.{Grant}
use Rattle.am_types.specs.declared.device.Link.{Link}
use Rattle.am_model.specs.Boards.{is_package_uid, with_stopped, without_package, with_grant, grants_without, with_link, links_without}
use Rattle.am_model.specs.Lists.{inserted}
use Rattle.am_model.specs.Rights.{Right, before_right, grant_of, has_right, is_right, link_of, of_grant, of_link, rights_without, with_right}
use Rattle.am_model.specs.Sound.{AreSoundRights, rights_granted, rights_approved}
use Rattle.am_model.proofs.Lists.{all_map_inserted, all_map_filter, filter_inserted, filter_left}
use Rattle.am_model.proofs.Rights.{fewer_in_order, with_in_order}
use Rattle.am_history.specs.Opening.{before_package}
use Rattle.am_history.specs.Packages.{too_many_grants, too_many_links}

-- a right is of an installed package
abbrev pub IsHeld : List Package → ℕ × List ℕ → Type 0
IsHeld packages right = IsTrue (is_package_uid packages right.0)

-- no uid has more than 256 of these rights
abbrev pub AreFew : List (ℕ × List ℕ) → Type 0
AreFew rights = (uid : ℕ) → count_by (λ (right : ℕ × List ℕ). right.0 == uid) rights ≤ 256

-- who is still installed keeps its rights
pub held_through : (packages others : List Package) (rights : List (ℕ × List ℕ))
    → ((uid : ℕ) → is_package_uid packages uid ≡ true → is_package_uid others uid ≡ true)
    → All (IsHeld packages) rights → All (IsHeld others) rights
held_through packages others rights stays held = All-weaker (IsHeld packages) (IsHeld others)
    (λ right live. stays right.0 live) rights held

-- one of two tests holds where another takes the second's place
one_or : (a b c : Bool) → (b ≡ true → c ≡ true) → a || b ≡ true → a || c ≡ true
one_or true b c rest e = refl
one_or false b c rest e = rest e

-- stopping a package leaves all installed
pub stopped_stays : (packages : List Package) (uid : ℕ) (stopped : Bool) (other : ℕ) → is_package_uid packages other
    ≡ true
    → is_package_uid (with_stopped packages uid stopped) other ≡ true
stopped_stays [] uid stopped other live = live
stopped_stays (p ∷ ps) uid stopped other live = by (eqb p.uid uid)
    (one_or (p.uid == other) (is_package_uid ps other) after (stopped_stays ps uid stopped other) live)
  where
    after : Bool
    after = is_package_uid (with_stopped ps uid stopped) other

    by : (b : Bool) → (p.uid == other) || after ≡ true → ((cond b (record p { stopped = stopped }) p).uid == other) ||
        after ≡ true
    by true rest = rest
    by false rest = rest

-- a package that comes leaves all installed
pub inserted_stays : (p : Package) (packages : List Package) (other : ℕ) → is_package_uid packages other ≡ true
    → is_package_uid (inserted before_package p packages) other ≡ true
inserted_stays p [] other live = absurd cc
inserted_stays p (first ∷ others) other live = by (nat_lt p.uid first.uid) (inserted_stays p others other)
  where
    after : (a b : Bool) → b ≡ true → a || b ≡ true
    after true b e = refl
    after false b e = e

    by : (b : Bool) → (is_package_uid others other ≡ true → is_package_uid (inserted before_package p others) other
        ≡ true)
        → is_package_uid (cond b (p ∷ first ∷ others) (first ∷ inserted before_package p others)) other ≡ true
    by true rest = after (p.uid == other) (is_package_uid (first ∷ others) other) live
    by false rest = one_or (first.uid == other) (is_package_uid others other)
        (is_package_uid (inserted before_package p others) other) rest live

-- a package that goes leaves the others installed
without_stays : (packages : List Package) (uid other : ℕ) → eqb other uid ≡ false → is_package_uid packages other ≡ true
    → is_package_uid (without_package packages uid) other ≡ true
without_stays [] uid other differs live = live
without_stays (p ∷ ps) uid other differs live = by (eqb p.uid uid) (eqb p.uid other) refl refl
    (without_stays ps uid other differs) live
  where
    by : (b c : Bool) → eqb p.uid uid ≡ b → eqb p.uid other ≡ c → (is_package_uid ps other ≡ true
        → is_package_uid (without_package ps uid) other ≡ true)
        → c || is_package_uid ps other ≡ true → is_package_uid (cond (not b) (p ∷ without_package ps uid)
        (without_package ps uid)) other ≡ true
    by true true is also rest live =
        let first : p.uid ≡ uid = eqb-true p.uid uid is in
        let second : p.uid ≡ other = eqb-true p.uid other also in
        let same : eqb other uid ≡ true = eq-eqb other uid (sym second ∙ first) in
        absurd cc
    by true false is also rest live = rest live
    by false true is also rest live = ap (λ b. b || is_package_uid (without_package ps uid) other) also
    by false false is also rest live = ap (λ b. b || is_package_uid (without_package ps uid) other) also ∙ rest live

module _ {X : Type 0} (as_right : X → ℕ × List ℕ) where
  -- as many rights of a uid as things that stand for one
  pub counted : (uid : ℕ) (xs : List X) → count_by (λ (right : ℕ × List ℕ). right.0 == uid) (map as_right xs)
      ≡ length (filter (λ (x : X). (as_right x).0 == uid) xs)
  counted uid xs = sym (length-filter (λ (right : ℕ × List ℕ). right.0 == uid) (map as_right xs)) ∙ by xs
    where
      by : (xs : List X) → length (filter (λ (right : ℕ × List ℕ). right.0 == uid) (map as_right xs))
          ≡ length (filter (λ (x : X). (as_right x).0 == uid) xs)
      by [] = refl
      by (x ∷ xs) = one ((as_right x).0 == uid) (by xs)
        where
          one : (b : Bool) → length (filter (λ (right : ℕ × List ℕ). right.0 == uid) (map as_right xs))
              ≡ length (filter (λ (x : X). (as_right x).0 == uid) xs)
              → length (cond b (as_right x ∷ filter (λ (right : ℕ × List ℕ). right.0 == uid) (map as_right xs))
              (filter (λ (right : ℕ × List ℕ). right.0 == uid) (map as_right xs)))
              ≡ length (cond b (x ∷ filter (λ (y : X). (as_right y).0 == uid) xs)
              (filter (λ (y : X). (as_right y).0 == uid) xs))
          one true rest = ap suc rest
          one false rest = rest

  -- fewer are few
  pub few_left : (keeps : X → Bool) (xs : List X) → AreFew (map as_right xs) → AreFew (map as_right (filter keeps xs))
  few_left keeps xs few uid =
      let all : count_by (λ (right : ℕ × List ℕ). right.0 == uid) (map as_right xs) ≤ 256 = few uid in
      omega (
        arith,
        counted uid (filter keeps xs),
        counted uid xs,
        filter_left keeps (λ (x : X). (as_right x).0 == uid)
            xs,
      )

  -- one more of a uid that has fewer
  few_inserted : (before : X → X → Bool) (x : X) (xs : List X) → length
      (filter (λ (y : X). (as_right y).0 == (as_right x).0) xs) < 256
      → AreFew (map as_right xs) → AreFew (map as_right (inserted before x xs))
  few_inserted before x xs room few uid = by (eqb (as_right x).0 uid) refl
    where
      test : X → Bool
      test y = (as_right y).0 == uid

      by : (b : Bool) → eqb (as_right x).0 uid ≡ b → count_by (λ (right : ℕ × List ℕ). right.0 == uid)
          (map as_right (inserted before x xs)) ≤ 256
      by true is =
          let same : (as_right x).0 ≡ uid = eqb-true (as_right x).0 uid is in
          let fits : length (filter test xs) < 256 = subst (λ u. length (filter (λ (y : X). (as_right y).0 == u) xs) <
          256) same room in
          let all : length (filter test (x ∷ xs)) ≡ suc (length (filter test xs)) = ap
          (λ b. length (cond b (x ∷ filter test xs) (filter test xs))) is in
          omega (arith, counted uid (inserted before x xs), filter_inserted before test x xs)
      by false is =
          let fits : count_by (λ (right : ℕ × List ℕ). right.0 == uid) (map as_right xs) ≤ 256 = few uid in
          let all : length (filter test (x ∷ xs)) ≡ length (filter test xs) = ap
          (λ b. length (cond b (x ∷ filter test xs) (filter test xs))) is in
          omega (arith, counted uid (inserted before x xs), filter_inserted before test x xs, counted uid xs)

  -- the rights of the packages that are left
  left_held : (packages : List Package) (uid : ℕ) (xs : List X) → AllByRecursion (IsHeld packages) (map as_right xs)
      → AllByRecursion (IsHeld (without_package packages uid)) (map as_right
      (filter (λ (x : X). not ((as_right x).0 == uid)) xs))
  left_held packages uid [] held = tt
  left_held packages uid (x ∷ xs) held = by (eqb (as_right x).0 uid) refl (left_held packages uid xs held.1)
    where
      left : List X
      left = filter (λ (y : X). not ((as_right y).0 == uid)) xs

      by : (b : Bool) → eqb (as_right x).0 uid ≡ b → AllByRecursion (IsHeld (without_package packages uid))
          (map as_right left)
          → AllByRecursion (IsHeld (without_package packages uid)) (map as_right (cond (not b) (x ∷ left) left))
      by true is rest = rest
      by false is rest = (without_stays packages uid (as_right x).0 is held.0, rest)

  -- the rights of an installed package when one is given or taken
  module _ (made : ℕ → List ℕ → X) (made_is : (uid : ℕ) (text : List ℕ) → as_right (made uid text) ≡ (uid, text)) where
    pub rights_held : (packages : List Package) (xs : List X) (uid : ℕ) (text : List ℕ) (held : Bool)
        → is_package_uid packages uid ≡ true
        → All (IsHeld packages) (map as_right xs) → All (IsHeld packages)
        (map as_right (with_right as_right made xs uid text held))
    rights_held packages xs uid text held live all =
        All-from_recursion (IsHeld packages) (map as_right (with_right as_right made xs uid text held))
        (by held (recursion_from_All (IsHeld packages) (map as_right xs) all))
      where
        more : (b : Bool) → AllByRecursion (IsHeld packages) (map as_right xs)
            → AllByRecursion (IsHeld packages) (map as_right (cond b xs
            (inserted (before_right as_right) (made uid text) xs)))
        more true each = each
        more false each =
            all_map_inserted (before_right as_right) as_right (IsHeld packages) (made uid text) xs
            (subst (IsHeld packages) (sym (made_is uid text)) live) each

        by : (b : Bool) → AllByRecursion (IsHeld packages) (map as_right xs)
            → AllByRecursion (IsHeld packages) (map as_right (with_right as_right made xs uid text b))
        by true each = more (has_right as_right xs uid text) each
        by false each = all_map_filter (λ (x : X). not (is_right as_right uid text x)) as_right (IsHeld packages) xs
            each

    -- one more where there is room
    rights_few : (xs : List X) (uid : ℕ) (text : List ℕ) (held : Bool)
        → (held && not (has_right as_right xs uid text)) && nat_le 256 (count_by (λ (x : X). (as_right x).0 == uid) xs)
        ≡ false
        → AreFew (map as_right xs) → AreFew (map as_right (with_right as_right made xs uid text held))
    rights_few xs uid text false room few = few_left (λ (x : X). not (is_right as_right uid text x)) xs few
    rights_few xs uid text true room few = by (has_right as_right xs uid text) room
      where
        test : X → Bool
        test x = (as_right x).0 == uid

        by : (b : Bool) → (true && not b) && nat_le 256 (count_by test xs) ≡ false
            → AreFew (map as_right (cond b xs (inserted (before_right as_right) (made uid text) xs)))
        by true e = few
        by false e =
            let fits : length (filter test xs) < 256 = subst (λ n. n < 256) (sym (length-filter test xs))
            (leb-false 256 (count_by test xs) e) in
            few_inserted (before_right as_right) (made uid text) xs
            (subst (λ (r : Right). length (filter (λ (x : X). (as_right x).0 == r.0) xs) < 256) (sym (made_is uid text))
            fits) few

    -- rights stay sound when one is given or taken
    rights_given : (packages : List Package) (xs : List X) (uid : ℕ) (text : List ℕ) (held : Bool)
        → is_package_uid packages uid ≡ true
        → (held && not (has_right as_right xs uid text)) && nat_le 256 (count_by (λ (x : X). (as_right x).0 == uid) xs)
        ≡ false
        → AreSoundRights packages (map as_right xs) → AreSoundRights packages
        (map as_right (with_right as_right made xs uid text held))
    rights_given packages xs uid text held live room sound = record {
      order = with_in_order as_right made made_is xs uid text held sound.order;
      holders = rights_held packages xs uid text held live sound.holders;
      few = rights_few xs uid text held room sound.few;
    }

  -- who has a right is installed still when a package goes with its own
  pub rights_held_without : (packages : List Package) (xs : List X) (uid : ℕ) → All (IsHeld packages) (map as_right xs)
      → All (IsHeld (without_package packages uid)) (map as_right (rights_without as_right xs uid))
  rights_held_without packages xs uid held =
      All-from_recursion (IsHeld (without_package packages uid)) (map as_right (rights_without as_right xs uid))
      (left_held packages uid xs (recursion_from_All (IsHeld packages) (map as_right xs) held))

  -- a package goes with its rights
  rights_gone : (packages : List Package) (xs : List X) (uid : ℕ) → AreSoundRights packages (map as_right xs)
      → AreSoundRights (without_package packages uid) (map as_right (rights_without as_right xs uid))
  rights_gone packages xs uid sound = record {
    order = fewer_in_order as_right (λ (x : X). not ((as_right x).0 == uid)) xs sound.order;
    holders = rights_held_without packages xs uid sound.holders;
    few = few_left (λ (x : X). not ((as_right x).0 == uid)) xs sound.few;
  }

-- an installed package is given a permission, or loses one
pub grants_held : (packages : List Package) (grants : List Grant) (uid : ℕ) (permission : List ℕ) (held : Bool)
    → is_package_uid packages uid ≡ true
    → All (IsHeld packages) (rights_granted grants) → All (IsHeld packages)
    (rights_granted (with_grant grants uid permission held))
grants_held packages grants uid permission held live all = rights_held of_grant grant_of (λ u t. refl) packages grants
    uid permission held live all

-- or is approved for a host, or not any more
pub links_held : (packages : List Package) (links : List Link) (uid : ℕ) (host : List ℕ) (approved : Bool)
    → is_package_uid packages uid ≡ true
    → All (IsHeld packages) (rights_approved links) → All (IsHeld packages)
    (rights_approved (with_link links uid host approved))
links_held packages links uid host approved live all = rights_held of_link link_of (λ u t. refl) packages links uid host
    approved live all

-- grants stay sound when one is given or taken
pub grants_given : (packages : List Package) (grants : List Grant) (uid : ℕ) (permission : List ℕ) (held : Bool)
    → is_package_uid packages uid ≡ true
    → too_many_grants grants uid permission held ≡ false → AreSoundRights packages (rights_granted grants)
    → AreSoundRights packages (rights_granted (with_grant grants uid permission held))
grants_given packages grants uid permission held live room sound = rights_given of_grant grant_of (λ u t. refl) packages
    grants uid permission held live room sound

-- and so do links
pub links_given : (packages : List Package) (links : List Link) (uid : ℕ) (host : List ℕ) (approved : Bool)
    → is_package_uid packages uid ≡ true
    → too_many_links links uid host approved ≡ false → AreSoundRights packages (rights_approved links)
    → AreSoundRights packages (rights_approved (with_link links uid host approved))
links_given packages links uid host approved live room sound = rights_given of_link link_of (λ u t. refl) packages links
    uid host approved live room sound

-- a package goes with its grants
pub grants_gone : (packages : List Package) (grants : List Grant) (uid : ℕ)
    → AreSoundRights packages (rights_granted grants)
    → AreSoundRights (without_package packages uid) (rights_granted (grants_without grants uid))
grants_gone packages grants uid sound = rights_gone of_grant packages grants uid sound

-- and with its links
pub links_gone : (packages : List Package) (links : List Link) (uid : ℕ)
    → AreSoundRights packages (rights_approved links)
    → AreSoundRights (without_package packages uid) (rights_approved (links_without links uid))
links_gone packages links uid sound = rights_gone of_link packages links uid sound

-- where others are installed too
pub rights_through : (packages others : List Package) (rights : List (ℕ × List ℕ))
    → ((uid : ℕ) → is_package_uid packages uid ≡ true → is_package_uid others uid ≡ true)
    → AreSoundRights packages rights → AreSoundRights others rights
rights_through packages others rights stays sound = record {
  order = sound.order;
  holders = held_through packages others
      rights stays sound.holders;
  few = sound.few;
}
