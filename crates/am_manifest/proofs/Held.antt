-- The rights of packages whose uids count up are in order, each once.
use Rattle.std.proofs.Common.{◌≡◌, ℕ, ◌+◌, ◌<◌, ◌≤◌, Bool, true, false, List, [], ◌∷◌, ◌++◌, length, map, refl, sym, ap, ◌∙◌, arith, nat_cmp, cond, ◌*◌}
use Rattle.std.specs.Prelude.{◌==◌, ◌||◌, All, IsTrue, count_by, ⊤}
use Rattle.std.specs.declared.cmp.Ordering.TheVariants.{Less, Equal}
use Rattle.std.specs.List.{AllByRecursion}
use Rattle.std.specs.List.Sorted.{IsStrictlySortedBy}
use Rattle.std.specs.Cmp.{nat_cmp_is}
use Rattle.std.specs.Cmp.Lexicographic.{slice_cmp}
use Rattle.std.specs.Ordering.{ordering_then}
use Rattle.std.proofs.lemmas.List.Elements.{All-from_recursion, All-weaker, All-head, All-tail}
use Rattle.std.proofs.lemmas.List.Sums.{sum_by-append, sum_by-le, count_by-le-length}
use Rattle.std.proofs.lemmas.Bool.{eqb-true, eq-eqb}
use Rattle.std.proofs.Math.Bool.{or-true}
use Rattle.std.proofs.Math.ListN.{length-map}
use Rattle.am_types.specs.declared.device.Package.{Package}
use Rattle.am_model.specs.Boards.{is_package_uid}
use Rattle.am_model.specs.Sound.{right_cmp, AreSoundRights}
use Rattle.am_manifest.specs.Rights.{with_uids}

-- the packages have this uid, the next one, and so on
abbrev pub CountUp : ℕ → List Package → Type 0
CountUp uid [] = ⊤
CountUp uid (p ∷ packages) = (p.uid ≡ uid) × CountUp (uid + 1) packages

-- texts in order, of which a package may have 256
pub record AreFewTexts (texts : List (List ℕ)) : Type 0 where
  pub order : IsStrictlySortedBy (slice_cmp nat_cmp) texts
  pub few : length texts ≤ 256

module _ {X : Type 0} (P : X → Type 0) where
  all_join : (xs ys : List X) → AllByRecursion P xs → AllByRecursion P ys → AllByRecursion P (xs ++ ys)
  all_join [] ys a b = b
  all_join (x ∷ xs) ys a b = (a.0, all_join xs ys a.1 b)

other_uid : (a b : ℕ) → b < a → (a == b) ≡ false
other_uid a b lt = grind arith

module _ (uid : ℕ) where
  -- the right to this text comes before those to the texts after it, and before those of greater uids
  before : (text : List ℕ) (texts : List (List ℕ)) (rest : List (ℕ × List ℕ))
      → AllByRecursion (λ other. slice_cmp nat_cmp text other ≡ Less) texts
      → AllByRecursion (λ (right : ℕ × List ℕ). uid < right.0) rest
      → AllByRecursion (λ (right : ℕ × List ℕ). right_cmp (uid, text) right ≡ Less)
      (map (λ other. (uid, other)) texts ++ rest)
  before text [] [] a b = tt
  before text [] (right ∷ rest) a b = (
    ap (λ o. ordering_then o (slice_cmp nat_cmp text right.1))
        (sym (nat_cmp_is uid right.0 Less b.0)),
    before text [] rest a b.1,
  )
  before text (other ∷ texts) rest a b = (
    ap (λ o. ordering_then o (slice_cmp nat_cmp text other))
        (sym (nat_cmp_is uid uid Equal refl)) ∙ a.0,
    before text texts rest a.1 b,
  )

  in_front : (texts : List (List ℕ)) (rest : List (ℕ × List ℕ)) → IsStrictlySortedBy (slice_cmp nat_cmp) texts
      → IsStrictlySortedBy right_cmp rest → AllByRecursion (λ (right : ℕ × List ℕ). uid < right.0) rest
      → IsStrictlySortedBy right_cmp (map (λ text. (uid, text)) texts ++ rest)
  unfolding IsStrictlySortedBy
  in_front [] rest s t b = t
  in_front (text ∷ texts) rest s t b = (before text texts rest s.0 b, in_front texts rest s.1 t b)

  own : (texts : List (List ℕ)) → AllByRecursion (λ (right : ℕ × List ℕ). right.0 ≡ uid)
      (map (λ text. (uid, text)) texts)
  own [] = tt
  own (text ∷ texts) = (refl, own texts)

weaker : {X : Type 0} (P Q : X → Type 0) → ((x : X) → P x → Q x) → (xs : List X) → AllByRecursion P xs
    → AllByRecursion Q xs
weaker P Q f [] a = tt
weaker P Q f (x ∷ xs) a = (f x a.0, weaker P Q f xs a.1)

-- the uids of rights are not below that of the first package
above : (uid : ℕ) (packages : List Package) (held : List (List (List ℕ))) → CountUp uid packages
    → AllByRecursion (λ (right : ℕ × List ℕ). uid ≤ right.0) (with_uids packages held)
above uid [] held c = tt
above uid (p ∷ packages) [] c = tt
above uid (p ∷ packages) (texts ∷ held) c =
    let first = weaker (λ (right : ℕ × List ℕ). right.0 ≡ p.uid) (λ (right : ℕ × List ℕ). uid ≤ right.0)
    (λ (right : ℕ × List ℕ) e. omega (arith, c.0, e)) (map (λ text. (p.uid, text)) texts) (own p.uid texts) in
    let others = weaker (λ (right : ℕ × List ℕ). uid + 1 ≤ right.0) (λ (right : ℕ × List ℕ). uid ≤ right.0)
    (λ (right : ℕ × List ℕ) e. omega arith) (with_uids packages held) (above (uid + 1) packages held c.1) in
    all_join (λ (right : ℕ × List ℕ). uid ≤ right.0) (map (λ text. (p.uid, text)) texts) (with_uids packages held) first
    others

-- the uids after the first package are greater than its own
behind : (uid : ℕ) (p : Package) (packages : List Package) (held : List (List (List ℕ))) → CountUp uid (p ∷ packages)
    → AllByRecursion (λ (right : ℕ × List ℕ). p.uid < right.0) (with_uids packages held)
behind uid p packages held c = weaker (λ (right : ℕ × List ℕ). uid + 1 ≤ right.0)
    (λ (right : ℕ × List ℕ). p.uid < right.0) (λ (right : ℕ × List ℕ) e. omega (arith, c.0)) (with_uids packages held)
    (above (uid + 1) packages held c.1)

order : (uid : ℕ) (packages : List Package) (held : List (List (List ℕ))) → CountUp uid packages → All AreFewTexts held
    → IsStrictlySortedBy right_cmp (with_uids packages held)
unfolding IsStrictlySortedBy
order uid [] held c a = tt
order uid (p ∷ packages) [] c a = tt
order uid (p ∷ packages) (texts ∷ held) c a =
    let first = All-head AreFewTexts texts held a in
    in_front p.uid texts (with_uids packages held) first.order (order (uid + 1) packages held c.1
    (All-tail AreFewTexts texts held a)) (behind uid p packages held c)

-- rights that fail a test are not counted
none : (test : ℕ × List ℕ → Bool) (rights : List (ℕ × List ℕ)) → AllByRecursion
    (λ (right : ℕ × List ℕ). test right ≡ false) rights → count_by test rights ≡ 0
none test rights a =
    let small = λ (right : ℕ × List ℕ) (e : test right ≡ false). the_zero (test right) e in
    let le : count_by test rights ≤ length rights * 0 = sum_by-le (λ (right : ℕ × List ℕ). cond (test right) 1 0) 0
    rights (All-weaker (λ (right : ℕ × List ℕ). test right ≡ false)
    (λ (right : ℕ × List ℕ). cond (test right) 1 0 ≤ 0) small rights
    (All-from_recursion (λ (right : ℕ × List ℕ). test right ≡ false) rights a)) in
    omega arith
  where
    the_zero : (b : Bool) → b ≡ false → cond b 1 0 ≤ 0
    the_zero false e = omega arith
    the_zero true e = absurd cc

few : (uid : ℕ) (packages : List Package) (held : List (List (List ℕ))) → CountUp uid packages → All AreFewTexts held
    → (q : ℕ) → count_by (λ (right : ℕ × List ℕ). right.0 == q) (with_uids packages held) ≤ 256
few uid [] held c a q = omega arith
few uid (p ∷ packages) [] c a q = omega arith
few uid (p ∷ packages) (texts ∷ held) c a q = by (p.uid == q) refl
    (few (uid + 1) packages held c.1 (All-tail AreFewTexts texts held a) q)
  where
    own_rights : List (ℕ × List ℕ)
    own_rights = map (λ text. (p.uid, text)) texts

    test : ℕ × List ℕ → Bool
    test right = right.0 == q

    sum : count_by test (own_rights ++ with_uids packages held) ≡ count_by test own_rights + count_by test
        (with_uids packages held)
    sum = sum_by-append (λ (right : ℕ × List ℕ). cond (test right) 1 0) own_rights (with_uids packages held)

    by : (b : Bool) → (p.uid == q) ≡ b → count_by test (with_uids packages held) ≤ 256
        → count_by test (own_rights ++ with_uids packages held) ≤ 256
    by true e h =
        let is : p.uid ≡ q = eqb-true p.uid q e in
        let many = count_by-le-length test own_rights in
        let rest = none test (with_uids packages held) (weaker (λ (right : ℕ × List ℕ). p.uid < right.0)
        (λ (right : ℕ × List ℕ). test right ≡ false) (λ (right : ℕ × List ℕ) lt. other_uid right.0 q (omega arith))
        (with_uids packages held) (behind uid p packages held c)) in
        let first = (All-head AreFewTexts texts held a).few in
        omega (arith, sum, many, rest, first, length-map {B = ℕ × List ℕ} texts (λ (text : List ℕ). (p.uid, text)))
    by false e h =
        let no = none test own_rights (weaker (λ (right : ℕ × List ℕ). right.0 ≡ p.uid)
        (λ (right : ℕ × List ℕ). test right ≡ false) (λ (right : ℕ × List ℕ) is. ap (λ n. n == q) is ∙ e) own_rights
        (own p.uid texts)) in
        omega (arith, sum, no)

-- each right is of one of the packages
holders : (packages : List Package) (held : List (List (List ℕ))) → AllByRecursion
    (λ (right : ℕ × List ℕ). IsTrue (is_package_uid packages right.0)) (with_uids packages held)
holders [] held = tt
holders (p ∷ packages) [] = tt
holders (p ∷ packages) (texts ∷ held) =
    let first = weaker (λ (right : ℕ × List ℕ). right.0 ≡ p.uid) (λ (right : ℕ × List ℕ). IsTrue
    (is_package_uid (p ∷ packages) right.0)) (λ (right : ℕ × List ℕ) e. ap
    (λ (b : Bool). b || is_package_uid packages right.0) (eq-eqb p.uid right.0 (sym e)))
    (map (λ text. (p.uid, text)) texts) (own p.uid texts) in
    let others = weaker (λ (right : ℕ × List ℕ). IsTrue (is_package_uid packages right.0))
    (λ (right : ℕ × List ℕ). IsTrue (is_package_uid (p ∷ packages) right.0))
    (λ (right : ℕ × List ℕ) e. ap (λ (b : Bool). (p.uid == right.0) || b) e ∙ or-true (p.uid == right.0))
    (with_uids packages held) (holders packages held) in
    all_join (λ (right : ℕ × List ℕ). IsTrue (is_package_uid (p ∷ packages) right.0))
    (map (λ text. (p.uid, text)) texts) (with_uids packages held) first others

pub sound_rights : (uid : ℕ) (packages : List Package) (held : List (List (List ℕ))) → CountUp uid packages
    → All AreFewTexts held → AreSoundRights packages (with_uids packages held)
sound_rights uid packages held c a = record {
  order = order uid packages held c a;
  holders = All-from_recursion (λ (right : ℕ × List ℕ). IsTrue (is_package_uid packages right.0))
      (with_uids packages held) (holders packages held);
  few = few uid packages held c a;
}
