-- The numbers of the broadcasts in the two queues and of those that left results are apart, and are used up.
use Rattle.std.proofs.Common.{◌≡◌, ℕ, ◌+◌, ◌<◌, Bool, true, false, cond, eqb, List, [], ◌∷◌, ◌++◌, map, refl, arith}
use Rattle.std.specs.Prelude.{All, filter}
use Rattle.std.proofs.lemmas.Bool.{eqb-true}
use Rattle.std.proofs.lemmas.List.Elements.{All-nil, All-cons, All-head, All-tail, All-push, All-weaker}
use Rattle.am_model.proofs.Parts.{IsPart, end, keep, leave}

-- what holds of all holds of a part
pub All-part : {X : Type 0} (P : X → Type 0) (xs ys : List X) → IsPart xs ys → All P ys → All P xs
All-part P xs ys end all = all
All-part P (x ∷ xs) (x' ∷ ys) (keep part) all = All-cons P x xs (All-head P x ys all)
    (All-part P xs ys part (All-tail P x ys all))
All-part P xs (y ∷ ys) (leave part) all = All-part P xs ys part (All-tail P y ys all)

-- what holds of what a function makes of all holds where it makes it
pub All-unmap : {X Y : Type 0} (P : Y → Type 0) (f : X → Y) (xs : List X) → All P (map f xs) → All (λ x. P (f x)) xs
All-unmap P f [] all = All-nil (λ x. P (f x))
All-unmap P f (x ∷ xs) all = All-cons (λ x. P (f x)) x xs (All-head P (f x) (map f xs) all)
    (All-unmap P f xs (All-tail P (f x) (map f xs) all))

-- a filter leaves a part also of what is made of each
pub part_made : {X Y : Type 0} (f : X → Y) (keeps : X → Bool) (xs : List X)
    → IsPart (map f (filter keeps xs)) (map f xs)
part_made f keeps [] = end
part_made f keeps (x ∷ xs) = by (keeps x) (part_made f keeps xs)
  where
    by : (b : Bool) → IsPart (map f (filter keeps xs)) (map f xs) → IsPart
        (map f (cond b (x ∷ filter keeps xs) (filter keeps xs))) (f x ∷ map f xs)
    by true rest = keep rest
    by false rest = leave rest

-- the second number isn't the first
abbrev pub Differs : ℕ → ℕ → Type 0
Differs n m = m ≡ n → ⊥

-- so the test fails
pub differs_test : (n m : ℕ) → Differs n m → eqb m n ≡ false
differs_test n m differs = by (eqb m n) refl
  where
    by : (b : Bool) → eqb m n ≡ b → eqb m n ≡ false
    by true is = absurd (differs (eqb-true m n is))
    by false is = is

-- each number stands once
abbrev pub Distinct : List ℕ → Type 0
Distinct [] = Unit {0}
Distinct (n ∷ ns) = All (Differs n) ns × Distinct ns

pub distinct_part : (xs ys : List ℕ) → IsPart xs ys → Distinct ys → Distinct xs
distinct_part xs ys end all = all
distinct_part (x ∷ xs) (x' ∷ ys) (keep part) all = (
  All-part (Differs x) xs ys part all.0,
  distinct_part xs ys part
      all.1,
)
distinct_part xs (y ∷ ys) (leave part) all = distinct_part xs ys part all.1

pub distinct_push : (xs : List ℕ) (n : ℕ) → All (λ m. m < n) xs → Distinct xs → Distinct (xs ++ n ∷ [])
distinct_push [] n below all = (All-nil (Differs n), tt)
distinct_push (x ∷ xs) n below all =
    let first : x < n = All-head (λ m. m < n) x xs below in (
      All-push (Differs x) xs n all.0 (λ same. let e : n ≡ x = same in omega arith),
      distinct_push xs n
          (All-tail (λ m. m < n) x xs below) all.1,
    )

-- the numbers of the first queue, of the second and of what left: no number stands twice in a queue or in two of these,
-- and
-- all are below the next one
pub record Apart (F B R : List ℕ) (next : ℕ) : Type 0 where
  pub one : Distinct F
  pub two : Distinct B
  pub first : All (λ n. (n < next) × All (Differs n) B) F
  pub second : All (λ n. (n < next) × All (Differs n) F) B
  pub left : All (λ n. (n < next) × All (Differs n) F × All (Differs n) B) R

-- parts of them are
pub apart_part : (F B R G C S : List ℕ) (next : ℕ) → IsPart G F → IsPart C B → IsPart S R → Apart F B R next
    → Apart G C S next
apart_part F B R G C S next g c s all = record {
  one = distinct_part G F g all.one;
  two = distinct_part C B c all.two;
  first = All-part (λ n. (n < next) × All (Differs n) C) G F g
      (All-weaker (λ n. (n < next) × All (Differs n) B) (λ n. (n < next) × All (Differs n) C)
      (λ n is. (is.0, All-part (Differs n) C B c is.1)) F all.first);
  second = All-part (λ n. (n < next) × All (Differs n) G) C B c
      (All-weaker (λ n. (n < next) × All (Differs n) F) (λ n. (n < next) × All (Differs n) G)
      (λ n is. (is.0, All-part (Differs n) G F g is.1)) B all.second);
  left = All-part (λ n. (n < next) × All (Differs n) G × All (Differs n) C) S R s
      (All-weaker (λ n. (n < next) × All (Differs n) F × All (Differs n) B)
      (λ n. (n < next) × All (Differs n) G × All (Differs n) C)
      (λ n is. (is.0, All-part (Differs n) G F g is.1, All-part (Differs n) C B c is.2)) R all.left);
}

-- in the other order
pub apart_turned : (F B R : List ℕ) (next : ℕ) → Apart F B R next → Apart B F R next
apart_turned F B R next all = record {
  one = all.two;
  two = all.one;
  first = all.second;
  second = all.first;
  left = All-weaker (λ n. (n < next) × All (Differs n) F × All (Differs n) B)
      (λ n. (n < next) × All (Differs n) B × All (Differs n) F)
      (λ n is. (is.0, is.2, is.1)) R all.left;
}

-- the head of a queue leaves a result
pub apart_ended : (n : ℕ) (F B R : List ℕ) (next : ℕ) → Apart (n ∷ F) B R next → Apart F B (R ++ n ∷ []) next
apart_ended n F B R next all = record {
  one = all.one.1;
  two = all.two;
  first = All-tail (λ n. (n < next) × All (Differs n) B) n F all.first;
  second = All-weaker (λ m. (m < next) × All (Differs m) (n ∷ F)) (λ m. (m < next) × All (Differs m) F)
      (λ m is. (is.0, All-tail (Differs m) n F is.1)) B all.second;
  left =
      let head = All-head (λ n. (n < next) × All (Differs n) B) n F all.first in
      All-push (λ n. (n < next) × All (Differs n) F × All (Differs n) B) R n
      (All-weaker (λ m. (m < next) × All (Differs m) (n ∷ F) × All (Differs m) B)
      (λ m. (m < next) × All (Differs m) F × All (Differs m) B)
      (λ m is. (is.0, All-tail (Differs m) n F is.1, is.2)) R all.left)
      (head.0, all.one.0, head.1);
}

-- the next number is used
pub apart_more : (F B R : List ℕ) (next : ℕ) → Apart F B R next → Apart (F ++ next ∷ []) B R (next + 1)
apart_more F B R next all = record {
  one = distinct_push F next (All-weaker (λ n. (n < next) × All (Differs n) B) (λ n. n < next) (λ n is. is.0) F
      all.first) all.one;
  two = all.two;
  first = All-push (λ n. (n < next + 1) × All (Differs n) B) F next
      (All-weaker (λ n. (n < next) × All (Differs n) B) (λ n. (n < next + 1) × All (Differs n) B)
      (λ n is. (let low : n < next = is.0 in omega arith, is.1)) F all.first) (
        omega arith,
        All-weaker (λ n. (n < next) × All (Differs n) F) (Differs next)
            (λ n is same. let low : n < next = is.0 in omega arith) B all.second,
      );
  second = All-weaker (λ n. (n < next) × All (Differs n) F) (λ n. (n < next + 1) × All (Differs n) (F ++ next ∷ []))
      (λ n is. let low : n < next = is.0 in (omega arith, All-push (Differs n) F next is.1 (λ same. omega arith))) B
      all.second;
  left = All-weaker (λ n. (n < next) × All (Differs n) F × All (Differs n) B)
      (λ n. (n < next + 1) × All (Differs n) (F ++ next ∷ []) × All (Differs n) B)
      (λ n is. let low : n < next = is.0 in (omega arith, All-push (Differs n) F next is.1 (λ same. omega arith), is.2))
      R all.left;
}

-- the next number is passed over
pub apart_raised : (F B R : List ℕ) (next : ℕ) → Apart F B R next → Apart F B R (next + 1)
apart_raised F B R next all = record {
  one = all.one;
  two = all.two;
  first = All-weaker (λ n. (n < next) × All (Differs n) B) (λ n. (n < next + 1) × All (Differs n) B)
      (λ n is. (let low : n < next = is.0 in omega arith, is.1)) F all.first;
  second = All-weaker (λ n. (n < next) × All (Differs n) F) (λ n. (n < next + 1) × All (Differs n) F)
      (λ n is. (let low : n < next = is.0 in omega arith, is.1)) B all.second;
  left = All-weaker (λ n. (n < next) × All (Differs n) F × All (Differs n) B)
      (λ n. (n < next + 1) × All (Differs n) F × All (Differs n) B)
      (λ n is. (let low : n < next = is.0 in omega arith, is.1, is.2)) R all.left;
}
