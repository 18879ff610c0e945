-- Reading values one after the other, as a loop does.
use Rattle.std.proofs.Common.{
  ◌≡◌,
  ℕ,
  suc,
  ◌-◌,
  ◌+◌,
  ◌≤◌,
  ◌<◌,
  List,
  [],
  ◌∷◌,
  ◌++◌,
  refl,
  sym,
  ap,
  ◌∙◌,
  append_assoc,
  arith,
}
use Rattle.std.proofs.lemmas.List.{append-nil}
use Rattle.am_packed.specs.Lists.{items_at}

module _ {A : Type 0} where
  -- what was read before, and what is still read
  abbrev pub with_front : List A → List A × List ℕ → List A × List ℕ
  with_front front read = (front ++ read.0, read.1)

  pub reads_on : (read : List ℕ → A × List ℕ) (front : List A) (count i : ℕ) (rest : List ℕ) (x : A) (after : List ℕ)
      (total : List A × List ℕ) → i < count → (x, after) ≡ read rest
      → with_front front (items_at read (count - i) rest) ≡ total
      → with_front (front ++ x ∷ []) (items_at read (count - (i + 1)) after) ≡ total
  reads_on read front count i rest x after total lt one so_far =
      let k : count - i ≡ suc (count - (i + 1)) = omega arith in
      let others = items_at read (count - (i + 1)) after in
      let regrouped : with_front (front ++ x ∷ []) others ≡ with_front front ((x ∷ others.0), others.1) =
      ap (λ (xs : List A). (xs, others.1)) (append_assoc front (x ∷ []) others.0) in
      let first : items_at read (count - i) rest ≡ (x ∷ others.0, others.1) = rw (k, ← one) refl in
      regrouped ∙ sym (ap (with_front front) first) ∙ so_far

  pub is_read : (read : List ℕ → A × List ℕ) (front : List A) (count i : ℕ) (rest : List ℕ) (total : List A × List ℕ)
      → count ≤ i → with_front front (items_at read (count - i) rest) ≡ total → (front, rest) ≡ total
  is_read read front count i rest total le so_far =
      let k : count - i ≡ 0 = omega arith in
      let none : with_front front (items_at read (count - i) rest) ≡ (front, rest) =
      rw k (ap (λ (xs : List A). (xs, rest)) (append-nil front)) in
      sym none ∙ so_far
