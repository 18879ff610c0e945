-- Deliveries in order: what is found by number, and what a test keeps.
use Rattle.std.proofs.Common.{◌≡◌, ℕ, ◌+◌, ◌<◌, Bool, true, false, not, ◌&&◌, ◌||◌, cond, List, [], ◌∷◌, ◌++◌, length, refl, sym, ap, ◌∙◌, arith, nat_cmp, Greater, append_assoc}
use Rattle.std.proofs.lemmas.List.{append-nil}
use Rattle.std.proofs.lemmas.Bool.Decides.{nat_tests}
use Rattle.std.specs.Prelude.{Some, None, ◌==◌, nat_lt}
use Rattle.std.specs.List.{AllByRecursion, filter, list_any}
use Rattle.std.specs.Map.{remove_entry}
use Rattle.std.specs.BTreeMap.{insert_entry, is_at}
use Rattle.am_types.specs.declared.broadcast.Spot.{Spot}
use Rattle.am_model.proofs.Lists.{all_left}
use Rattle.am_queue_normal.specs.declared.delivery.Broadcast.{Broadcast}
use Rattle.am_queue_normal.specs.Posted.{AreInOrder, IsBefore, IsWithin, Posted, posted_as, posted_at, posted_to, without}
use Rattle.am_queue_normal.proofs.Keys.{is_same_as_itself, same_from, same_number}

abbrev pub Entry : Type 0
Entry = ℕ × Posted

lower_differs : (a b : ℕ) → a < b → a == b ≡ false
lower_differs a b less = grind (arith, nat_tests)

higher_differs : (a b : ℕ) → b < a → a == b ≡ false
higher_differs a b more = grind (arith, nat_tests)

greater : (a b : ℕ) → b < a → nat_cmp a b ≡ Greater
greater a b more = grind (arith, nat_tests)

-- what follows from what holds of each holds of each
pub all_so : (P Q : Entry → Type 0) → ((e : Entry) → P e → Q e) → (es : List Entry) → AllByRecursion P es
    → AllByRecursion Q es
all_so P Q so [] all = _
all_so P Q so (e ∷ es) all = (so e all.0, all_so P Q so es all.1)

-- what holds of each of two lists holds of each of both
pub all_of_both : (P : Entry → Type 0) (es fs : List Entry) → AllByRecursion P es → AllByRecursion P fs
    → AllByRecursion P (es ++ fs)
all_of_both P [] fs one other = other
all_of_both P (e ∷ es) fs one other = (one.0, all_of_both P es fs one.1 other)

-- those that a test keeps are in order
pub kept_in_order : (p : Entry → Bool) (end : ℕ) (es : List Entry) → AreInOrder end es → AreInOrder end (filter p es)
kept_in_order p end [] order = _
kept_in_order p end (e ∷ es) order = by (p e) (kept_in_order p end es order.2)
  where
    by : (b : Bool) → AreInOrder end (filter p es) → AreInOrder end (cond b (e ∷ filter p es) (filter p es))
    by true rest = (order.0, all_left (IsBefore e) p es order.1, rest)
    by false rest = rest

-- a number below all isn't found
pub not_found : (number : ℕ) (es : List Entry) → AllByRecursion (λ (e : Entry). number < e.0) es → posted_at number es
    ≡ None
not_found number [] above = refl
not_found number (e ∷ es) above = rw (same_number number e.0, lower_differs number e.0 above.0)
    (not_found number es above.1)

-- the numbers after a delivery are higher
above : (e : Entry) (es : List Entry) → AllByRecursion (IsBefore e) es → AllByRecursion (λ (f : Entry). e.0 < f.0) es
above e es behind = all_so (IsBefore e) (λ (f : Entry). e.0 < f.0) (λ f before. before.number) es behind

-- what holds of each delivery that is found holds of each
pub at_each : (P : Entry → Type 0) (end : ℕ) (es : List Entry) → AreInOrder end es
    → ((n : ℕ) (p : Posted) → posted_at n es ≡ Some p → P (n, p)) → AllByRecursion P es
at_each P end [] order holds = _
at_each P end (e ∷ es) order holds = (
  holds e.0 e.1 (rw (same_number e.0 e.0, is_same_as_itself e.0) refl),
  at_each P end es order.2 (λ n p is. by n p is (n == e.0) refl),
)
  where
    by : (n : ℕ) (p : Posted) → posted_at n es ≡ Some p → (b : Bool) → n == e.0 ≡ b → P (n, p)
    by n p is true same =
        let n_is : n ≡ e.0 = same_from n e.0 same in
        let none : posted_at n es ≡ None = rw n_is (not_found e.0 es (above e es order.1)) in
        let wrong : None ≡ Some p = sym none ∙ is in
        absurd cc
    by n p is false differs = holds n p (rw (same_number n e.0, differs) is)

-- tests that agree on each keep the same
pub agree : (p q : Entry → Bool) (es : List Entry) → AllByRecursion (λ e. p e ≡ q e) es → filter p es ≡ filter q es
agree p q [] same = refl
agree p q (e ∷ es) same = rw (same.0, agree p q es same.1) refl

-- a test that each passes keeps all
pub all_pass : (p : Entry → Bool) (es : List Entry) → AllByRecursion (λ e. p e ≡ true) es → filter p es ≡ es
all_pass p [] pass = refl
all_pass p (e ∷ es) pass = rw (pass.0, all_pass p es pass.1) refl

-- a test that none passes keeps none
pub none_pass : (p : Entry → Bool) (es : List Entry) → AllByRecursion (λ e. p e ≡ false) es → filter p es ≡ []
none_pass p [] fail = refl
none_pass p (e ∷ es) fail = rw fail.0 (none_pass p es fail.1)

-- and tells so
pub any_fails : (p : Entry → Bool) (es : List Entry) → AllByRecursion (λ e. p e ≡ false) es → list_any p es ≡ false
any_fails p [] fail = refl
any_fails p (e ∷ es) fail = rw fail.0 (any_fails p es fail.1)

-- a test that a delivery passes that is found
pub any_found : (p : Entry → Bool) (n : ℕ) (posted : Posted) (es : List Entry) → posted_at n es ≡ Some posted
    → p (n, posted) ≡ true → list_any p es ≡ true
any_found p n posted [] is pass = absurd cc
any_found p n posted (e ∷ es) is pass = by (n == e.0) refl (λ there. any_found p n posted es there pass)
  where
    or_true : (a : Bool) → a || true ≡ true
    or_true true = refl
    or_true false = refl

    by : (b : Bool) → n == e.0 ≡ b → (posted_at n es ≡ Some posted → list_any p es ≡ true) → p e || list_any p es ≡ true
    by true same rest =
        let it : Some e.1 ≡ Some posted = rw (same_number n e.0, same) at is in
        let posted_is : e.1 ≡ posted = cc in
        let here : p e ≡ true = rw (posted_is, ← same_from n e.0 same) pass in
        rw here refl
    by false differs rest = rw (rest (rw (same_number n e.0, differs) at is)) (or_true (p e))

-- a delivery that is found is within, and its number below the end
pub found_within : (end n : ℕ) (posted : Posted) (es : List Entry) → AreInOrder end es → posted_at n es ≡ Some posted
    → IsWithin end (n, posted)
found_within end n posted [] order is = absurd cc
found_within end n posted (e ∷ es) order is = by (n == e.0) refl (found_within end n posted es order.2)
  where
    by : (b : Bool) → n == e.0 ≡ b → (posted_at n es ≡ Some posted → IsWithin end (n, posted))
        → IsWithin end (n, posted)
    by true same rest =
        let it : Some e.1 ≡ Some posted = rw (same_number n e.0, same) at is in
        let posted_is : e.1 ≡ posted = cc in
        rw (← posted_is, same_from n e.0 same) order.0
    by false differs rest = rest (rw (same_number n e.0, differs) at is)

-- those below a number come first
pub parted : (p : Entry → Bool) (from end : ℕ) (es : List Entry) → AreInOrder end es
    → filter p es ≡ filter (λ e. p e && nat_lt e.0 from) es ++ filter (λ e. p e && not (nat_lt e.0 from)) es
parted p from end [] order = refl
parted p from end (e ∷ es) order = by (p e) (nat_lt e.0 from) refl (parted p from end es order.2)
  where
    low : List Entry
    low = filter (λ e. p e && nat_lt e.0 from) es

    high : List Entry
    high = filter (λ e. p e && not (nat_lt e.0 from)) es

    not_lower : (f : Entry) → e.0 < f.0 → nat_lt e.0 from ≡ false → p f && nat_lt f.0 from ≡ false
    not_lower f more up = rw (let it : nat_lt f.0 from ≡ false = grind (arith, nat_tests) in it) (and_false (p f))
      where
        and_false : (a : Bool) → a && false ≡ false
        and_false true = refl
        and_false false = refl

    none_low : nat_lt e.0 from ≡ false → low ≡ []
    none_low up = none_pass (λ e. p e && nat_lt e.0 from) es (all_so (IsBefore e) (λ f. p f && nat_lt f.0 from ≡ false)
        (λ f before. not_lower f before.number up) es order.1)

    by : (pass less : Bool) → nat_lt e.0 from ≡ less → filter p es ≡ low ++ high
        → cond pass (e ∷ filter p es) (filter p es) ≡ cond (pass && less) (e ∷ low) low
        ++ cond (pass && not less) (e ∷ high) high
    by true true is rest = ap (λ l. e ∷ l) rest
    by true false is rest = rw (none_low is) (ap (λ l. e ∷ l) (rest ∙ rw (none_low is) refl))
    by false less is rest = rest

-- one delivery has a number that is found
pub only : (end n : ℕ) (posted : Posted) (es : List Entry) → AreInOrder end es → posted_at n es ≡ Some posted
    → filter (λ (e : Entry). e.0 == n) es ≡ (n, posted) ∷ []
only end n posted [] order is = absurd cc
only end n posted (e ∷ es) order is = by (n == e.0) refl (only end n posted es order.2)
  where
    behind : n ≡ e.0 → filter (λ (f : Entry). f.0 == n) es ≡ []
    behind n_is = none_pass (λ (f : Entry). f.0 == n) es (all_so (IsBefore e) (λ (f : Entry). f.0 == n ≡ false)
        (λ f before. higher_differs f.0 n (rw n_is before.number)) es order.1)

    by : (b : Bool) → n == e.0 ≡ b → (posted_at n es ≡ Some posted → filter (λ (f : Entry). f.0 == n) es ≡ (n, posted)
        ∷ []) → filter (λ (f : Entry). f.0 == n) (e ∷ es) ≡ (n, posted) ∷ []
    by true same rest =
        let it : Some e.1 ≡ Some posted = rw (same_number n e.0, same) at is in
        let posted_is : e.1 ≡ posted = cc in
        let n_is : n ≡ e.0 = same_from n e.0 same in
        let here : e.0 == n ≡ true = rw n_is (is_same_as_itself e.0) in
        rw (here, behind n_is, ← posted_is, n_is) refl
    by false differs rest =
        let there : e.0 == n ≡ false = let it : n == e.0 ≡ false = differs in grind (arith, nat_tests) in
        rw there (rest (rw (same_number n e.0, differs) at is))

-- without a number are the others
pub without_number : (end n : ℕ) (es : List Entry) → AreInOrder end es → remove_entry (is_at (nat_cmp n)) es
    ≡ filter (λ (e : Entry). not (e.0 == n)) es
without_number end n [] order = refl
without_number end n (e ∷ es) order = by (n == e.0) refl (without_number end n es order.2)
  where
    behind : n ≡ e.0 → filter (λ (f : Entry). not (f.0 == n)) es ≡ es
    behind n_is =
        all_pass (λ (f : Entry). not (f.0 == n)) es
        (all_so (IsBefore e) (λ (f : Entry). not (f.0 == n) ≡ true)
        (λ f before. ap not (higher_differs f.0 n (rw n_is before.number))) es order.1)

    by : (b : Bool) → n == e.0 ≡ b → remove_entry (is_at (nat_cmp n)) es ≡ filter (λ (f : Entry). not (f.0 == n)) es
        → remove_entry (is_at (nat_cmp n)) (e ∷ es) ≡ filter (λ (f : Entry). not (f.0 == n)) (e ∷ es)
    by true same rest =
        let n_is : n ≡ e.0 = same_from n e.0 same in
        let here : e.0 == n ≡ true = rw n_is (is_same_as_itself e.0) in
        rw (same_number n e.0, same, here) (sym (behind n_is))
    by false differs rest =
        let there : e.0 == n ≡ false = let it : n == e.0 ≡ false = differs in grind (arith, nat_tests) in
        rw (same_number n e.0, differs, there) (ap (λ l. e ∷ l) rest)

-- all numbers are below the end
pub below_end : (end : ℕ) (es : List Entry) → AreInOrder end es → AllByRecursion (λ (e : Entry). e.0 < end) es
below_end end [] order = _
below_end end (e ∷ es) order = (omega (arith, order.0.below, order.0.ended), below_end end es order.2)

-- a number above all isn't found
pub above_all : (n : ℕ) (es : List Entry) → AllByRecursion (λ (e : Entry). e.0 < n) es → posted_at n es ≡ None
above_all n [] below = refl
above_all n (e ∷ es) below = rw (same_number n e.0, higher_differs n e.0 below.0) (above_all n es below.1)

-- and goes to the end
at_end : (n : ℕ) (posted : Posted) (es : List Entry) → AllByRecursion (λ (e : Entry). e.0 < n) es
    → insert_entry nat_cmp es n posted ≡ es ++ (n, posted) ∷ []
at_end n posted [] below = refl
at_end n posted (e ∷ es) below = rw (greater n e.0 below.0) (ap (λ l. e ∷ l) (at_end n posted es below.1))

-- an unused number is removed from those after it
past_others : (n : ℕ) (es fs : List Entry) → AllByRecursion (λ (e : Entry). e.0 < n) es
    → remove_entry (is_at (nat_cmp n)) (es ++ fs) ≡ es ++ remove_entry (is_at (nat_cmp n)) fs
past_others n [] fs below = refl
past_others n (e ∷ es) fs below = rw (same_number n e.0, higher_differs n e.0 below.0)
    (ap (λ l. e ∷ l) (past_others n es fs below.1))

module _ (sent : Broadcast) (deadline : ℕ) where
  -- the numbers of the deliveries to some receivers are below the next one
  posted_below : (n : ℕ) (xs : List Spot) → AllByRecursion (λ (e : Entry). e.0 < n + length xs)
      (posted_to sent deadline n xs)
  posted_below n [] = _
  posted_below n (x ∷ xs) = (
    omega arith,
    all_so (λ (e : Entry). e.0 < (n + 1) + length xs)
        (λ (e : Entry). e.0 < n + length (x ∷ xs)) (λ e less. omega (arith, less)) _ (posted_below (n + 1) xs),
  )

  -- one more receiver
  posted_more : (n : ℕ) (xs : List Spot) (spot : Spot) → posted_to sent deadline n (xs ++ spot ∷ [])
      ≡ posted_to sent deadline n xs ++ (n + length xs, posted_as sent deadline spot) ∷ []
  posted_more n [] spot = let e : n + 0 ≡ n = omega arith in rw e refl
  posted_more n (x ∷ xs) spot =
      let e : (n + 1) + length xs ≡ n + length (x ∷ xs) = omega arith in
      ap (λ l. (n, posted_as sent deadline x) ∷ l) (posted_more (n + 1) xs spot
      ∙ ap (λ k. posted_to sent deadline (n + 1) xs ++ (k, posted_as sent deadline spot) ∷ []) e)

  module _ (n : ℕ) (old : List Entry) (below : AllByRecursion (λ (e : Entry). e.0 < n) old) where
    -- the next number is above those of all
    next_above : (xs : List Spot) → AllByRecursion (λ (e : Entry). e.0 < n + length xs)
        (old ++ posted_to sent deadline n xs)
    next_above xs =
        all_of_both (λ (e : Entry). e.0 < n + length xs) old (posted_to sent deadline n xs)
        (all_so (λ (e : Entry). e.0 < n) (λ (e : Entry). e.0 < n + length xs) (λ e less. omega (arith, less)) old below)
        (posted_below n xs)

    -- so it is free
    pub next_free : (xs : List Spot) → posted_at (n + length xs) (old ++ posted_to sent deadline n xs) ≡ None
    next_free xs = above_all (n + length xs) (old ++ posted_to sent deadline n xs) (next_above xs)

    -- and goes to the end
    pub one_more : (xs : List Spot) (spot : Spot) → insert_entry nat_cmp (old ++ posted_to sent deadline n xs)
        (n + length xs) (posted_as sent deadline spot) ≡ old ++ posted_to sent deadline n (xs ++ spot ∷ [])
    one_more xs spot =
        at_end (n + length xs) (posted_as sent deadline spot) (old ++ posted_to sent deadline n xs) (next_above xs)
        ∙ append_assoc old (posted_to sent deadline n xs) ((n + length xs, posted_as sent deadline spot) ∷ [])
        ∙ sym (ap (λ l. old ++ l) (posted_more n xs spot))

  -- the deliveries to some receivers are removed again
  pub taken_back : (n : ℕ) (xs : List Spot) (old : List Entry) → AllByRecursion (λ (e : Entry). e.0 < n) old
      → without n (length xs) (old ++ posted_to sent deadline n xs) ≡ old
  taken_back n [] old below = append-nil old
  taken_back n (x ∷ xs) old below =
      ap (without (n + 1) (length xs)) (past_others n old (posted_to sent deadline n (x ∷ xs)) below
      ∙ ap (λ l. old ++ l) here)
      ∙ taken_back (n + 1) xs old (all_so (λ (e : Entry). e.0 < n) (λ (e : Entry). e.0 < n + 1)
      (λ e less. omega (arith, less)) old below)
    where
      here : remove_entry (is_at (nat_cmp n)) (posted_to sent deadline n (x ∷ xs)) ≡ posted_to sent deadline (n + 1) xs
      here = rw (same_number n n, is_same_as_itself n) refl
