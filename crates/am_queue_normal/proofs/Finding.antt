-- What is found among deliveries by deadline, by uid and by number.
use Rattle.std.proofs.Common.{◌≡◌, ℕ, ◌+◌, ◌<◌, ◌≤◌, Bool, true, false, not, ◌&&◌, ◌||◌, cond, List, [], ◌∷◌, ◌++◌, length, map, take, refl, sym, ap, ◌∙◌, arith, nat_cmp, Less}
use Rattle.std.proofs.lemmas.Bool.Decides.{nat_tests}
use Rattle.std.proofs.lemmas.List.{take_at, map-append}
use Rattle.std.proofs.lemmas.List.Elements.{filter_agree}
use Rattle.std.specs.Prelude.{Option, Some, None, ◌==◌, nat_le, nat_lt}
use Rattle.std.specs.List.{AllByRecursion, filter, list_any}
use Rattle.std.specs.List.Sorted.{IsStrictlySortedBy}
use Rattle.std.specs.Map.{keys_of}
use Rattle.std.specs.BTreeMap.Range.{range_contains}
use Rattle.std.specs.declared.ops.Bound.TheVariants.{Included, Unbounded}
use Rattle.am_types.specs.declared.broadcast.Item.{Item}
use Rattle.am_queue_normal.specs.Pairs.{has, IsBare, IsLeast, IsNext, NoneFrom}
use Rattle.am_queue_normal.specs.Posted.{AreInOrder, AreIndexed, IsSoonest, Posted, has_deadline, is_between, is_late, is_to, item_of, passes, posted_at}
use Rattle.am_queue_normal.proofs.Keys.{is_same_as_itself, not_later, same_number}
use Rattle.am_queue_normal.proofs.Ordered.{Entry, agree, all_so, any_fails, at_each, found_within, not_found, only, parted}

later : (deadline deadline' now : ℕ) → deadline ≤ deadline' → now < deadline → nat_le deadline' now ≡ false
later deadline deadline' now up after = grind (arith, nat_tests)

-- a delivery that is found has its deadline among those
listed : (deadlines uids : List (ℕ × ℕ)) (es : List Entry) → AreIndexed deadlines uids es → (n : ℕ) (posted : Posted)
    → posted_at n es ≡ Some posted → has deadlines posted.deadline n ≡ true
listed deadlines uids es index n posted is = index.deadlines posted.deadline n
    ∙ ap (passes (has_deadline posted.deadline)) is ∙ is_same_as_itself posted.deadline

-- without a deadline none is late
pub none_late : (deadlines uids : List (ℕ × ℕ)) (es : List Entry) (now : ℕ) → AreIndexed deadlines uids es
    → IsBare deadlines → (n : ℕ) → passes (is_late now) (posted_at n es) ≡ false
none_late deadlines uids es now index bare n = by (posted_at n es) refl
  where
    by : (found : Option Posted) → posted_at n es ≡ found → passes (is_late now) found ≡ false
    by None is = refl
    by (Some posted) is = let wrong : true ≡ false = sym (listed deadlines uids es index n posted is)
        ∙ bare posted.deadline n in absurd cc

-- nor if the soonest isn't due
pub none_late_yet : (deadlines uids : List (ℕ × ℕ)) (es : List Entry) (now deadline number : ℕ)
    → AreIndexed deadlines uids es → IsLeast deadlines (deadline, number) → now < deadline
    → (n : ℕ) → passes (is_late now) (posted_at n es) ≡ false
none_late_yet deadlines uids es now deadline number index least after n = by (posted_at n es) refl
  where
    by : (found : Option Posted) → posted_at n es ≡ found → passes (is_late now) found ≡ false
    by None is = refl
    by (Some posted) is =
        later deadline posted.deadline now
        (not_later deadline number posted.deadline n (least.1 posted.deadline n
        (listed deadlines uids es index n posted is))) after

-- a delivery has the soonest deadline, and none is late before it
pub soonest_of : (deadlines uids : List (ℕ × ℕ)) (es : List Entry) (deadline number : ℕ) → AreIndexed deadlines uids es
    → IsLeast deadlines (deadline, number) → IsSoonest es deadline
soonest_of deadlines uids es deadline number index least = (
  (number, sym (index.deadlines deadline number) ∙ least.0),
  λ now n after. none_late_yet deadlines uids es now deadline number index least after n,
)

-- each number is below those after it
abbrev pub Ascend : List Entry → Type 0
Ascend [] = Unit {0}
Ascend (e ∷ es) = AllByRecursion (λ (f : Entry). e.0 < f.0) es × Ascend es

-- as those of a map are
pub ascending : (es : List Entry) → IsStrictlySortedBy nat_cmp (keys_of es) → Ascend es
unfolding IsStrictlySortedBy
ascending [] sorted = _
ascending (e ∷ es) sorted = (behind es sorted.0, ascending es sorted.1)
  where
    less : (a b : ℕ) → nat_cmp a b ≡ Less → a < b
    less a b is = grind (arith, nat_tests)

    behind : (fs : List Entry) → AllByRecursion (λ y. nat_cmp e.0 y ≡ Less) (keys_of fs)
        → AllByRecursion (λ (f : Entry). e.0 < f.0) fs
    behind [] all = _
    behind (f ∷ fs) all = (less e.0 f.0 all.0, behind fs all.1)

-- the deliveries from a number on
abbrev pub from_on : ℕ → List Entry → List Entry
from_on from es = filter (λ (e : Entry). range_contains nat_cmp (Included from) Unbounded e.0) es

in_range : (from n : ℕ) → range_contains nat_cmp (Included from) Unbounded n ≡ nat_le from n
in_range from n = grind (arith, nat_tests)

-- the number of the first delivery that passes a test
abbrev pub first_that : (Posted → Bool) → List Entry → Option ℕ
first_that test [] = None
first_that test (e ∷ es) = cond (test e.1) (Some e.0) (first_that test es)

module _ (test : Posted → Bool) (from : ℕ) where
  -- if there is none, no delivery passes from the number on
  pub none_that : (es : List Entry) → first_that test (from_on from es) ≡ None
      → NoneFrom (λ n. passes test (posted_at n es)) from
  none_that [] none n up = refl
  none_that (e ∷ es) none n up = by (nat_le from e.0) refl (rw (in_range from e.0) at none) (n == e.0) refl
      (none_that es)
    where
      by : (up' : Bool) → nat_le from e.0 ≡ up' → first_that test (cond up' (e ∷ from_on from es) (from_on from es))
          ≡ None → (b : Bool) → n == e.0 ≡ b
          → (first_that test (from_on from es) ≡ None → NoneFrom (λ n. passes test (posted_at n es)) from)
          → passes test (posted_at n (e ∷ es)) ≡ false
      by true is none b same rest = here (test e.1) refl none b same rest
        where
          here : (t : Bool) → test e.1 ≡ t → cond t (Some e.0) (first_that test (from_on from es)) ≡ None → (b : Bool)
              → n == e.0 ≡ b
              → (first_that test (from_on from es) ≡ None → NoneFrom (λ n. passes test (posted_at n es)) from)
              → passes test (posted_at n (e ∷ es)) ≡ false
          here true t none b same rest = absurd cc
          here false t none true same rest = rw (same_number n e.0, same) t
          here false t none false differs rest = rw (same_number n e.0, differs) (rest none n up)
      by false is none true same rest =
          let wrong : nat_le from e.0 ≡ true = let n_is : n ≡ e.0 = grind (arith, nat_tests) in grind (arith, nat_tests)
          in
          absurd cc
      by false is none false differs rest = rw (same_number n e.0, differs) (rest none n up)

  -- the first one has the next number that passes
  pub next_that : (es : List Entry) (k : ℕ) → Ascend es → first_that test (from_on from es) ≡ Some k
      → IsNext (λ n. passes test (posted_at n es)) from k
  next_that [] k up is = absurd cc
  next_that (e ∷ es) k up is = by (nat_le from e.0) refl (rw (in_range from e.0) at is) (next_that es k up.1)
    where
      none_below : (n : ℕ) → n ≤ e.0 → posted_at n es ≡ None
      none_below n low = not_found n es (all_so (λ (f : Entry). e.0 < f.0) (λ (f : Entry). n < f.0)
          (λ f less. omega (arith, less, low)) es up.0)

      skip : test e.1 ≡ false → IsNext (λ n. passes test (posted_at n es)) from k
          → IsNext (λ n. passes test (posted_at n (e ∷ es))) from k
      skip fails rest = (rest.0, there (k == e.0) refl, λ n low less. between n low less (n == e.0) refl)
        where
          there : (b : Bool) → k == e.0 ≡ b → passes test (posted_at k (e ∷ es)) ≡ true
          there true same =
              let k_is : k ≡ e.0 = grind (arith, nat_tests) in
              let wrong : false ≡ true = sym (ap (passes test) (none_below k (rw k_is (omega arith)))) ∙ rest.1 in
              absurd cc
          there false differs = rw (same_number k e.0, differs) rest.1

          between : (n : ℕ) → from ≤ n → n < k → (b : Bool) → n == e.0 ≡ b → passes test (posted_at n (e ∷ es)) ≡ false
          between n low less true same = rw (same_number n e.0, same) fails
          between n low less false differs = rw (same_number n e.0, differs) (rest.2 n low less)

      by : (low : Bool) → nat_le from e.0 ≡ low → first_that test (cond low (e ∷ from_on from es) (from_on from es))
          ≡ Some k
          → (first_that test (from_on from es) ≡ Some k → IsNext (λ n. passes test (posted_at n es)) from k)
          → IsNext (λ n. passes test (posted_at n (e ∷ es))) from k
      by true low is rest = here (test e.1) refl is rest
        where
          before : (n : ℕ) → n < e.0 → passes test (posted_at n (e ∷ es)) ≡ false
          before n less = let differs : n == e.0 ≡ false = grind (arith, nat_tests) in rw
              (same_number n e.0, differs, none_below n (omega (arith, less))) refl

          here : (t : Bool) → test e.1 ≡ t → cond t (Some e.0) (first_that test (from_on from es)) ≡ Some k
              → (first_that test (from_on from es) ≡ Some k → IsNext (λ n. passes test (posted_at n es)) from k)
              → IsNext (λ n. passes test (posted_at n (e ∷ es))) from k
          here true t is rest =
              let k_is : e.0 ≡ k = cc in
              rw (← k_is) (
                (let up : from ≤ e.0 = grind (arith, nat_tests) in up),
                rw (same_number e.0 e.0, is_same_as_itself e.0) t,
                λ n low less. before n less,
              )
          here false t is rest = skip t (rest is)
      by false low is rest = lower (rest is)
        where
          lower : IsNext (λ n. passes test (posted_at n es)) from k
              → IsNext (λ n. passes test (posted_at n (e ∷ es))) from k
          lower next = (
            next.0,
            (let differs : k == e.0 ≡ false = let up' = next.0 in grind (arith, nat_tests) in rw
                (same_number k e.0, differs) next.1),
            λ n up' less. (let differs : n == e.0 ≡ false = grind (arith, nat_tests) in rw (same_number n e.0, differs)
                (next.2 n up' less)),
          )

-- no delivery has a number from one on
pub none_between : (first end : ℕ) (es : List Entry) → from_on first es ≡ [] → list_any (is_between first end) es
    ≡ false
none_between first end [] none = refl
none_between first end (e ∷ es) none = by (nat_le first e.0) refl (rw (in_range first e.0) at none)
    (none_between first end es)
  where
    by : (b : Bool) → nat_le first e.0 ≡ b → cond b (e ∷ from_on first es) (from_on first es) ≡ []
        → (from_on first es ≡ [] → list_any (is_between first end) es ≡ false)
        → list_any (is_between first end) (e ∷ es) ≡ false
    by true is none rest = absurd cc
    by false is none rest = rw is (rest none)

-- the first from a number on tells whether one is below another number
pub first_between : (first end : ℕ) (es others : List Entry) (found : Entry) → Ascend es → from_on first es ≡ found
    ∷ others → list_any (is_between first end) es ≡ nat_lt found.0 end
first_between first end [] others found up is = absurd cc
first_between first end (e ∷ es) others found up is = by (nat_le first e.0) refl (rw (in_range first e.0) at is)
    (λ others' there. first_between first end es others' found up.1 there)
  where
    by : (b : Bool) → nat_le first e.0 ≡ b → cond b (e ∷ from_on first es) (from_on first es) ≡ found ∷ others
        → ((others' : List Entry) → from_on first es ≡ found ∷ others' → list_any (is_between first end) es
        ≡ nat_lt found.0 end)
        → list_any (is_between first end) (e ∷ es) ≡ nat_lt found.0 end
    by true low is rest =
        let found_is : e ≡ found = cc in
        rw (low, ← found_is) (below (nat_lt e.0 end) refl)
      where
        below : (b : Bool) → nat_lt e.0 end ≡ b → b || list_any (is_between first end) es ≡ b
        below true less = refl
        below false more = any_fails (is_between first end) es (all_so (λ (f : Entry). e.0 < f.0)
            (λ f. is_between first end f ≡ false) (λ f less. above f less) es up.0)
          where
            above : (f : Entry) → e.0 < f.0 → is_between first end f ≡ false
            above f less = let it : nat_lt f.0 end ≡ false = grind (arith, nat_tests) in rw it
                (and_false (nat_le first f.0))
              where
                and_false : (a : Bool) → a && false ≡ false
                and_false true = refl
                and_false false = refl
    by false low is rest = rw low (rest others is)

-- the items of the deliveries to a uid below a number
abbrev pub items_below : ℕ → ℕ → List Entry → List Item
items_below uid from es = map item_of (filter (λ (e : Entry). is_to uid e.1 && nat_lt e.0 from) es)

-- and of all
abbrev pub items_to : ℕ → List Entry → List Item
items_to uid es = map item_of (filter (λ (e : Entry). is_to uid e.1) es)

-- none is below the first number
pub nothing_below : (uid : ℕ) (es : List Entry) → items_below uid 0 es ≡ []
nothing_below uid [] = refl
nothing_below uid (e ∷ es) = by (is_to uid e.1) (nothing_below uid es)
  where
    never : (n : ℕ) → nat_lt n 0 ≡ false
    never n = grind (arith, nat_tests)

    by : (own : Bool) → items_below uid 0 es ≡ [] → map item_of (cond (own && nat_lt e.0 0)
        (e ∷ filter (λ (f : Entry). is_to uid f.1 && nat_lt f.0 0) es)
        (filter (λ (f : Entry). is_to uid f.1 && nat_lt f.0 0) es)) ≡ []
    by true rest = rw (never e.0) rest
    by false rest = rest

-- a number that passes a test is that of a delivery
pub passes_found : (test : Posted → Bool) (n : ℕ) (es : List Entry) → passes test (posted_at n es) ≡ true
    → (posted : Posted) × (posted_at n es ≡ Some posted)
passes_found test n es pass = by (posted_at n es) refl pass
  where
    by : (found : Option Posted) → posted_at n es ≡ found → passes test found ≡ true → (posted : Posted)
        × (posted_at n es ≡ Some posted)
    by None is pass = absurd cc
    by (Some posted) is pass = (posted, is)

-- and below the end
pub passes_within : (test : Posted → Bool) (end n : ℕ) (es : List Entry) → AreInOrder end es
    → passes test (posted_at n es) ≡ true → n < end
passes_within test end n es order pass =
    let found = passes_found test n es pass in
    let within = found_within end n found.0 es order found.1 in
    omega (arith, within.below, within.ended)

module _ (uid from end : ℕ) (es : List Entry) (order : AreInOrder end es) where
  -- if there is no further one, they are all
  pub all_below : NoneFrom (λ number. passes (is_to uid) (posted_at number es)) from → items_below uid from es
      ≡ items_to uid es
  all_below none = ap (map item_of) (agree _ _ es (at_each (λ (e : Entry). is_to uid e.1 && nat_lt e.0 from
      ≡ is_to uid e.1) end es order (λ n p is. by n p is (is_to uid p) refl (nat_lt n from) refl)))
    where
      by : (n : ℕ) (p : Posted) → posted_at n es ≡ Some p → (own : Bool) → is_to uid p ≡ own → (low : Bool)
          → nat_lt n from ≡ low → own && low ≡ own
      by n p is false to low less = refl
      by n p is true to true less = refl
      by n p is true to false less =
          let up : from ≤ n = grind (arith, nat_tests) in
          let wrong : true ≡ false = sym (ap (passes (is_to uid)) is ∙ to) ∙ none n up in
          absurd cc

  -- if they are enough, they are the first of all
  pub enough_below : (most : ℕ) → length (items_below uid from es) ≡ most → take most (items_to uid es)
      ≡ items_below uid from es
  enough_below most as_many =
      ap (take most) (ap (map item_of) (parted (λ (e : Entry). is_to uid e.1) from end es order)
      ∙ map-append item_of _ _)
      ∙ take_at (items_below uid from es) _ most as_many

  -- the next one comes after them
  pub next_below : (next : ℕ) (posted : Posted) → IsNext (λ number. passes (is_to uid) (posted_at number es)) from next
      → posted_at next es ≡ Some posted
      → items_below uid (next + 1) es ≡ items_below uid from es ++ item_of (next, posted) ∷ []
  next_below next posted is_next is =
      ap (map item_of) (
      parted (λ (e : Entry). is_to uid e.1 && nat_lt e.0 (next + 1)) from end es order
      ∙ ap (λ l. l ++ filter (λ (e : Entry). (is_to uid e.1 && nat_lt e.0 (next + 1)) && not (nat_lt e.0 from)) es)
      (filter_agree _ _ (λ (e : Entry). first (is_to uid e.1) e.0) es)
      ∙ ap (λ l. filter (λ (e : Entry). is_to uid e.1 && nat_lt e.0 from) es ++ l)
      (agree _ _ es (at_each (λ (e : Entry). (is_to uid e.1 && nat_lt e.0 (next + 1)) && not (nat_lt e.0 from)
      ≡ (e.0 == next)) end es order (λ n p at. by n p at (n == next) refl)) ∙ only end next posted es order is)
      ) ∙ map-append item_of _ _
    where
      first : (own : Bool) (n : ℕ) → (own && nat_lt n (next + 1)) && nat_lt n from ≡ (own && nat_lt n from)
      first false n = refl
      first true n = less (nat_lt n from) refl
        where
          less : (b : Bool) → nat_lt n from ≡ b → nat_lt n (next + 1) && b ≡ b
          less true low = let up = is_next.0 in let it : nat_lt n (next + 1)
              ≡ true = grind (arith, nat_tests) in rw it refl
          less false low = and_false (nat_lt n (next + 1))
            where
              and_false : (a : Bool) → a && false ≡ false
              and_false true = refl
              and_false false = refl

      by : (n : ℕ) (p : Posted) → posted_at n es ≡ Some p → (b : Bool) → n == next ≡ b
          → (is_to uid p && nat_lt n (next + 1)) && not (nat_lt n from) ≡ b
      by n p at true same =
          let n_is : n ≡ next = grind (arith, nat_tests) in
          let own : is_to uid p ≡ true = sym (ap (passes (is_to uid)) at) ∙ rw n_is is_next.1 in
          let up : from ≤ n = rw n_is is_next.0 in
          let low : nat_lt n (next + 1) ≡ true = grind (arith, nat_tests) in
          let high : nat_lt n from ≡ false = grind (arith, nat_tests) in
          rw (own, low, high) refl
      by n p at false differs = unless (is_to uid p) refl (nat_lt n (next + 1)) refl (nat_lt n from) refl
        where
          unless : (own : Bool) → is_to uid p ≡ own → (low : Bool) → nat_lt n (next + 1) ≡ low → (less : Bool)
              → nat_lt n from ≡ less → (own && low) && not less ≡ false
          unless false to low is_low less is_less = refl
          unless true to false is_low less is_less = refl
          unless true to true is_low true is_less = refl
          unless true to true is_low false is_less =
              let up : from ≤ n = grind (arith, nat_tests) in
              let down : n < next = grind (arith, nat_tests) in
              let wrong : true ≡ false = sym (ap (passes (is_to uid)) at ∙ to) ∙ is_next.2 n up down in
              absurd cc
