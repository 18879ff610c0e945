-- What is left without a delivery, and how many broadcasts.
use Rattle.std.proofs.Common.{◌≡◌, ℕ, ◌+◌, ◌<◌, ◌≤◌, Bool, true, false, not, ◌&&◌, ◌||◌, cond, List, [], ◌∷◌, length, refl, sym, ap, ◌∙◌, arith, add_comm, nat_cmp, ◌⊎◌, inl, inr}
use Rattle.std.proofs.lemmas.Bool.Decides.{nat_tests}
use Rattle.std.specs.Prelude.{Option, Some, None, MatchOption, IfSome, IsSome, is_some, ◌==◌, nat_le, nat_lt}
use Rattle.std.specs.Option.{option_map}
use Rattle.std.specs.List.{AllByRecursion, filter, list_any}
use Rattle.std.specs.Map.{remove_entry}
use Rattle.std.specs.BTreeMap.{is_at}
use Rattle.am_types.specs.declared.broadcast.Spot.{Spot}
use Rattle.am_model.specs.Broadcasts.{Normal, Delivery, normals_keeping}
use Rattle.am_model.specs.Sending.{Held, held_in_normals}
use Rattle.am_model.proofs.Lists.{all_left}
use Rattle.am_queue_ordered.proofs.Counting.{count_by-cons}
use Rattle.am_queue_ordered.specs.Counts.{one_for}
use Rattle.am_queue_normal.specs.declared.delivery.Broadcast.{Broadcast}
use Rattle.am_queue_normal.specs.Posted.{AreInOrder, IsBefore, IsWithin, Posted, begin_with, broadcast_of, delivery_of, grouped, is_between, is_late, joined, passes, posted_at}
use Rattle.am_queue_normal.specs.Kept.{AllPass, Fails, Kept, PassBelow, at_once_by, is_early, is_other, normals_of, or_below, some_due}
use Rattle.am_queue_normal.specs.Pairs.{IsNext, NoneFrom}
use Rattle.am_queue_normal.proofs.Finding.{passes_found}
use Rattle.am_queue_normal.proofs.Keys.{same_from, same_number}
use Rattle.am_queue_normal.proofs.Ordered.{Entry, agree, all_pass, all_so, any_fails, any_found, at_each, found_within, kept_in_order, without_number}
use Rattle.am_queue_normal.proofs.Grouping.{all_later, due_grouped, grouped_kept, held_grouped, joined_first, same_first, same_sent}

-- the deliveries without one
abbrev pub others_than : ℕ → List Entry → List Entry
others_than n es = filter (λ (e : Entry). not (e.0 == n)) es

-- one is out
pub one_less : (n : ℕ) (posted : Posted) (es : List Entry) → posted_at n es ≡ Some posted
    → length (remove_entry (is_at (nat_cmp n)) es) + 1 ≡ length es
one_less n posted [] is = absurd cc
one_less n posted (e ∷ es) is = by (is_at (nat_cmp n) e.0) is (one_less n posted es)
  where
    by : (b : Bool) → cond b (Some e.1) (posted_at n es) ≡ Some posted
        → (posted_at n es ≡ Some posted → length (remove_entry (is_at (nat_cmp n)) es) + 1 ≡ length es)
        → length (cond b es (e ∷ remove_entry (is_at (nat_cmp n)) es)) + 1 ≡ length (e ∷ es)
    by true is rest = omega arith
    by false is rest = omega (arith, rest is)

-- the others are in order
pub left_in_order : (n end : ℕ) (es : List Entry) → AreInOrder end es
    → AreInOrder end (remove_entry (is_at (nat_cmp n)) es)
left_in_order n end es order = rw (without_number end n es order) (kept_in_order (λ (e : Entry). not (e.0 == n)) end es
    order)

-- and their broadcasts those that are left
pub left_grouped : (n end : ℕ) (es : List Entry) → AreInOrder end es → grouped (remove_entry (is_at (nat_cmp n)) es)
    ≡ normals_keeping (is_other n) (grouped es)
left_grouped n end es order = ap grouped (without_number end n es order) ∙ grouped_kept (is_other n) end es order

-- what holds of each holds of one that is found
pub at_found : (P : Entry → Type 0) (n : ℕ) (posted : Posted) (es : List Entry) → AllByRecursion P es → posted_at n es
    ≡ Some posted → P (n, posted)
at_found P n posted [] all is = absurd cc
at_found P n posted (e ∷ es) all is = by (n == e.0) refl (at_found P n posted es all.1)
  where
    by : (b : Bool) → n == e.0 ≡ b → (posted_at n es ≡ Some posted → P (n, posted)) → P (n, posted)
    by true same rest =
        let it : Some e.1 ≡ Some posted = rw (same_number n e.0, same) at is in
        let posted_is : e.1 ≡ posted = cc in
        rw (← posted_is, same_from n e.0 same) all.0
    by false differs rest = rest (rw (same_number n e.0, differs) at is)

-- all are within
all_within : (end : ℕ) (es : List Entry) → AreInOrder end es → AllByRecursion (IsWithin end) es
all_within end [] order = _
all_within end (e ∷ es) order = (order.0, all_within end es order.2)

-- two deliveries are of one broadcast, or of two with numbers apart
abbrev Related : Posted → Entry → Type 0
Related posted e = (posted.sent ≡ e.1.sent) ⊎ ((posted.sent.end ≤ e.1.sent.first) ⊎ (e.1.sent.end ≤ posted.sent.first))

all_related : (end n : ℕ) (posted : Posted) (es : List Entry) → AreInOrder end es → posted_at n es ≡ Some posted
    → AllByRecursion (Related posted) es
all_related end n posted [] order is = _
all_related end n posted (e ∷ es) order is = by (n == e.0) refl (all_related end n posted es order.2)
  where
    behind : e.1 ≡ posted → (f : Entry) → IsBefore e f → Related posted f
    behind posted_is f before = which before.sent
      where
        which : (e.1.sent ≡ f.1.sent) ⊎ (e.1.sent.end ≤ f.1.sent.first)
            → (posted.sent ≡ f.1.sent) ⊎ ((posted.sent.end ≤ f.1.sent.first) ⊎ (f.1.sent.end ≤ posted.sent.first))
        which (inl same) = inl (ap (λ (p : Posted). p.sent) (sym posted_is) ∙ same)
        which (inr past) = inr (inl (omega (arith, past, ap (λ (p : Posted). p.sent.end) posted_is)))

    ahead : (e.1.sent ≡ posted.sent) ⊎ (e.1.sent.end ≤ posted.sent.first) → Related posted e
    ahead (inl same) = inl (sym same)
    ahead (inr past) = inr (inr past)

    by : (b : Bool) → n == e.0 ≡ b → (posted_at n es ≡ Some posted → AllByRecursion (Related posted) es)
        → AllByRecursion (Related posted) (e ∷ es)
    by true same rest =
        let it : Some e.1 ≡ Some posted = rw (same_number n e.0, same) at is in
        let posted_is : e.1 ≡ posted = cc in (
          inl (ap (λ (p : Posted). p.sent) (sym posted_is)),
          all_so (IsBefore e) (Related posted) (behind posted_is) es
              order.1,
        )
    by false differs rest =
        let there : posted_at n es ≡ Some posted = rw (same_number n e.0, differs) at is in
        (ahead (at_found (IsBefore e) n posted es order.1 there).sent, rest there)

-- a delivery has one of a broadcast's numbers exactly if it is of the broadcast
of_broadcast : (end : ℕ) (posted : Posted) (e : Entry) → posted.sent.first < posted.sent.end → IsWithin end e
    → Related posted e → is_between posted.sent.first posted.sent.end e ≡ (e.1.sent.first == posted.sent.first)
of_broadcast end posted e some within (inl same) =
    let firsts : posted.sent.first ≡ e.1.sent.first = ap (λ (s : Broadcast). s.first) same in
    let ends : posted.sent.end ≡ e.1.sent.end = ap (λ (s : Broadcast). s.end) same in
    let from = within.from in
    let below = within.below in
    let low : nat_le posted.sent.first e.0 ≡ true = grind (arith, nat_tests) in
    let high : nat_lt e.0 posted.sent.end ≡ true = grind (arith, nat_tests) in
    let it : e.1.sent.first == posted.sent.first ≡ true = grind (arith, nat_tests) in
    rw (low, high, it) refl
of_broadcast end posted e some within (inr (inl past)) =
    let from = within.from in
    let high : nat_lt e.0 posted.sent.end ≡ false = grind (arith, nat_tests) in
    let it : e.1.sent.first == posted.sent.first ≡ false = grind (arith, nat_tests) in
    rw (high, it) (and_false (nat_le posted.sent.first e.0))
  where
    and_false : (a : Bool) → a && false ≡ false
    and_false true = refl
    and_false false = refl
of_broadcast end posted e some within (inr (inr before)) =
    let from = within.from in
    let below = within.below in
    let low : nat_le posted.sent.first e.0 ≡ false = grind (arith, nat_tests) in
    let it : e.1.sent.first == posted.sent.first ≡ false = grind (arith, nat_tests) in
    rw (low, it) refl

both_hold : (P Q : Entry → Type 0) (es : List Entry) → AllByRecursion P es → AllByRecursion Q es
    → AllByRecursion (λ e. P e × Q e) es
both_hold P Q [] one other = _
both_hold P Q (e ∷ es) one other = ((one.0, other.0), both_hold P Q es one.1 other.1)

any_agree : (p q : Entry → Bool) (es : List Entry) → AllByRecursion (λ e. p e ≡ q e) es → list_any p es ≡ list_any q es
any_agree p q [] same = refl
any_agree p q (e ∷ es) same = rw (same.0, any_agree p q es same.1) refl

-- the delivery is of the broadcast that begins with a number
abbrev is_of : ℕ → Entry → Bool
is_of first e = e.1.sent.first == first

-- if a delivery's broadcast begins those after it, one of them is of it, and otherwise none is
begins_any : (end : ℕ) (e : Entry) (es : List Entry) → AreInOrder end (e ∷ es) → begin_with e.1.sent.first es
    ≡ list_any (is_of e.1.sent.first) es
begins_any end e es order = by (begin_with e.1.sent.first es) refl
  where
    some : (fs : List Entry) → begin_with e.1.sent.first fs ≡ true → list_any (is_of e.1.sent.first) fs ≡ true
    some [] is = absurd cc
    some (f ∷ fs) is = rw is refl

    higher : (a b : ℕ) → a < b → b == a ≡ false
    higher a b less = grind (arith, nat_tests)

    by : (b : Bool) → begin_with e.1.sent.first es ≡ b → b ≡ list_any (is_of e.1.sent.first) es
    by true is = sym (some es is)
    by false is =
        sym (any_fails (is_of e.1.sent.first) es
        (all_so (λ (g : Entry). e.1.sent.first < g.1.sent.first) (λ g. is_of e.1.sent.first g ≡ false)
        (λ g less. higher e.1.sent.first g.1.sent.first less) es (all_later end e es order is)))

-- a test that the removed delivery fails is passed by one of the others if it was by one of all
any_left : (p : Entry → Bool) (n : ℕ) (es : List Entry) → AllByRecursion (λ (e : Entry). e.0 == n ≡ true → p e ≡ false)
    es → list_any p (others_than n es) ≡ list_any p es
any_left p n [] fails = refl
any_left p n (e ∷ es) fails = by (e.0 == n) refl (any_left p n es fails.1)
  where
    by : (b : Bool) → e.0 == n ≡ b → list_any p (others_than n es) ≡ list_any p es
        → list_any p (cond (not b) (e ∷ others_than n es) (others_than n es)) ≡ p e || list_any p es
    by true is rest = rw (fails.0 is) rest
    by false is rest = ap (λ b. p e || b) rest

-- the broadcasts of a sender are one more if a delivery begins one
normals_more : (uid end : ℕ) (e : Entry) (es : List Entry) → AreInOrder end (e ∷ es)
    → normals_of (grouped (e ∷ es)) uid ≡ cond (begin_with e.1.sent.first es) 0 (cond (e.1.sent.sender == uid) 1 0) +
    normals_of (grouped es) uid
normals_more uid end e es order = by (begin_with e.1.sent.first es) refl (grouped es) refl
  where
    by : (b : Bool) → begin_with e.1.sent.first es ≡ b → (normal : List Normal) → grouped es ≡ normal
        → normals_of (joined e b normal) uid ≡ cond b 0 (cond (e.1.sent.sender == uid) 1 0) + normals_of normal uid
    by false is normal grouped_is = count_by-cons (λ (n : Normal). n.sender == uid)
        (broadcast_of e.1.sent (delivery_of e ∷ [])) normal
    by true is [] none = absurd (some es is none)
      where
        some : (fs : List Entry) → begin_with e.1.sent.first fs ≡ true → grouped fs ≡ [] → ⊥
        some [] is none = cc
        some (f ∷ fs) is none = let it = joined_first f (begin_with f.1.sent.first fs) (grouped fs) in let wrong
            : broadcast_of f.1.sent (delivery_of f ∷ it.0) ∷ it.1 ≡ [] = sym it.2 ∙ none in cc
    by true is (first ∷ others) grouped_is =
        let whole = count_by-cons (λ (n : Normal). n.sender == uid)
        (broadcast_of e.1.sent (delivery_of e ∷ first.deliveries)) others in
        let part = count_by-cons (λ (n : Normal). n.sender == uid) first others in
        let senders : e.1.sent.sender ≡ first.sender = ap (λ (n : Normal). n.sender)
        (same_first end e es order is first others grouped_is) in
        let counts : cond (e.1.sent.sender == uid) 1 0 ≡ cond (first.sender == uid) 1 0 = ap {B = ℕ}
        (λ n. cond (n == uid) 1 0) senders in
        omega (arith, whole, part, counts)

-- without a delivery its sender has one broadcast less, unless another of the broadcast is left
counted_left : (uid end n : ℕ) (posted : Posted) (es : List Entry) → AreInOrder end es → posted_at n es ≡ Some posted
    → normals_of (grouped es) uid ≡ normals_of (grouped (others_than n es)) uid + cond
    (list_any (is_of posted.sent.first) (others_than n es)) 0 (cond (posted.sent.sender == uid) 1 0)
counted_left uid end n posted [] order is = absurd cc
counted_left uid end n posted (e ∷ es) order is = by (e.0 == n) refl (counted_left uid end n posted es order.2)
  where
    one : Entry → ℕ
    one f = cond (f.1.sent.sender == uid) 1 0

    turned : (a b : ℕ) → a == b ≡ (b == a)
    turned a b = grind (arith, nat_tests)

    higher : (a b : ℕ) → a < b → b == a ≡ false
    higher a b less = grind (arith, nat_tests)

    left : List Entry
    left = others_than n es

    order_left : AreInOrder end (e ∷ left)
    order_left = (
      order.0,
      all_left (IsBefore e) (λ (f : Entry). not (f.0 == n)) es order.1,
      kept_in_order
          (λ (f : Entry). not (f.0 == n)) end es order.2,
    )

    -- it is the first
    first_out : e.0 ≡ n → e.1 ≡ posted
        → normals_of (grouped (e ∷ es)) uid ≡ normals_of (grouped left) uid + cond
        (list_any (is_of posted.sent.first) left) 0 (cond (posted.sent.sender == uid) 1 0)
    first_out n_is posted_is =
        let all : left ≡ es = all_pass (λ (f : Entry). not (f.0 == n)) es
        (all_so (IsBefore e) (λ (f : Entry). not (f.0 == n) ≡ true)
        (λ f before. ap not (higher n f.0 (omega (arith, before.number, n_is)))) es order.1) in
        rw (all, ← posted_is) (
        normals_more uid end e es order
        ∙ ap (λ b. cond b 0 (cond (e.1.sent.sender == uid) 1 0) + normals_of (grouped es) uid)
        (begins_any end e es order)
        ∙ add_comm (cond (list_any (is_of e.1.sent.first) es) 0 (cond (e.1.sent.sender == uid) 1 0))
        (normals_of (grouped es) uid)
        )

    -- it is of the same broadcast as the first
    of_first_out : posted_at n es ≡ Some posted → is_of posted.sent.first e ≡ true
        → normals_of (grouped es) uid ≡ normals_of (grouped left) uid + cond (list_any (is_of posted.sent.first) left) 0
        (cond (posted.sent.sender == uid) 1 0)
        → normals_of (grouped (e ∷ es)) uid ≡ normals_of (grouped (e ∷ left)) uid
    of_first_out there same rest =
        let firsts : e.1.sent.first ≡ posted.sent.first = same_from e.1.sent.first posted.sent.first same in
        let more : begin_with e.1.sent.first es ≡ true =
        begins_any end e es order ∙ any_found (is_of e.1.sent.first) n posted es there
        (turned posted.sent.first e.1.sent.first ∙ same) in
        let sent_is : e.1.sent ≡ posted.sent =
        same_sent end e es order.0 order.1 (n, posted) (at_found (IsBefore e) n posted es order.1 there)
        (found_within end n posted es order.2 there) (turned posted.sent.first e.1.sent.first ∙ same) in
        let whole = normals_more uid end e es order in
        let part = normals_more uid end e left order_left in
        let tie : cond (begin_with e.1.sent.first left) 0 (one e) ≡ cond (list_any (is_of posted.sent.first) left) 0
        (cond (posted.sent.sender == uid) 1 0) =
        ap (λ b. cond b 0 (one e)) (begins_any end e left order_left)
        ∙ ap (λ (s : Broadcast). cond (list_any (is_of s.first) left) 0 (cond (s.sender == uid) 1 0)) sent_is in
        omega (arith, whole, ap (λ b. cond b 0 (one e)) more, part, tie, rest)

    -- it is of another
    of_other_out : posted_at n es ≡ Some posted → is_of posted.sent.first e ≡ false
        → normals_of (grouped es) uid ≡ normals_of (grouped left) uid + cond (list_any (is_of posted.sent.first) left) 0
        (cond (posted.sent.sender == uid) 1 0)
        → normals_of (grouped (e ∷ es)) uid ≡ normals_of (grouped (e ∷ left)) uid + cond
        (list_any (is_of posted.sent.first) left) 0 (cond (posted.sent.sender == uid) 1 0)
    of_other_out there differs rest =
        let as_before : list_any (is_of e.1.sent.first) left ≡ list_any (is_of e.1.sent.first) es =
        any_left (is_of e.1.sent.first) n es (at_each (λ (f : Entry). f.0 == n ≡ true → is_of e.1.sent.first f ≡ false)
        end es order.2 (λ m p found same. fails m p found same)) in
        let begins : begin_with e.1.sent.first es ≡ begin_with e.1.sent.first left = begins_any end e es order
        ∙ sym as_before ∙ sym (begins_any end e left order_left) in
        let whole = normals_more uid end e es order in
        let part = normals_more uid end e left order_left in
        omega (arith, whole, part, rest, ap (λ b. cond b 0 (one e)) begins)
      where
        fails : (m : ℕ) (p : Posted) → posted_at m es ≡ Some p → m == n ≡ true → is_of e.1.sent.first (m, p) ≡ false
        fails m p found same =
            let it : Some p ≡ Some posted = sym found ∙ ap (λ k. posted_at k es) (same_from m n same) ∙ there in
            let p_is : p ≡ posted = cc in
            rw p_is (turned posted.sent.first e.1.sent.first ∙ differs)

    by : (b : Bool) → e.0 == n ≡ b
        → (posted_at n es ≡ Some posted → normals_of (grouped es) uid
        ≡ normals_of (grouped left) uid + cond (list_any (is_of posted.sent.first) left) 0
        (cond (posted.sent.sender == uid) 1 0))
        → normals_of (grouped (e ∷ es)) uid ≡ normals_of (grouped (others_than n (e ∷ es))) uid + cond
        (list_any (is_of posted.sent.first) (others_than n (e ∷ es))) 0 (cond (posted.sent.sender == uid) 1 0)
    by true same rest =
        let it : Some e.1 ≡ Some posted = rw (same_number n e.0, turned n e.0, same) at is in
        rw same (first_out (same_from e.0 n same) cc)
    by false differs rest =
        let there : posted_at n es ≡ Some posted = rw (same_number n e.0, turned n e.0, differs) at is in
        rw differs (which (is_of posted.sent.first e) refl there)
      where
        which : (b : Bool) → is_of posted.sent.first e ≡ b → posted_at n es ≡ Some posted
            → normals_of (grouped (e ∷ es)) uid ≡ normals_of (grouped (e ∷ left)) uid + cond
            (is_of posted.sent.first e || list_any (is_of posted.sent.first) left) 0
            (cond (posted.sent.sender == uid) 1 0)
        which true is there = rw is (let it = of_first_out there is (rest there) in omega (arith, it))
        which false is there = rw is (of_other_out there is (rest there))

-- the same, by the numbers of its broadcast
pub counted_out : (uid end n : ℕ) (posted : Posted) (es : List Entry) → AreInOrder end es → posted_at n es ≡ Some posted
    → normals_of (grouped es) uid
    ≡ normals_of (grouped (remove_entry (is_at (nat_cmp n)) es)) uid
    + cond (list_any (is_between posted.sent.first posted.sent.end) (remove_entry (is_at (nat_cmp n)) es)) 0
    (one_for posted.sent.sender uid)
counted_out uid end n posted es order is =
    rw (without_number end n es order, same_test, one_for_it posted.sent.sender uid)
    (counted_left uid end n posted es order is)
  where
    one_for_it : (sender uid : ℕ) → one_for sender uid ≡ cond (sender == uid) 1 0
    one_for_it sender uid = grind (arith, nat_tests)

    within : IsWithin end (n, posted)
    within = found_within end n posted es order is

    same_test : list_any (is_between posted.sent.first posted.sent.end) (others_than n es)
        ≡ list_any (is_of posted.sent.first) (others_than n es)
    same_test =
        any_agree (is_between posted.sent.first posted.sent.end) (is_of posted.sent.first) (others_than n es)
        (all_left (λ (e : Entry). is_between posted.sent.first posted.sent.end e ≡ is_of posted.sent.first e)
        (λ (e : Entry). not (e.0 == n)) es
        (all_so (λ (e : Entry). IsWithin end e × Related posted e)
        (λ (e : Entry). is_between posted.sent.first posted.sent.end e ≡ is_of posted.sent.first e)
        (λ e both. of_broadcast end posted e (omega (arith, within.from, within.below)) both.0 both.1) es
        (both_hold (IsWithin end) (Related posted) es (all_within end es order)
        (all_related end n posted es order is))))

-- a delivery that fails a test
pub fails_at : (keeps : Delivery → Bool) (end n : ℕ) (posted : Posted) (es : List Entry) → AreInOrder end es
    → posted_at n es ≡ Some posted → keeps (delivery_of (n, posted)) ≡ false
    → Fails keeps (grouped es) n
fails_at keeps end n posted es order is fails = (
  rw (held_grouped n es, is) refl,
  ap (normals_keeping keeps) (sym (grouped_kept (is_other n) end es order))
      ∙ sym (grouped_kept keeps end (others_than n es) (kept_in_order (λ (e : Entry). not (e.0 == n)) end es order))
      ∙ ap grouped (unless_out es (at_each (λ (e : Entry). e.0 == n ≡ true → keeps (delivery_of e) ≡ false) end es order
      (λ m p found same. out m p found same)))
      ∙ grouped_kept keeps end es order,
)
  where
    out : (m : ℕ) (p : Posted) → posted_at m es ≡ Some p → m == n ≡ true → keeps (delivery_of (m, p)) ≡ false
    out m p found same =
        let m_is : m ≡ n = same_from m n same in
        let it : Some p ≡ Some posted = sym found ∙ ap (λ k. posted_at k es) m_is ∙ is in
        let p_is : p ≡ posted = cc in
        rw (p_is, m_is) fails

    unless_out : (fs : List Entry) → AllByRecursion (λ (e : Entry). e.0 == n ≡ true → keeps (delivery_of e) ≡ false) fs
        → filter (λ (e : Entry). keeps (delivery_of e)) (others_than n fs)
        ≡ filter (λ (e : Entry). keeps (delivery_of e)) fs
    unless_out [] all = refl
    unless_out (f ∷ fs) all = by (f.0 == n) refl (unless_out fs all.1)
      where
        by : (b : Bool) → f.0 == n ≡ b → filter (λ (e : Entry). keeps (delivery_of e)) (others_than n fs)
            ≡ filter (λ (e : Entry). keeps (delivery_of e)) fs
            → filter (λ (e : Entry). keeps (delivery_of e)) (cond (not b) (f ∷ others_than n fs) (others_than n fs))
            ≡ filter (λ (e : Entry). keeps (delivery_of e)) (f ∷ fs)
        by true same rest = rw (all.0 same) rest
        by false same rest = rw rest refl

-- if no delivery fails it, all pass
pub all_pass_at : (keeps : Delivery → Bool) (end : ℕ) (es : List Entry) → AreInOrder end es
    → ((n : ℕ) (p : Posted) → posted_at n es ≡ Some p → keeps (delivery_of (n, p)) ≡ true) → AllPass keeps (grouped es)
all_pass_at keeps end es order pass =
    sym (grouped_kept keeps end es order) ∙ ap grouped (all_pass (λ (e : Entry). keeps (delivery_of e)) es
    (at_each (λ (e : Entry). keeps (delivery_of e) ≡ true) end es order pass))

-- two tests that agree on each keep the same broadcasts
pub agree_at : (keeps keeps' : Delivery → Bool) (end : ℕ) (es : List Entry) → AreInOrder end es
    → ((n : ℕ) (p : Posted) → posted_at n es ≡ Some p → keeps (delivery_of (n, p)) ≡ keeps' (delivery_of (n, p)))
    → normals_keeping keeps (grouped es) ≡ normals_keeping keeps' (grouped es)
agree_at keeps keeps' end es order same =
    sym (grouped_kept keeps end es order)
    ∙ ap grouped (agree (λ (e : Entry). keeps (delivery_of e)) (λ (e : Entry). keeps' (delivery_of e)) es
    (at_each (λ (e : Entry). keeps (delivery_of e) ≡ keeps' (delivery_of e)) end es order same))
    ∙ grouped_kept keeps' end es order

-- two tests in either order keep the same
pub either_first : (keeps keeps' : Delivery → Bool) (end : ℕ) (es : List Entry) → AreInOrder end es
    → normals_keeping keeps (normals_keeping keeps' (grouped es)) ≡ normals_keeping keeps'
    (normals_keeping keeps (grouped es))
either_first keeps keeps' end es order =
    both keeps keeps' ∙ ap grouped (commute es) ∙ sym (both keeps' keeps)
  where
    both : (k k' : Delivery → Bool) → normals_keeping k (normals_keeping k' (grouped es))
        ≡ grouped (filter (λ (e : Entry). k (delivery_of e)) (filter (λ (e : Entry). k' (delivery_of e)) es))
    both k k' =
        ap (normals_keeping k) (sym (grouped_kept k' end es order))
        ∙ sym (grouped_kept k end (filter (λ (e : Entry). k' (delivery_of e)) es)
        (kept_in_order (λ (e : Entry). k' (delivery_of e)) end es order))

    commute : (fs : List Entry) → filter (λ (e : Entry). keeps (delivery_of e))
        (filter (λ (e : Entry). keeps' (delivery_of e)) fs) ≡ filter (λ (e : Entry). keeps' (delivery_of e))
        (filter (λ (e : Entry). keeps (delivery_of e)) fs)
    commute [] = refl
    commute (f ∷ fs) = by (keeps (delivery_of f)) refl (keeps' (delivery_of f)) refl (commute fs)
      where
        by : (a : Bool) → keeps (delivery_of f) ≡ a → (b : Bool) → keeps' (delivery_of f) ≡ b
            → filter (λ (e : Entry). keeps (delivery_of e)) (filter (λ (e : Entry). keeps' (delivery_of e)) fs)
            ≡ filter (λ (e : Entry). keeps' (delivery_of e)) (filter (λ (e : Entry). keeps (delivery_of e)) fs)
            → filter (λ (e : Entry). keeps (delivery_of e)) (cond b
            (f ∷ filter (λ (e : Entry). keeps' (delivery_of e)) fs)
            (filter (λ (e : Entry). keeps' (delivery_of e)) fs))
            ≡ filter (λ (e : Entry). keeps' (delivery_of e)) (cond a
            (f ∷ filter (λ (e : Entry). keeps (delivery_of e)) fs)
            (filter (λ (e : Entry). keeps (delivery_of e)) fs))
        by true is true is' rest = rw (is, is') (ap (λ l. f ∷ l) rest)
        by true is false is' rest = rw is' rest
        by false is true is' rest = rw is rest
        by false is false is' rest = rest

-- the delivery that is found due, or that none is
pub late_or : (now end : ℕ) (es : List Entry) → AreInOrder end es → (found : Option ℕ)
    → MatchOption found ((number : ℕ) → passes (is_late now) (posted_at number es) ≡ false)
    (λ number. passes (is_late now) (posted_at number es) ≡ true)
    → MatchOption found (AllPass (is_early now) (grouped es)) (Fails (is_early now) (grouped es))
late_or now end es order None none = all_pass_at (is_early now) end es order
    (λ n p is. ap not (sym (ap (passes (is_late now)) is) ∙ none n))
late_or now end es order (Some n) late =
    let it = passes_found (is_late now) n es late in
    fails_at (is_early now) end n it.0 es order it.1 (ap not (sym (ap (passes (is_late now)) it.1) ∙ late))

-- which tells whether one is
pub due_or : (now end : ℕ) (es : List Entry) → AreInOrder end es → (found : Option ℕ)
    → MatchOption found ((number : ℕ) → passes (is_late now) (posted_at number es) ≡ false)
    (λ number. passes (is_late now) (posted_at number es) ≡ true)
    → is_some found ≡ some_due (grouped es) now
due_or now end es order None none =
    sym (due_grouped now es ∙ any_fails (λ (e : Entry). is_late now e.1) es
    (at_each (λ (e : Entry). is_late now e.1 ≡ false) end es order
    (λ n p is. sym (ap (passes (is_late now)) is) ∙ none n)))
due_or now end es order (Some n) late =
    let it = passes_found (is_late now) n es late in
    sym (due_grouped now es ∙ any_found (λ (e : Entry). is_late now e.1) n it.0 es it.1
    (sym (ap (passes (is_late now)) it.1) ∙ late))

module _ (struck : Spot → Bool) (from end : ℕ) (es : List Entry) (order : AreInOrder end es)
    (below : PassBelow (λ (d : Delivery). not (struck d.spot)) from (grouped es)) where
  -- the delivery that is found struck, or that none is
  pub struck_or : (found : Option ℕ) → MatchOption found (NoneFrom
      (λ n. passes (λ (p : Posted). struck p.spot) (posted_at n es)) from)
      (IsNext (λ n. passes (λ (p : Posted). struck p.spot) (posted_at n es)) from)
      → MatchOption found (AllPass (λ (d : Delivery). not (struck d.spot)) (grouped es))
      (Fails (λ (d : Delivery). not (struck d.spot)) (grouped es))
  struck_or None none = below ∙ all_pass_at (or_below (λ (d : Delivery). not (struck d.spot)) from) end es order
      (λ n p is. by n p is (struck p.spot) refl (nat_lt n from) refl)
    where
      by : (n : ℕ) (p : Posted) → posted_at n es ≡ Some p → (out : Bool) → struck p.spot ≡ out → (low : Bool)
          → nat_lt n from ≡ low → not out || low ≡ true
      by n p is false fails low less = refl
      by n p is true hits true less = refl
      by n p is true hits false less =
          let up : from ≤ n = grind (arith, nat_tests) in
          let wrong : true ≡ false = sym (ap (passes (λ (p : Posted). struck p.spot)) is ∙ hits) ∙ none n up in
          absurd cc
  struck_or (Some n) next =
      let it = passes_found (λ (p : Posted). struck p.spot) n es next.1 in
      fails_at (λ (d : Delivery). not (struck d.spot)) end n it.0 es order it.1
      (ap not (sym (ap (passes (λ (p : Posted). struck p.spot)) it.1) ∙ next.1))

  -- and without it none with a lower number is
  pub below_next : (found : Option ℕ) → MatchOption found (NoneFrom
      (λ n. passes (λ (p : Posted). struck p.spot) (posted_at n es)) from)
      (IsNext (λ n. passes (λ (p : Posted). struck p.spot) (posted_at n es)) from)
      → IfSome found (λ n. PassBelow (λ (d : Delivery). not (struck d.spot)) n
      (normals_keeping (is_other n) (grouped es)))
  below_next None none = _
  below_next (Some n) next =
      either_first keeps (is_other n) end es order
      ∙ ap (normals_keeping (is_other n)) (below ∙ agree_at (or_below keeps from) (or_below keeps n) end es order
      (λ m p is. by m p is (struck p.spot) refl (nat_lt m from) refl (nat_lt m n) refl))
      ∙ either_first (is_other n) (or_below keeps n) end es order
    where
      keeps : Delivery → Bool
      keeps d = not (struck d.spot)

      by : (m : ℕ) (p : Posted) → posted_at m es ≡ Some p → (out : Bool) → struck p.spot ≡ out → (low : Bool)
          → nat_lt m from ≡ low → (low' : Bool) → nat_lt m n ≡ low' → not out || low ≡ not out || low'
      by m p is false fails low less low' less' = refl
      by m p is true hits true less true less' = refl
      by m p is true hits false less false less' = refl
      by m p is true hits true less false less' = let up = next.0 in absurd
          (let a : m < from = grind (arith, nat_tests) in let b : n ≤ m = grind (arith, nat_tests) in omega
          (arith, a, b, up))
      by m p is true hits false less true less' =
          let up : from ≤ m = grind (arith, nat_tests) in
          let down : m < n = grind (arith, nat_tests) in
          let wrong : true ≡ false = sym (ap (passes (λ (p : Posted). struck p.spot)) is ∙ hits) ∙ next.2 m up down in
          absurd cc

-- a delivery that is held is found
pub unheld : (n : ℕ) (es : List Entry) → IsSome (held_in_normals n (grouped es)) → posted_at n es ≡ None → ⊥
unheld n es held none =
    let it : held_in_normals n (grouped es) ≡ None = held_grouped n es
    ∙ ap (option_map (λ (p : Posted). at_once_by p.spot.uid)) none in
    let wrong : IsSome {T = Held} None = rw it at held in
    cc

-- a sender's broadcast counts
pub own_counted : (sender total left : ℕ) → total ≡ left + one_for sender sender → 0 < total
own_counted sender total left is = let one : one_for sender sender
    ≡ 1 = grind (arith, nat_tests) in omega (arith, is, one)

-- what is kept of both parts
pub both_parts : (kept : Kept) (normal : List Normal) (end : ℕ) → kept.normal ≡ normal → kept.end ≡ end → kept
    ≡ record { normal = normal; end = end }
both_parts kept normal end same_normal same_end =
    ap (λ n. record { normal = n; end = kept.end }) same_normal ∙ ap (λ e. record { normal = normal; end = e }) same_end

-- if none is, all deliveries pass
pub early_or : (now end : ℕ) (es : List Entry) → AreInOrder end es → (found : Option ℕ)
    → MatchOption found ((number : ℕ) → passes (is_late now) (posted_at number es) ≡ false)
    (λ number. passes (is_late now) (posted_at number es) ≡ true)
    → is_some found ≡ false → AllPass (is_early now) (grouped es)
early_or now end es order None none is = late_or now end es order None none
early_or now end es order (Some n) late is = absurd cc
