-- The broadcasts that deliveries in order belong to.
use Rattle.std.proofs.Common.{◌≡◌, ℕ, ◌+◌, ◌<◌, ◌≤◌, Bool, true, false, not, ◌&&◌, ◌||◌, cond, List, [], ◌∷◌, ◌++◌, length, map, refl, sym, ap, ◌∙◌, arith, suc, append_assoc, ◌⊎◌, inl, inr}
use Rattle.std.proofs.lemmas.List.{append-nil}
use Rattle.std.proofs.lemmas.List.Sums.{sum_by-cons}
use Rattle.std.proofs.lemmas.Bool.Decides.{nat_tests}
use Rattle.std.specs.Prelude.{Some, None, ◌==◌}
use Rattle.std.specs.Option.{option_map}
use Rattle.std.specs.List.{AllByRecursion, filter, list_any, list_all}
use Rattle.am_types.specs.declared.broadcast.Item.{Item}
use Rattle.am_model.specs.Filters.{is_empty}
use Rattle.am_model.specs.Broadcasts.{Normal, Delivery, is_delivery_due, normals_keeping}
use Rattle.am_model.specs.Sending.{or_held, held_in_deliveries, held_in_normals, normal_items}
use Rattle.am_model.proofs.Lists.{all_left}
use Rattle.am_queue_normal.specs.declared.delivery.Broadcast.{Broadcast}
use Rattle.am_queue_normal.specs.Posted.{AreInOrder, IsBefore, IsWithin, Posted, begin_with, broadcast_of, delivery_of, grouped, is_late, is_to, item_of, joined, posted_at}
use Rattle.am_queue_normal.specs.Kept.{AllLive, Rise, at_once_by, deliveries_in, items_of, some_due}
use Rattle.am_queue_normal.proofs.Keys.{same_from, same_number}
use Rattle.am_queue_normal.proofs.Finding.{items_to}
use Rattle.am_queue_normal.proofs.Ordered.{Entry, all_so}

differ : (a b : ℕ) → (a ≡ b → ⊥) → a == b ≡ false
differ a b apart = by (a == b) refl
  where
    by : (b' : Bool) → a == b ≡ b' → b' ≡ false
    by true same = absurd (apart (same_from a b same))
    by false isnt = refl

-- the broadcast of a delivery begins all that follow it: its deliveries, or others that come later
module _ (end : ℕ) (e : Entry) (es : List Entry) (within : IsWithin end e) (behind : AllByRecursion (IsBefore e) es)
  where
    -- if the next delivery is of the same broadcast, it has what was sent
    pub same_sent : (f : Entry) → IsBefore e f → IsWithin end f → f.1.sent.first == e.1.sent.first ≡ true → e.1.sent
        ≡ f.1.sent
    same_sent f before there same = by before.sent
      where
        by : (e.1.sent ≡ f.1.sent) ⊎ (e.1.sent.end ≤ f.1.sent.first) → e.1.sent ≡ f.1.sent
        by (inl is) = is
        by (inr past) =
            let firsts : f.1.sent.first ≡ e.1.sent.first = same_from f.1.sent.first e.1.sent.first same in
            absurd (omega (arith, past, firsts, within.from, within.below))

-- if the next delivery isn't of the same broadcast, all later ones are of later broadcasts
pub all_later : (end : ℕ) (e : Entry) (es : List Entry) → AreInOrder end (e ∷ es) → begin_with e.1.sent.first es ≡ false
    → AllByRecursion (λ (g : Entry). e.1.sent.first < g.1.sent.first) es
all_later end e [] order other = _
all_later end e (f ∷ es) order other = (
  later,
  all_so (IsBefore f) (λ (g : Entry). e.1.sent.first < g.1.sent.first)
      beyond es order.2.1,
)
  where
    later : e.1.sent.first < f.1.sent.first
    later = by order.1.0.sent
      where
        by : (e.1.sent ≡ f.1.sent) ⊎ (e.1.sent.end ≤ f.1.sent.first) → e.1.sent.first < f.1.sent.first
        by (inl is) =
            let same : f.1.sent.first == e.1.sent.first ≡ true = rw is
            (let it : f.1.sent.first == f.1.sent.first ≡ true = grind (arith, nat_tests) in it) in
            let wrong : true ≡ false = sym same ∙ other in
            absurd cc
        by (inr past) = omega (arith, past, order.0.from, order.0.below)

    beyond : (g : Entry) → IsBefore f g → e.1.sent.first < g.1.sent.first
    beyond g before = by before.sent
      where
        by : (f.1.sent ≡ g.1.sent) ⊎ (f.1.sent.end ≤ g.1.sent.first) → e.1.sent.first < g.1.sent.first
        by (inl is) = omega (arith, later, ap (λ (s : Broadcast). s.first) is)
        by (inr past) = omega (arith, later, past, order.2.0.from, order.2.0.below)

-- so none of them begins those that a test keeps with the same broadcast
pub none_same : (p : Entry → Bool) (end : ℕ) (e : Entry) (es : List Entry) → AreInOrder end (e ∷ es)
    → begin_with e.1.sent.first es ≡ false → begin_with e.1.sent.first (filter p es) ≡ false
none_same p end e es order other = begins (filter p es) (all_left (λ (g : Entry). e.1.sent.first < g.1.sent.first) p es
    (all_later end e es order other))
  where
    begins : (gs : List Entry) → AllByRecursion (λ (g : Entry). e.1.sent.first < g.1.sent.first) gs
        → begin_with e.1.sent.first gs ≡ false
    begins [] all = refl
    begins (g ∷ gs) all = differ g.1.sent.first e.1.sent.first (λ same. omega (arith, same, all.0))

-- the deliveries of the first broadcast
abbrev pub of_first : List Normal → List Delivery
of_first [] = []
of_first (first ∷ others) = first.deliveries

-- the first broadcast is that of the first delivery
pub joined_first : (e : Entry) (b : Bool) (normal : List Normal) → (deliveries : List Delivery) × (others : List Normal)
    × (joined e b normal ≡ broadcast_of e.1.sent (delivery_of e ∷ deliveries) ∷ others)
joined_first e false normal = ([], normal, refl)
joined_first e true [] = ([], [], refl)
joined_first e true (first ∷ others) = (first.deliveries, others, refl)

-- the first broadcast after a delivery of the same has what the delivery has
pub same_first : (end : ℕ) (e : Entry) (es : List Entry) → AreInOrder end (e ∷ es) → begin_with e.1.sent.first es ≡ true
    → (first : Normal) (others : List Normal) → grouped es ≡ first ∷ others → broadcast_of e.1.sent first.deliveries
    ≡ first
same_first end e [] order same first others is = absurd cc
same_first end e (f ∷ es) order same first others is =
    let it = joined_first f (begin_with f.1.sent.first es) (grouped es) in
    let shown : broadcast_of f.1.sent (delivery_of f ∷ it.0) ∷ it.1 ≡ first ∷ others = sym it.2 ∙ is in
    let first_is : broadcast_of f.1.sent (delivery_of f ∷ it.0) ≡ first = cc in
    rw (← first_is) (ap (λ s. broadcast_of s (delivery_of f ∷ it.0))
    (same_sent end e (f ∷ es) order.0 order.1 f order.1.0 order.2.0 same))

-- the first broadcast has deliveries that pass a test exactly if its deliveries begin those that pass
pub front_kept : (keeps : Delivery → Bool) (end : ℕ) (e : Entry) (es : List Entry) → AreInOrder end (e ∷ es)
    → begin_with e.1.sent.first es ≡ true
    → begin_with e.1.sent.first (filter (λ (f : Entry). keeps (delivery_of f)) es)
    ≡ not (is_empty (filter keeps (of_first (grouped es))))
front_kept keeps end e [] order same = absurd cc
front_kept keeps end e (f ∷ es) order same =
    by (keeps (delivery_of f)) refl (begin_with f.1.sent.first es) refl
    (λ again. front_kept keeps end f es order.2 again)
    (λ other. none_same (λ (g : Entry). keeps (delivery_of g)) end f es order.2 other)
  where
    firsts : f.1.sent.first ≡ e.1.sent.first
    firsts = same_from f.1.sent.first e.1.sent.first same

    left : List Entry
    left = filter (λ (g : Entry). keeps (delivery_of g)) es

    of_joined : (b : Bool) (normal : List Normal) → of_first (joined f b normal) ≡ delivery_of f
        ∷ cond b (of_first normal) []
    of_joined false normal = refl
    of_joined true [] = refl
    of_joined true (first ∷ others) = refl

    by : (k : Bool) → keeps (delivery_of f) ≡ k → (s : Bool) → begin_with f.1.sent.first es ≡ s
        → (begin_with f.1.sent.first es ≡ true → begin_with f.1.sent.first left
        ≡ not (is_empty (filter keeps (of_first (grouped es)))))
        → (begin_with f.1.sent.first es ≡ false → begin_with f.1.sent.first left ≡ false)
        → begin_with e.1.sent.first (filter (λ (g : Entry). keeps (delivery_of g)) (f ∷ es))
        ≡ not (is_empty (filter keeps (of_first (grouped (f ∷ es)))))
    by true kept s is again other = rw (of_joined (begin_with f.1.sent.first es) (grouped es), kept, same) refl
    by false kept true is again other = rw (of_joined (begin_with f.1.sent.first es) (grouped es), kept, is, ← firsts)
        (again is)
    by false kept false is again other = rw (of_joined (begin_with f.1.sent.first es) (grouped es), kept, is, ← firsts)
        (other is)

-- without the deliveries that don't pass a test are the broadcasts with those that do
pub grouped_kept : (keeps : Delivery → Bool) (end : ℕ) (es : List Entry) → AreInOrder end es
    → grouped (filter (λ (e : Entry). keeps (delivery_of e)) es) ≡ normals_keeping keeps (grouped es)
grouped_kept keeps end [] order = refl
grouped_kept keeps end (e ∷ es) order =
    by (keeps (delivery_of e)) refl (begin_with e.1.sent.first es) refl (grouped_kept keeps end es order.2)
  where
    left : List Entry
    left = filter (λ (f : Entry). keeps (delivery_of f)) es

    -- the delivery is out, and its broadcast has the others that it has
    dropped : (normal : List Normal) → keeps (delivery_of e) ≡ false
        → ((first : Normal) (others : List Normal) → normal ≡ first ∷ others → broadcast_of e.1.sent first.deliveries
        ≡ first)
        → normals_keeping keeps (joined e true normal) ≡ normals_keeping keeps normal
    dropped [] out same = rw out refl
    dropped (first ∷ others) out same =
        rw out (ap (λ (n : Normal). normals_keeping keeps (n ∷ others)) (same first others refl))

    -- it stays, and with it those of its broadcast that stay
    kept_true : (normal : List Normal) → keeps (delivery_of e) ≡ true
        → joined e (not (is_empty (filter keeps (of_first normal)))) (normals_keeping keeps normal)
        ≡ normals_keeping keeps (joined e true normal)
    kept_true [] stays = rw stays refl
    kept_true (first ∷ others) stays = rw stays (some (filter keeps first.deliveries) refl)
      where
        some : (ds : List Delivery) → filter keeps first.deliveries ≡ ds
            → joined e (not (is_empty ds)) (cond (not (is_empty ds))
            (record first { deliveries = ds } ∷ normals_keeping keeps others) (normals_keeping keeps others))
            ≡ broadcast_of e.1.sent (delivery_of e ∷ ds) ∷ normals_keeping keeps others
        some [] is = refl
        some (d ∷ ds) is = refl

    kept_false : (normal : List Normal) → keeps (delivery_of e) ≡ true → joined e false (normals_keeping keeps normal)
        ≡ normals_keeping keeps (joined e false normal)
    kept_false normal stays = rw stays refl

    out_false : (normal : List Normal) → keeps (delivery_of e) ≡ false → normals_keeping keeps (joined e false normal)
        ≡ normals_keeping keeps normal
    out_false normal out = rw out refl

    by : (k : Bool) → keeps (delivery_of e) ≡ k → (s : Bool) → begin_with e.1.sent.first es ≡ s → grouped left
        ≡ normals_keeping keeps (grouped es)
        → grouped (cond k (e ∷ left) left) ≡ normals_keeping keeps (joined e s (grouped es))
    by true stays true same rest = rw (front_kept keeps end e es order same, rest) (kept_true (grouped es) stays)
    by true stays false other rest =
        rw (none_same (λ (f : Entry). keeps (delivery_of f)) end e es order other, rest) (kept_false (grouped es) stays)
    by false out true same rest = rest ∙ sym (dropped (grouped es) out (same_first end e es order same))
    by false out false other rest = rest ∙ sym (out_false (grouped es) out)

-- each broadcast has a delivery
pub all_live : (es : List Entry) → AllLive (grouped es)
all_live [] = refl
all_live (e ∷ es) = by (begin_with e.1.sent.first es) (grouped es) (all_live es)
  where
    second : (a b : Bool) → a && b ≡ true → b ≡ true
    second true b is = is
    second false b is = absurd cc

    by : (b : Bool) (normal : List Normal) → AllLive normal → AllLive (joined e b normal)
    by false normal live = live
    by true [] live = refl
    by true (first ∷ others) live = second (not (is_empty first.deliveries))
        (list_all (λ (n : Normal). not (is_empty n.deliveries)) others) live

-- whose the delivery of a number is
pub held_grouped : (number : ℕ) (es : List Entry) → held_in_normals number (grouped es)
    ≡ option_map (λ (p : Posted). at_once_by p.spot.uid) (posted_at number es)
held_grouped number [] = refl
held_grouped number (e ∷ es) =
    rw (joined_holds (begin_with e.1.sent.first es) (grouped es), same_number number e.0)
    (by (number == e.0) refl (held_grouped number es))
  where
    joined_holds : (b : Bool) (normal : List Normal) → held_in_normals number (joined e b normal)
        ≡ cond (e.0 == number) (Some (at_once_by e.1.spot.uid)) (held_in_normals number normal)
    joined_holds false normal = one (e.0 == number)
      where
        one : (same : Bool) → or_held (cond same (Some (at_once_by e.1.spot.uid)) None) (held_in_normals number normal)
            ≡ cond same (Some (at_once_by e.1.spot.uid)) (held_in_normals number normal)
        one true = refl
        one false = refl
    joined_holds true [] = one (e.0 == number)
      where
        one : (same : Bool) → or_held (cond same (Some (at_once_by e.1.spot.uid)) None) None
            ≡ cond same (Some (at_once_by e.1.spot.uid)) None
        one true = refl
        one false = refl
    joined_holds true (first ∷ others) = one (e.0 == number)
      where
        one : (same : Bool) → or_held (cond same (Some (at_once_by e.1.spot.uid))
            (held_in_deliveries number first.deliveries)) (held_in_normals number others)
            ≡ cond same (Some (at_once_by e.1.spot.uid)) (held_in_normals number (first ∷ others))
        one true = refl
        one false = refl

    turned : (b : Bool) → number == e.0 ≡ b → e.0 == number ≡ b
    turned b is = let it : e.0 == number ≡ (number == e.0) = grind (arith, nat_tests) in it ∙ is

    by : (b : Bool) → number == e.0 ≡ b → held_in_normals number (grouped es)
        ≡ option_map (λ (p : Posted). at_once_by p.spot.uid) (posted_at number es)
        → cond (e.0 == number) (Some (at_once_by e.1.spot.uid)) (held_in_normals number (grouped es))
        ≡ option_map (λ (p : Posted). at_once_by p.spot.uid) (cond b (Some e.1) (posted_at number es))
    by true is rest = rw (turned true is) refl
    by false is rest = rw (turned false is) rest

-- whether a delivery is due
pub due_grouped : (now : ℕ) (es : List Entry) → some_due (grouped es) now ≡ list_any (λ (e : Entry). is_late now e.1) es
due_grouped now [] = refl
due_grouped now (e ∷ es) = joined_due (begin_with e.1.sent.first es) (grouped es)
    ∙ ap (λ b. is_late now e.1 || b) (due_grouped now es)
  where
    grouped_or : (a b c : Bool) → (a || b) || c ≡ a || (b || c)
    grouped_or true b c = refl
    grouped_or false b c = refl

    joined_due : (b : Bool) (normal : List Normal) → some_due (joined e b normal) now
        ≡ is_late now e.1 || some_due normal now
    joined_due false normal = grouped_or (is_late now e.1) false (some_due normal now)
    joined_due true [] = grouped_or (is_late now e.1) false false
    joined_due true (first ∷ others) = grouped_or (is_late now e.1) (list_any (is_delivery_due now) first.deliveries)
        (some_due others now)

-- how many deliveries there are
pub as_many_grouped : (es : List Entry) → deliveries_in (grouped es) ≡ length es
as_many_grouped [] = refl
as_many_grouped (e ∷ es) = joined_more (begin_with e.1.sent.first es) (grouped es) ∙ ap suc (as_many_grouped es)
  where
    joined_more : (b : Bool) (normal : List Normal) → deliveries_in (joined e b normal) ≡ suc (deliveries_in normal)
    joined_more false normal = rw sum_by-cons (omega arith)
    joined_more true [] = refl
    joined_more true (first ∷ others) = rw (sum_by-cons, sum_by-cons) (omega arith)

-- the deliveries to a uid as items
pub items_grouped : (uid end : ℕ) (es : List Entry) → AreInOrder end es → items_of uid (grouped es) ≡ items_to uid es
items_grouped uid end [] order = refl
items_grouped uid end (e ∷ es) order =
    by (begin_with e.1.sent.first es) refl ∙ ap (λ l. own ++ l) (items_grouped uid end es order.2)
    ∙ sym (mine (is_to uid e.1))
  where
    own : List Item
    own = cond (is_to uid e.1) (item_of e ∷ []) []

    mine : (b : Bool) → map item_of (cond b (e ∷ filter (λ (f : Entry). is_to uid f.1) es)
        (filter (λ (f : Entry). is_to uid f.1) es)) ≡ cond b (item_of e ∷ []) [] ++ items_to uid es
    mine true = refl
    mine false = refl

    one : (deliveries : List Delivery) (b : Bool) → is_to uid e.1 ≡ b
        → normal_items uid (broadcast_of e.1.sent (delivery_of e ∷ deliveries)) ≡ cond b (item_of e ∷ []) []
        ++ normal_items uid (broadcast_of e.1.sent deliveries)
    one deliveries true is = rw is refl
    one deliveries false is = rw is refl

    alone : normal_items uid (broadcast_of e.1.sent (delivery_of e ∷ [])) ≡ own
    alone = one [] (is_to uid e.1) refl ∙ append-nil own

    by : (b : Bool) → begin_with e.1.sent.first es ≡ b → items_of uid (joined e b (grouped es)) ≡ own
        ++ items_of uid (grouped es)
    by false is = ap (λ l. l ++ items_of uid (grouped es)) alone
    by true is = with_others (grouped es) refl
      where
        with_others : (normal : List Normal) → grouped es ≡ normal → items_of uid (joined e true normal) ≡ own
            ++ items_of uid normal
        with_others [] none = ap (λ l. l ++ []) alone
        with_others (first ∷ others) first_is =
            ap (λ l. l ++ items_of uid others) (one first.deliveries (is_to uid e.1) refl
            ∙ ap (λ n. own ++ normal_items uid n) (same_first end e es order is first others first_is))
            ∙ append_assoc own (normal_items uid first) (items_of uid others)

-- which rise
pub items_rise : (uid from end : ℕ) (es : List Entry) → AllByRecursion (λ (e : Entry). from ≤ e.0) es
    → AreInOrder end es → Rise from (items_to uid es)
items_rise uid from end [] above order = _
items_rise uid from end (e ∷ es) above order =
    by (is_to uid e.1) (items_rise uid (e.0 + 1) end es (all_so (IsBefore e) (λ (f : Entry). e.0 + 1 ≤ f.0)
    (λ f before. omega (arith, before.number)) es order.1) order.2) (items_rise uid from end es above.1 order.2)
  where
    by : (b : Bool) → Rise (e.0 + 1) (items_to uid es) → Rise from (items_to uid es)
        → Rise from (map item_of (cond b (e ∷ filter (λ (f : Entry). is_to uid f.1) es)
        (filter (λ (f : Entry). is_to uid f.1) es)))
    by true rest others = (above.0, rest)
    by false rest others = others
