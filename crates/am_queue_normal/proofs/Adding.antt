-- Deliveries of one more broadcast after those of others.
use Rattle.std.proofs.Common.{◌≡◌, ℕ, ◌+◌, ◌<◌, ◌≤◌, Bool, true, false, List, [], ◌∷◌, ◌++◌, length, refl, sym, ap, ◌∙◌, arith, inl, inr}
use Rattle.std.proofs.lemmas.Bool.Decides.{nat_tests}
use Rattle.std.specs.Prelude.{◌==◌}
use Rattle.std.specs.List.{AllByRecursion}
use Rattle.am_types.specs.declared.broadcast.Sending.{Sending}
use Rattle.am_types.specs.declared.broadcast.Spot.{Spot}
use Rattle.am_model.specs.Filters.{is_empty}
use Rattle.am_model.specs.Broadcasts.{Normal}
use Rattle.am_model.specs.Sending.{deliveries_from}
use Rattle.am_queue_normal.specs.declared.delivery.Broadcast.{Broadcast}
use Rattle.am_queue_normal.specs.declared.normals.Begin.{Begin}
use Rattle.am_queue_normal.specs.Posted.{AreInOrder, IsBefore, IsWithin, begin_with, broadcast_of, delivery_of, grouped, joined, posted_as, posted_to}
use Rattle.am_queue_normal.proofs.Ordered.{Entry, all_of_both, all_so}
use Rattle.am_queue_normal.proofs.Grouping.{joined_first}

-- what is kept of a broadcast that is sent, if its deliveries end before a number
abbrev pub sent_with : Begin → Sending → ℕ → Broadcast
sent_with begin sending end = record {
  number = begin.number;
  sender = sending.sender;
  intent = sending.intent;
  first = begin.first;
  end = end;
}

-- a later end serves too
pub raised : (end end' : ℕ) (es : List Entry) → end ≤ end' → AreInOrder end es → AreInOrder end' es
raised end end' [] more order = _
raised end end' (e ∷ es) more order = (
  record { from = order.0.from; below = order.0.below; ended = omega (arith, order.0.ended, more) },
  order.1,
  raised end end' es more order.2,
)

-- two lists in order, the one before the other
appended : (end : ℕ) (es fs : List Entry) → AreInOrder end es → AreInOrder end fs
    → AllByRecursion (λ (e : Entry). AllByRecursion (IsBefore e) fs) es → AreInOrder end (es ++ fs)
appended end [] fs order order' before = order'
appended end (e ∷ es) fs order order' before = (
  order.0,
  all_of_both (IsBefore e) es fs order.1 before.0,
  appended end
      es fs order.2 order' before.1,
)

-- two lists of which the second begins another broadcast
grouped_both : (es fs : List Entry) → AllByRecursion (λ (e : Entry). begin_with e.1.sent.first fs ≡ false) es
    → grouped (es ++ fs) ≡ grouped es ++ grouped fs
grouped_both [] fs other = refl
grouped_both (e ∷ []) fs other = rw other.0 refl
grouped_both (e ∷ e' ∷ es) fs other =
    ap (joined e (begin_with e.1.sent.first (e' ∷ es))) (grouped_both (e' ∷ es) fs other.1)
    ∙ by (begin_with e.1.sent.first (e' ∷ es)) (grouped (e' ∷ es)) refl
  where
    by : (b : Bool) (normal : List Normal) → grouped (e' ∷ es) ≡ normal → joined e b (normal ++ grouped fs)
        ≡ joined e b normal ++ grouped fs
    by false normal is = refl
    by true [] is =
        let it = joined_first e' (begin_with e'.1.sent.first es) (grouped es) in
        let wrong : broadcast_of e'.1.sent (delivery_of e' ∷ it.0) ∷ it.1 ≡ [] = sym it.2 ∙ is in
        absurd cc
    by true (first ∷ others) is = refl

module _ (sent : Broadcast) (deadline : ℕ) where
  -- the deliveries are of that broadcast, with numbers from one on
  posted_all : (n : ℕ) (xs : List Spot) → AllByRecursion (λ (f : Entry). (n ≤ f.0) × (f.1.sent ≡ sent))
      (posted_to sent deadline n xs)
  posted_all n [] = _
  posted_all n (x ∷ xs) = (
    (omega arith, refl),
    all_so (λ (f : Entry). (n + 1 ≤ f.0) × (f.1.sent ≡ sent)) (λ (f : Entry). (n ≤ f.0) × (f.1.sent ≡ sent))
        (λ f is. (omega (arith, is.0), is.1)) (posted_to sent deadline (n + 1) xs) (posted_all (n + 1) xs),
  )

  -- they are in order
  posted_order : (n : ℕ) (xs : List Spot) → sent.first ≤ n → n + length xs ≤ sent.end
      → AreInOrder sent.end (posted_to sent deadline n xs)
  posted_order n [] low high = _
  posted_order n (x ∷ xs) low high = (
    record { from = low; below = omega (arith, high); ended = omega arith },
    all_so (λ (f : Entry). (n + 1 ≤ f.0) × (f.1.sent ≡ sent)) (IsBefore (n, posted_as sent deadline x))
        (λ f is. record { number = omega (arith, is.0); sent = inl (sym is.1) }) (posted_to sent deadline (n + 1) xs)
        (posted_all (n + 1) xs),
    posted_order (n + 1) xs (omega (arith, low)) (omega (arith, high)),
  )

  -- and are one broadcast's
  posted_grouped : (n : ℕ) (x : Spot) (xs : List Spot) → grouped (posted_to sent deadline n (x ∷ xs))
      ≡ broadcast_of sent (deliveries_from n deadline (x ∷ xs)) ∷ []
  posted_grouped n x [] = refl
  posted_grouped n x (y ∷ ys) =
      let same : sent.first == sent.first ≡ true = grind (arith, nat_tests) in
      rw (same, posted_grouped (n + 1) y ys) refl

  module _ (end : ℕ) (es : List Entry) (order : AreInOrder end es) (low : end ≤ sent.first) (to : List Spot) where
    -- after the earlier ones they are in order
    pub sent_order : sent.first + length to ≤ sent.end → AreInOrder sent.end
        (es ++ posted_to sent deadline sent.first to)
    sent_order fits =
        appended sent.end es (posted_to sent deadline sent.first to)
        (raised end sent.end es (omega (arith, low, fits)) order) (posted_order sent.first to (omega arith) fits)
        (all_before es order)
      where
        before : (e : Entry) → IsWithin end e → (f : Entry) → (sent.first ≤ f.0) × (f.1.sent ≡ sent) → IsBefore e f
        before e within f is = record {
          number = omega (arith, within.below, within.ended, low, is.0);
          sent = inr (omega (arith, within.ended, low, ap (λ (s : Broadcast). s.first) is.1));
        }

        all_before : (fs : List Entry) → AreInOrder end fs → AllByRecursion
            (λ (e : Entry). AllByRecursion (IsBefore e) (posted_to sent deadline sent.first to)) fs
        all_before [] order' = _
        all_before (e ∷ fs) order' = (
          all_so (λ (f : Entry). (sent.first ≤ f.0) × (f.1.sent ≡ sent)) (IsBefore e) (before e order'.0)
              (posted_to sent deadline sent.first to) (posted_all sent.first to),
          all_before fs order'.2,
        )

    -- and are a broadcast of their own
    pub sent_grouped : is_empty to ≡ false → grouped (es ++ posted_to sent deadline sent.first to) ≡ grouped es
        ++ broadcast_of sent (deliveries_from sent.first deadline to) ∷ []
    sent_grouped some = grouped_both es (posted_to sent deadline sent.first to) (all_other es order)
        ∙ ap (λ l. grouped es ++ l) (by to some)
      where
        by : (xs : List Spot) → is_empty xs ≡ false → grouped (posted_to sent deadline sent.first xs)
            ≡ broadcast_of sent (deliveries_from sent.first deadline xs) ∷ []
        by [] some = absurd cc
        by (x ∷ xs) some = posted_grouped sent.first x xs

        other : (e : Entry) → IsWithin end e → (xs : List Spot) → begin_with e.1.sent.first
            (posted_to sent deadline sent.first xs) ≡ false
        other e within [] = refl
        other e within (x ∷ xs) = let lower : e.1.sent.first < sent.first = omega
            (arith, within.from, within.below, within.ended, low) in grind (arith, nat_tests)

        all_other : (fs : List Entry) → AreInOrder end fs → AllByRecursion
            (λ (e : Entry). begin_with e.1.sent.first (posted_to sent deadline sent.first to) ≡ false) fs
        all_other [] order' = _
        all_other (e ∷ fs) order' = (other e order'.0 to, all_other fs order'.2)
