-- Lists: what was read of each entry is read again, and sorted texts are sorted.
use Rattle.std.proofs.Common.{◌≡◌, ℕ, suc, ◌≤◌, ◌<◌, Bool, true, false, cond, List, [], ◌∷◌, ◌++◌, length, map, fold, Option, Some, None, Result, Ok, Err, nat_cmp, Ordering, Less, Equal, Greater, true≢false, refl, sym, ap, ◌∙◌, subst, arith, append_assoc}
use Rattle.std.specs.Prelude.{nat_lt}
use Rattle.std.specs.BTreeSet.{insert_key}
use Rattle.std.specs.Cmp.Lexicographic.{slice_cmp}
use Rattle.std.specs.List.{AllByRecursion}
use Rattle.std.specs.List.Sorted.{IsStrictlySortedBy}
use Rattle.std.specs.Ordering.{match_ordering, ordering_reverse}
use Rattle.std.proofs.lemmas.Cmp.{nat_list_cmp_total}
use Rattle.std.proofs.lemmas.List.{append-nil}
use Rattle.std.proofs.lemmas.Bool.Decides.{Decides-ltb}
use Rattle.serde_json.specs.Data.{Data, string, Items, no_items, item}
use Rattle.serde_json.specs.Find.{as_array}
use Rattle.serde_json.specs.View.{items_of}
use Rattle.am_uri.specs.Texts.{sorted_texts, with_text}
use Rattle.am_uri.proofs.Order.{sorted_put, length_sorted}
use Rattle.am_wire_fields.specs.declared.fault.WireFault.{WireFault}
use Rattle.am_wire_fields.specs.declared.fault.WireFault.TheVariants.{TooLong}
use Rattle.am_wire_fields.specs.Fields.{unless_null}
use Rattle.am_wire_fields.specs.Lists.{values_of, few, list_of, list_in, list_if_said, each}
use Rattle.am_types.specs.Reading.{◌>>=◌}
use Rattle.am_wire_values.specs.Fields.{listed, some_listed}
use Rattle.am_wire_read_back.proofs.Kept.{IsKept, AreItemsKept, ForSome}
use Rattle.am_wire_read_back.proofs.Options.{IsReread}
use Rattle.am_wire_read_back.proofs.Steps.{step, steps, same_ok}

-- ---- each entry

-- an entry is read of what is written for it
abbrev pub IsRead : {A : Type 0} → (Data → Result A WireFault) → (A → Data) → A → Type 0
IsRead read write x = read (write x) ≡ Ok x

-- each value is kept
abbrev pub AreKept : List Data → Type 0
AreKept = AllByRecursion IsKept

module _ {A : Type 0} (read : Data → Result A WireFault) (write : A → Data) where
  -- entries that were read are read again
  pub each_read : IsReread read write → (values : List Data) (xs : List A) → AreKept values → each read values ≡ Ok xs
      → AllByRecursion (IsRead read write) xs
  unfolding each
  each_read again [] xs k h = subst (AllByRecursion (IsRead read write)) (same_ok [] xs h) tt
  each_read again (v ∷ vs) xs k h =
      let one = step (read v) (λ first. each read vs >>= λ others. Ok (first ∷ others)) xs h in
      let two = step (each read vs) (λ others. Ok (one.value ∷ others)) xs one.later in
      subst (AllByRecursion (IsRead read write)) (same_ok (one.value ∷ two.value) xs two.later)
      (again v one.value k.0 one.first, each_read again vs two.value k.1 two.first)

  -- entries that are read are read in a list
  pub each_again : (xs : List A) → AllByRecursion (IsRead read write) xs → each read (map write xs) ≡ Ok xs
  unfolding each
  each_again [] h = refl
  each_again (x ∷ xs) h = steps (read (write x)) (λ first. each read (map write xs) >>= λ others. Ok (first ∷ others)) x
      (x ∷ xs) h.0 (steps (each read (map write xs)) (λ others. Ok (x ∷ others)) xs (x ∷ xs) (each_again xs h.1) refl)

-- as many are read as there are values
pub each_length : {A : Type 0} (read : Data → Result A WireFault) (values : List Data) (xs : List A) → each read values
    ≡ Ok xs → length xs ≡ length values
unfolding each
each_length read [] xs h = ap length (sym (same_ok [] xs h))
each_length read (v ∷ vs) xs h =
    let one = step (read v) (λ first. each read vs >>= λ others. Ok (first ∷ others)) xs h in
    let two = step (each read vs) (λ others. Ok (one.value ∷ others)) xs one.later in
    ap length (sym (same_ok (one.value ∷ two.value) xs two.later)) ∙ ap suc (each_length read vs two.value two.first)

-- ---- arrays

pub values_again : (values : List Data) → values_of (items_of values) ≡ values
values_again [] = refl
values_again (v ∷ vs) = ap (λ (ds : List Data). v ∷ ds) (values_again vs)

items_kept : (ds : Items) → AreItemsKept ds → AreKept (values_of ds)
items_kept no_items h = tt
items_kept (item d ds) h = (h.0, items_kept ds h.1)

-- a list that is not long
few_at : (name : List ℕ) (b : Bool) (values got : List Data) → ◌≡◌ {A = Result (List Data) WireFault}
    (cond b (Err (TooLong name)) (Ok values)) (Ok got) → (b ≡ false) × (values ≡ got)
few_at name true values got h = absurd (cc)
few_at name false values got h = (refl, same_ok values got h)

-- what a list that was read is: kept, and not long
pub record WasListed (values : List Data) : Type 0 where
  pub kept : AreKept values
  pub within : nat_lt 64 (length values) ≡ false

was_few : (name : List ℕ) (ds : Items) (values : List Data) → AreItemsKept ds → few name (values_of ds) ≡ Ok values
    → WasListed values
unfolding few
was_few name ds values k h =
    let both = few_at name (nat_lt 64 (length (values_of ds))) (values_of ds) values h in
    record {
      kept = subst AreKept both.1 (items_kept ds k);
      within = ap (λ (vs : List Data). nat_lt 64 (length vs))
          (sym both.1) ∙ both.0;
    }

was_list_of : (name : List ℕ) (o : Option Items) (values : List Data) → ForSome AreItemsKept o → list_of name o
    ≡ Ok values → WasListed values
unfolding list_of
was_list_of name None values k h = absurd (cc)
was_list_of name (Some ds) values k h = was_few name ds values k h

array_kept : (value : Data) → IsKept value → ForSome AreItemsKept (as_array value)
array_kept (Data.array ds) h = h
array_kept value h = tt

pub was_list : (name : List ℕ) (value : Data) (values : List Data) → IsKept value → list_in name value ≡ Ok values
    → WasListed values
unfolding list_in
was_list name value values k h = was_list_of name (as_array value) values (array_kept value k) h

pub was_list_if : (name : List ℕ) (value : Option Data) (values : List Data) → ForSome IsKept value
    → list_if_said name value ≡ Ok values → WasListed values
unfolding list_if_said
was_list_if name None values k h = subst WasListed (same_ok [] values h) (record { kept = tt; within = refl })
was_list_if name (Some value) values k h = was_list name value values k h

few_again : (b : Bool) (name : List ℕ) (values : List Data) → b ≡ false
    → ◌≡◌ {A = Result (List Data) WireFault} (cond b (Err (TooLong name)) (Ok values)) (Ok values)
few_again true name values h = absurd (true≢false h)
few_again false name values h = refl

-- a list that is not long is read of what is written for it
pub list_again : (name : List ℕ) (values : List Data) → nat_lt 64 (length values) ≡ false → list_in name (listed values)
    ≡ Ok values
unfolding list_in list_of few
list_again name values h = rw (values_again values) (few_again (nat_lt 64 (length values)) name values h)

pub list_if_again : (name : List ℕ) (values : List Data) → nat_lt 64 (length values) ≡ false
    → list_if_said name (unless_null (some_listed values)) ≡ Ok values
unfolding list_if_said
list_if_again name [] h = refl
list_if_again name (v ∷ vs) h = list_again name (v ∷ vs) h

-- ---- sorted texts

-- what holds of all keys and of one more
pub all_put : (P : List ℕ → Type 0) (k : List ℕ) (ks : List (List ℕ)) → AllByRecursion P ks → P k
    → AllByRecursion P (insert_key (slice_cmp nat_cmp) ks k)
all_put P k [] a p = (p, tt)
all_put P k (x ∷ xs) a p = by (slice_cmp nat_cmp k x) (all_put P k xs a.1 p)
  where
    by : (r : Ordering) → AllByRecursion P (insert_key (slice_cmp nat_cmp) xs k)
        → AllByRecursion P (match_ordering r (k ∷ x ∷ xs) (x ∷ xs) (x ∷ insert_key (slice_cmp nat_cmp) xs k))
    by Less h = (p, a)
    by Equal h = a
    by Greater h = (a.0, h)

all_sorted_behind : (P : List ℕ → Type 0) (front texts : List (List ℕ)) → AllByRecursion P front
    → AllByRecursion P texts → AllByRecursion P (fold with_text front texts)
all_sorted_behind P front [] f t = f
all_sorted_behind P front (x ∷ xs) f t = all_sorted_behind P (with_text front x) xs (all_put P x front f t.0) t.1

-- what holds of texts holds of them sorted
pub all_sorted : (P : List ℕ → Type 0) (texts : List (List ℕ)) → AllByRecursion P texts
    → AllByRecursion P (sorted_texts texts)
all_sorted P texts t = all_sorted_behind P [] texts tt t

-- texts in order, each once
abbrev pub AreSorted : List (List ℕ) → Type 0
AreSorted = IsStrictlySortedBy (slice_cmp nat_cmp)

pub none_sorted : AreSorted []
unfolding IsStrictlySortedBy
none_sorted = tt

sorted_behind : (front texts : List (List ℕ)) → AreSorted front → AreSorted (fold with_text front texts)
sorted_behind front [] s = s
sorted_behind front (x ∷ xs) s = sorted_behind (with_text front x) xs
    (sorted_put (slice_cmp nat_cmp) nat_list_cmp_total x front s)

pub are_sorted : (texts : List (List ℕ)) → AreSorted (sorted_texts texts)
are_sorted texts = sorted_behind [] texts none_sorted

-- what holds of all holds of one among them
pub all_front : (P : List ℕ → Type 0) (xs : List (List ℕ)) (y : List ℕ) (ys : List (List ℕ))
    → AllByRecursion P (xs ++ y ∷ ys) → P y
all_front P [] y ys h = h.0
all_front P (x ∷ xs) y ys h = all_front P xs y ys h.1

-- a text above those before it goes last
pub put_last : (front : List (List ℕ)) (x : List ℕ) (xs : List (List ℕ)) → AreSorted (front ++ x ∷ xs)
    → with_text front x ≡ front ++ x ∷ []
unfolding IsStrictlySortedBy
put_last [] x xs h = refl
put_last (y ∷ ys) x xs h =
    let above : slice_cmp nat_cmp x y ≡ Greater = nat_list_cmp_total.antisymm x y
    ∙ ap ordering_reverse (all_front (λ z. slice_cmp nat_cmp y z ≡ Less) ys x xs h.0) in
    rw above (ap (λ (zs : List (List ℕ)). y ∷ zs) (put_last ys x xs h.1))

sorted_onto : (front texts : List (List ℕ)) → AreSorted (front ++ texts) → fold with_text front texts ≡ front ++ texts
sorted_onto front [] h = sym (append-nil front)
sorted_onto front (x ∷ xs) h =
    let grouped : (front ++ x ∷ []) ++ xs ≡ front ++ x ∷ xs = simp append_assoc in
    ap (λ (ys : List (List ℕ)). fold with_text ys xs) (put_last front x xs h)
    ∙ (sorted_onto (front ++ x ∷ []) xs (subst AreSorted (sym grouped) h) ∙ grouped)

-- sorted texts stay as they are
pub sorted_again : (texts : List (List ℕ)) → AreSorted texts → sorted_texts texts ≡ texts
sorted_again texts h = sorted_onto [] texts h

-- sorting doesn't make texts more
pub sorted_length : (texts : List (List ℕ)) → length (sorted_texts texts) ≤ length texts
sorted_length texts = omega (arith, length_sorted [] texts)

-- no longer than a short list
pub within_again : {A B : Type 0} (xs : List A) (ys : List B) → length xs ≤ length ys → nat_lt 64 (length ys) ≡ false
    → nat_lt 64 (length xs) ≡ false
within_again xs ys le h = by (nat_lt 64 (length xs)) refl
  where
    by : (b : Bool) → nat_lt 64 (length xs) ≡ b → b ≡ false
    by true e = let longer : 64 < length ys = omega (arith, (Decides-ltb 64 (length xs)).0 e) in absurd
        (true≢false (sym ((Decides-ltb 64 (length ys)).1 longer) ∙ h))
    by false e = refl

-- as many are written as there are
pub mapped_length : {A B : Type 0} (f : A → B) (xs : List A) → length (map f xs) ≡ length xs
mapped_length f [] = refl
mapped_length f (x ∷ xs) = ap suc (mapped_length f xs)

-- as many texts as a short list, sorted and written
pub mapped_within : (texts : List (List ℕ)) (values : List Data) → length texts ≡ length values
    → nat_lt 64 (length values) ≡ false → nat_lt 64 (length (map string (sorted_texts texts))) ≡ false
mapped_within texts values e h = within_again (map string (sorted_texts texts)) values
    (omega (arith, mapped_length string (sorted_texts texts), sorted_length texts)) h
