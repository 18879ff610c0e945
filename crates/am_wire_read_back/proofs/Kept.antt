-- What every value that was read keeps: keys in order, and no number that is written as another.
use Rattle.std.proofs.Common.{◌≡◌, ℕ, zero, suc, ℤ, pos, negsuc, Bool, true, false, cond, List, ◌∷◌, Option, Some, None, option_map, option_and_then, nat_cmp, Ordering, Less, Equal, Greater, true≢false, refl, sym, ap, subst}
use Rattle.std.specs.Prelude.{◌^◌, ◌&&◌, ◌==◌, nat_lt, nat_le, slice_index, drop}
use Rattle.std.specs.BTreeSet.{insert_key}
use Rattle.std.specs.Cmp.Lexicographic.{slice_cmp}
use Rattle.std.specs.List.Sorted.{IsStrictlySortedBy}
use Rattle.std.specs.Ordering.{match_ordering}
use Rattle.std.proofs.lemmas.Cmp.{nat_list_cmp_total}
use Rattle.std.specs.Float.{binary64, float_is_finite}
use Rattle.std.proofs.lemmas.Bool.{and_parts}
use Rattle.fast_float.specs.Text.{minus, Parts, scan, digits_of, nearest, with_sign}
use Rattle.json.specs.Lex.{tokens}
use Rattle.json.specs.Json as json
use Rattle.serde_json.specs.Data.{Num, unsigned, negative, float, Data, null, boolean, number, string, array, object, Items, no_items, item, Members, no_members, member, put}
use Rattle.serde_json.specs.Find.{get, get_member}
use Rattle.serde_json.specs.Read.{is_integer, float_of, number_from, number_of, of_json, of_items, of_members, max_depth, read}
use Rattle.am_uri.proofs.Order.{sorted_put}
use Rattle.am_wire_fields.specs.Fields.{unless_null, field, keys_in}

-- a number below 0
abbrev pub IsNegative : ℤ → Type 0
IsNegative (pos n) = ⊥
IsNegative (negsuc n) = Unit {0}

-- a number that reads as it is written
abbrev pub IsPlainNumber : Num → Type 0
IsPlainNumber (unsigned n) = Unit {0}
IsPlainNumber (negative z) = IsNegative z
IsPlainNumber (float x) = Unit {0}

abbrev mutual
  pub IsKept : Data → Type 0
  IsKept null = Unit {0}
  IsKept (boolean b) = Unit {0}
  IsKept (number n) = IsPlainNumber n
  IsKept (string s) = Unit {0}
  IsKept (array ds) = AreItemsKept ds
  IsKept (object ms) = AreMembersKept ms × IsStrictlySortedBy (slice_cmp nat_cmp) (keys_in ms)

  pub AreItemsKept : Items → Type 0
  AreItemsKept no_items = Unit {0}
  AreItemsKept (item d ds) = IsKept d × AreItemsKept ds

  pub AreMembersKept : Members → Type 0
  AreMembersKept no_members = Unit {0}
  AreMembersKept (member k d ms) = IsKept d × AreMembersKept ms

-- of what is there
abbrev pub ForSome : {A : Type 0} → (A → Type 0) → Option A → Type 0
ForSome P None = Unit {0}
ForSome P (Some x) = P x

for_map : {A B : Type 0} (P : A → Type 0) (Q : B → Type 0) (f : A → B) → ((x : A) → P x → Q (f x)) → (o : Option A)
    → ForSome P o → ForSome Q (option_map f o)
for_map P Q f k None h = tt
for_map P Q f k (Some x) h = k x h

for_then : {A B : Type 0} (P : A → Type 0) (Q : B → Type 0) (f : A → Option B) → ((x : A) → P x → ForSome Q (f x))
    → (o : Option A) → ForSome P o → ForSome Q (option_and_then f o)
for_then P Q f k None h = tt
for_then P Q f k (Some x) h = k x h

any_option : {A : Type 0} (o : Option A) → ForSome (λ _. Unit {0}) o
any_option None = tt
any_option (Some x) = tt

-- the keys of members with one more value are those keys with one more
keys_put : (k : List ℕ) (d : Data) (ms : Members) → keys_in (put k d ms) ≡ insert_key (slice_cmp nat_cmp) (keys_in ms) k
keys_put k d no_members = refl
keys_put k d (member l e ms) = by (slice_cmp nat_cmp k l) (keys_put k d ms)
  where
    by : (o : Ordering) → keys_in (put k d ms) ≡ insert_key (slice_cmp nat_cmp) (keys_in ms) k
        → keys_in (match_ordering o (member k d (member l e ms)) (member l d ms) (member l e (put k d ms)))
        ≡ match_ordering o (k ∷ l ∷ keys_in ms) (l ∷ keys_in ms) (l ∷ insert_key (slice_cmp nat_cmp) (keys_in ms) k)
    by Less h = refl
    by Equal h = refl
    by Greater h = ap (λ (keys : List (List ℕ)). l ∷ keys) h

values_put : (k : List ℕ) (d : Data) (ms : Members) → IsKept d → AreMembersKept ms → AreMembersKept (put k d ms)
values_put k d no_members h n = (h, tt)
values_put k d (member l e ms) h n = by (slice_cmp nat_cmp k l) (values_put k d ms h n.1)
  where
    by : (o : Ordering) → AreMembersKept (put k d ms) → AreMembersKept
        (match_ordering o (member k d (member l e ms)) (member l d ms) (member l e (put k d ms)))
    by Less m = (h, n)
    by Equal m = (h, n.1)
    by Greater m = (n.0, m)

-- members that are kept, in order
abbrev AreKept : Members → Type 0
AreKept ms = AreMembersKept ms × IsStrictlySortedBy (slice_cmp nat_cmp) (keys_in ms)

kept_put : (k : List ℕ) (d : Data) (ms : Members) → IsKept d → AreKept ms → AreKept (put k d ms)
kept_put k d ms h n = (
  values_put k d ms h n.0,
  subst (IsStrictlySortedBy (slice_cmp nat_cmp)) (sym (keys_put k d ms))
      (sorted_put (slice_cmp nat_cmp) nat_list_cmp_total k (keys_in ms) n.1),
)

for_cond : {A : Type 0} (P : A → Type 0) (b : Bool) (x y : Option A) → (b ≡ true → ForSome P x)
    → (b ≡ false → ForSome P y) → ForSome P (cond b x y)
for_cond P true x y h k = h refl
for_cond P false x y h k = k refl

is_negative : (n : ℕ) → nat_lt 0 n ≡ true → IsNegative (with_sign true n)
is_negative zero h = absurd (true≢false (sym h))
is_negative (suc n) h = tt

float_plain : (sign : Bool) (p : Parts) → ForSome IsPlainNumber (float_of sign p)
float_plain sign p = for_cond IsPlainNumber (float_is_finite (nearest binary64 sign p))
    (Some (float (nearest binary64 sign p))) None (λ _. tt) (λ _. tt)

number_from_plain : (sign : Bool) (p : Parts) → ForSome IsPlainNumber (number_from sign p)
number_from_plain false p = for_cond IsPlainNumber _ (Some (unsigned (digits_of p))) (float_of false p) (λ _. tt)
    (λ _. float_plain false p)
number_from_plain true p =
    for_cond IsPlainNumber (is_integer p && nat_lt 0 (digits_of p) && nat_le (digits_of p) (2 ^ 63))
    (Some (negative (with_sign true (digits_of p)))) (float_of true p)
    (λ e. is_negative (digits_of p) (and_parts (is_integer p) (nat_lt 0 (digits_of p))
    (and_parts _ (nat_le (digits_of p) (2 ^ 63)) e).0).1) (λ _. float_plain true p)

number_plain : (s : List ℕ) → ForSome IsPlainNumber (number_of s)
unfolding number_of
number_plain s = for_cond IsPlainNumber (slice_index s 0 == minus) (number_from true (scan (drop 1 s)))
    (number_from false (scan s)) (λ _. number_from_plain true (scan (drop 1 s))) (λ _. number_from_plain false (scan s))

empty_kept : AreKept no_members
unfolding IsStrictlySortedBy
empty_kept = (tt, tt)

mutual
  kept_json : (j : json.Json) → ForSome IsKept (of_json j)
  kept_json json.null = tt
  kept_json (json.boolean b) = tt
  kept_json (json.number s) = for_map IsPlainNumber IsKept number (λ n h. h) (number_of s) (number_plain s)
  kept_json (json.string s) = tt
  kept_json (json.array js) = for_map AreItemsKept IsKept array (λ ds h. h) (of_items js) (kept_items js)
  kept_json (json.object ms) = for_map AreKept IsKept object (λ ds h. h) (of_members ms no_members)
      (kept_members ms no_members empty_kept)

  kept_items : (js : json.Items) → ForSome AreItemsKept (of_items js)
  kept_items json.no_items = tt
  kept_items (json.item j js) = for_then IsKept AreItemsKept _ (λ d h. for_map AreItemsKept AreItemsKept (item d)
      (λ ds m. (h, m)) (of_items js) (kept_items js)) (of_json j) (kept_json j)

  kept_members : (ms : json.Members) (found : Members) → AreKept found → ForSome AreKept (of_members ms found)
  kept_members json.no_members found h = h
  kept_members (json.member k j ms) found h = for_then IsKept AreKept _
      (λ d m. kept_members ms (put k d found) (kept_put k d found m h)) (of_json j) (kept_json j)

-- a value that was read is kept
pub kept_read : (text : List ℕ) (d : Data) → read text ≡ Some d → IsKept d
kept_read text d e =
    subst (ForSome IsKept) e (for_then (λ _. Unit {0}) IsKept of_json (λ j _. kept_json j)
    (option_and_then (λ p. json.if_last p.0 p.1) (json.value max_depth (tokens text))) (any_option _))

found_kept : (o : Ordering) (d : Data) (later : Option Data) → IsKept d → ForSome IsKept later
    → ForSome IsKept (match_ordering o later (Some d) later)
found_kept Less d later h n = n
found_kept Equal d later h n = h
found_kept Greater d later h n = n

member_kept : (name : List ℕ) (ms : Members) → AreMembersKept ms → ForSome IsKept (get_member name ms)
member_kept name no_members h = tt
member_kept name (member k d ms) h = found_kept (slice_cmp nat_cmp name k) d (get_member name ms) h.0
    (member_kept name ms h.1)

get_kept : (name : List ℕ) (d : Data) → IsKept d → ForSome IsKept (get name d)
get_kept name null h = tt
get_kept name (boolean b) h = tt
get_kept name (number n) h = tt
get_kept name (string s) h = tt
get_kept name (array ds) h = tt
get_kept name (object ms) h = member_kept name ms h.0

unless_null_kept : (o : Option Data) → ForSome IsKept o → ForSome IsKept (unless_null o)
unless_null_kept None h = tt
unless_null_kept (Some null) h = tt
unless_null_kept (Some (boolean b)) h = h
unless_null_kept (Some (number n)) h = h
unless_null_kept (Some (string s)) h = h
unless_null_kept (Some (array ds)) h = h
unless_null_kept (Some (object ms)) h = h

-- and so is each field of it
pub field_kept : (name : List ℕ) (d : Data) → IsKept d → ForSome IsKept (field name d)
unfolding field
field_kept name d h = unless_null_kept (get name d) (get_kept name d h)
