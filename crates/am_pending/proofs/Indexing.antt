-- What stays true of the tokens and the numbers when records come, go and change.
use Rattle.std.proofs.Common.{◌≡◌, ℕ, ◌+◌, ◌-◌, ◌<◌, ◌==◌, Bool, true, false, not, ◌||◌, cond, List, [], ◌∷◌, ◌++◌, map, filter, All, Option, Some, None, option_map, refl, sym, ap, ◌∙◌, subst, true≢false, arith}
use Rattle.std.specs.List.{find, list_any}
use Rattle.std.specs.Option.{option_or, unwrap_or}
use Rattle.std.specs.Cmp.{nat_eq_equiv, first_so, unsigned_Decides}
use Rattle.std.proofs.lemmas.Bool.Decides.{nat_tests}
use Rattle.std.proofs.lemmas.Option.{same_Some}
use Rattle.std.proofs.lemmas.List.Elements.{filter-append, All-filter, All-head, All-map, All-nil, All-push, All-tail, All-weaker}
use Rattle.std.proofs.lemmas.List.Folds.{find-append, list_any_none}
use Rattle.std.proofs.lemmas.List.Sums.{sum_by_push, sum_by-cons}
use Rattle.am_types.specs.declared.intent.Named.{Named}
use Rattle.am_model.proofs.Parts.{found_passes}
use Rattle.am_model.specs.Pendings.{Pending, count_of, fresh, has_key, updated, with_holder, without_holder, without_token}
use Rattle.am_pending.specs.declared.key.Key.{Key}
use Rattle.am_pending.specs.Keys.{asked_by, is_same_key}
use Rattle.am_pending.specs.KeyLaws.{same_equiv}
use Rattle.am_pending.specs.Once.{AtMostOne}
use Rattle.am_pending.specs.Records.{IsIndexed, is_token, record_in, token_in}
use Rattle.am_pending.proofs.Lists.{any-none, cond_not, count-filter, count-without, find-alike, find-kept, found-otherwise, most-kept, most-push, none-kept}

-- the key of a record
abbrev pub key_of : Pending → Key
key_of kept = record {
  creator = kept.creator;
  kind = kept.kind;
  code = kept.code;
  one_shot = kept.one_shot;
  immutable = kept.immutable;
  mutable = kept.mutable;
  intent = kept.intent;
}

-- the token of a record
abbrev token_of : Pending → ℕ
token_of kept = kept.token

-- the same keys are the same as any other
pub alike : (key other one : Key) → is_same_key key other ≡ true → is_same_key one key ≡ is_same_key one other
alike key other one h = same_equiv.symm one key ∙ same_equiv.congr key other one h ∙ same_equiv.symm other one

-- the creator of a record of a key
pub has-creator : (key : Key) (kept : Pending) → has_key (asked_by key) kept ≡ true → (kept.creator == key.creator)
    ≡ true
has-creator key kept h = first_so _ _ (first_so _ _ (first_so _ _ (first_so _ _ (first_so _ _ (first_so _ _ h)))))

mapped-none : {X Y : Type 0} (f : X → Y) (o : Option X) → option_map f o ≡ None → o ≡ None
mapped-none f None h = refl
mapped-none f (Some x) h = cc

-- if no record has the key, none is found by it
pub none-has : (key : Key) (records : List Pending) → token_in key records ≡ None
    → find (has_key (asked_by key)) records ≡ None
none-has key records h = mapped-none token_of (find (has_key (asked_by key)) records) h

none-found : (key other : Key) (records : List Pending) → token_in key records ≡ None → is_same_key key other ≡ true
    → find (has_key (asked_by other)) records ≡ None
none-found key other records h e =
    (λ i. find (λ (kept : Pending). sym (alike key other (key_of kept) e) i) records) ∙ none-has key records h

-- the record that has the key
pub the_one : (o : Option Pending) (token : ℕ) → option_map (λ (kept : Pending). kept.token) o ≡ Some token
    → (one : Pending) × (o ≡ Some one) × (one.token ≡ token)
the_one None token h = cc
the_one (Some one) token h = (one, refl, ap (λ n. unwrap_or n one.token) h)

-- the same tokens and numbers, found otherwise
pub same_indexed : (records : List Pending) (f f' : Key → Option ℕ) (g g' : ℕ → ℕ) (n : ℕ) → IsIndexed records f g n
    → ((key : Key) → f' key ≡ f key) → ((uid : ℕ) → g' uid ≡ g uid) → IsIndexed records f' g' n
same_indexed records f f' g g' n h s t = record {
  apart = h.apart;
  once = h.once;
  below = h.below;
  found = λ key. s key
      ∙ h.found key;
  counted = λ uid. t uid ∙ h.counted uid;
}

-- no record has no token and no key
pub none_indexed : (records : List Pending) (f : Key → Option ℕ) (g : ℕ → ℕ) → records ≡ []
    → ((key : Key) → f key ≡ None) → ((uid : ℕ) → g uid ≡ 0) → IsIndexed records f g 1
none_indexed records f g e s t =
    subst (λ (all : List Pending). IsIndexed all f g 1) (sym e)
    (record {
      apart = λ key. tt;
      once = λ token. tt;
      below = All-nil (λ (kept : Pending). kept.token < 1);
      found = s;
      counted = t;
    })

-- the next token isn't one of the present ones
none-next : (n : ℕ) (records : List Pending) → All (λ (kept : Pending). kept.token < n) records
    → list_any (is_token n) records ≡ false
none-next n records h =
    list_any_none (is_token n) records
    (All-weaker (λ (kept : Pending). kept.token < n) (λ (kept : Pending). (kept.token == n) ≡ false)
    (λ kept l. grind (arith, nat_tests)) records h)

or_none : (o : Option Pending) → option_or o None ≡ o
or_none None = refl
or_none (Some x) = refl

-- one more record under the next token, of a key that none has
pub pushed : (records : List Pending) (f : Key → Option ℕ) (g : ℕ → ℕ) (n : ℕ) (key : Key) → IsIndexed records f g n
    → token_in key records ≡ None →
    IsIndexed (records ++ fresh n (asked_by key) ∷ []) (λ other. cond (is_same_key other key) (Some n) (f other))
    (λ uid. g uid + cond (uid == key.creator) 1 0) (n + 1)
pushed records f g n key h none = record { apart = apart; once = once; below = below; found = found; counted = counted }
  where
    one : Pending
    one = fresh n (asked_by key)

    apart : (other : Key) → AtMostOne (has_key (asked_by other)) (records ++ one ∷ [])
    apart other = most-push (has_key (asked_by other)) records one (h.apart other)
        (λ e. any-none (has_key (asked_by other)) records (none-found key other records none e))

    once : (token : ℕ) → AtMostOne (is_token token) (records ++ one ∷ [])
    once token = most-push (is_token token) records one (h.once token)
        (λ e. subst (λ m. list_any (is_token m) records ≡ false) ((unsigned_Decides n token).0 e)
        (none-next n records h.below))

    below : All (λ (kept : Pending). kept.token < n + 1) (records ++ one ∷ [])
    below =
        All-push (λ (kept : Pending). kept.token < n + 1) records one
        (All-weaker (λ (kept : Pending). kept.token < n) (λ (kept : Pending). kept.token < n + 1)
        (λ kept l. omega (arith, l)) records h.below) (omega arith)

    found_by : (other : Key) (b : Bool) → is_same_key key other ≡ b → cond b (Some n) (f other)
        ≡ option_map token_of (option_or (find (has_key (asked_by other)) records) (cond b (Some one) None))
    found_by other true e = sym (ap (λ o. option_map token_of (option_or o (Some one)))
        (none-found key other records none e))
    found_by other false e = h.found other ∙ ap (option_map token_of)
        (sym (or_none (find (has_key (asked_by other)) records)))

    found : (other : Key) → cond (is_same_key other key) (Some n) (f other) ≡ token_in other (records ++ one ∷ [])
    found other =
        ap (λ b. cond b (Some n) (f other)) (same_equiv.symm other key)
        ∙ found_by other (is_same_key key other) refl
        ∙ sym (ap (option_map token_of) (find-append (has_key (asked_by other)) records (one ∷ [])))

    counted : (uid : ℕ) → g uid + cond (uid == key.creator) 1 0 ≡ count_of (records ++ one ∷ []) uid
    counted uid =
        let a = h.counted uid in
        let b = sum_by_push (λ (kept : Pending). cond (kept.creator == uid) 1 0) records one in
        let c = ap {B = ℕ} (λ b. cond b 1 0) (nat_eq_equiv.symm uid key.creator) in
        omega (arith, a, b, c)

-- without the record of a token
pub removed : (records : List Pending) (f : Key → Option ℕ) (g : ℕ → ℕ) (n token : ℕ) (gone : Pending)
    → IsIndexed records f g n → record_in token records ≡ Some gone →
    IsIndexed (without_token records token) (λ other. cond (is_same_key other (key_of gone)) None (f other))
    (λ uid. g uid - cond (uid == gone.creator) 1 0) n
removed records f g n token gone h is = record {
  apart = λ other. most-kept (has_key (asked_by other)) keep records (h.apart other);
  once = λ other. most-kept (is_token other) keep records (h.once other);
  below = All-filter keep (λ (kept : Pending). kept.token < n) records h.below;
  found = λ other. by other (is_same_key other (key_of gone)) refl;
  counted = counted;
}
  where
    keep : Pending → Bool
    keep kept = not (kept.token == token)

    -- another key's record stays
    stays : (other : Key) (one : Pending) (b : Bool) → has_key (asked_by other) gone ≡ false
        → find (has_key (asked_by other)) records ≡ Some one → (one.token == token) ≡ b → (one.token == token) ≡ false
    stays other one true isnt k e =
        let same : gone ≡ one = same_Some gone one (sym is ∙ found-otherwise (has_key (asked_by other)) (is_token token)
        records one k e (h.once token)) in
        absurd (true≢false (sym (found_passes (has_key (asked_by other)) records one k)
        ∙ ap (has_key (asked_by other)) (sym same) ∙ isnt))
    stays other one false isnt k e = e

    left : (other : Key) (o : Option Pending) → has_key (asked_by other) gone ≡ false
        → find (has_key (asked_by other)) records ≡ o → find (has_key (asked_by other)) (filter keep records) ≡ o
    left other None isnt k = none-kept (has_key (asked_by other)) keep records k
    left other (Some one) isnt k =
        find-kept (has_key (asked_by other)) keep records one k (h.apart other)
        ∙ ap (λ b. cond (not b) (Some one) None) (stays other one (one.token == token) isnt k refl)

    by : (other : Key) (b : Bool) → is_same_key other (key_of gone) ≡ b → cond b None (f other)
        ≡ token_in other (filter keep records)
    by other true e =
        let has = found-otherwise (is_token token) (has_key (asked_by other)) records gone is
        (same_equiv.symm (key_of gone) other ∙ e) (h.apart other) in
        sym (ap (option_map token_of) (find-kept (has_key (asked_by other)) keep records gone has (h.apart other)
        ∙ ap (λ b. cond (not b) (Some gone) None) (found_passes (is_token token) records gone is)))
    by other false e =
        h.found other
        ∙ ap (option_map token_of) (sym (left other (find (has_key (asked_by other)) records)
        (same_equiv.symm (key_of gone) other ∙ e) refl))

    counted : (uid : ℕ) → g uid - cond (uid == gone.creator) 1 0 ≡ count_of (filter keep records) uid
    counted uid =
        let a = h.counted uid in
        let b = count-without (is_token token) (λ (kept : Pending). kept.creator == uid) records gone is (h.once token)
        in
        let c = ap {B = ℕ} (λ b. cond b 1 0) (nat_eq_equiv.symm uid gone.creator) in
        omega (arith, a, b, c)

-- the rest without a token's record is indexed if its key is no longer set and its creator has one less
pub unlisted : {key : Key} (records left : List Pending) (f f' : Key → Option ℕ) (g g' : ℕ → ℕ) (n token : ℕ)
    (gone : Pending) → IsIndexed records f g n
    → record_in token records ≡ Some gone → left ≡ without_token records token → key ≡ key_of gone
    → ((other : Key) → f' other ≡ cond (is_same_key other key) None (f other))
    → ((uid : ℕ) → g' uid ≡ g uid - cond (uid == key.creator) 1 0)
    → IsIndexed left f' g' n
unlisted records left f f' g g' n token gone indexed is without same tokens counts =
    subst (λ (all : List Pending). IsIndexed all f' g' n) (sym without)
    (same_indexed _ _ f' _ g' n (removed records f g n token gone indexed is)
    (λ other. tokens other ∙ ap (λ (k : Key). cond (is_same_key other k) None (f other)) same)
    (λ uid. counts uid ∙ ap (λ (k : Key). g uid - cond (uid == k.creator) 1 0) same))

-- without the records of a creator
pub others_left : (records : List Pending) (f : Key → Option ℕ) (g : ℕ → ℕ) (n uid : ℕ) → IsIndexed records f g n →
    IsIndexed (filter (λ (kept : Pending). not (kept.creator == uid)) records)
    (λ other. cond (other.creator == uid) None (f other)) (λ other. cond (other == uid) 0 (g other)) n
others_left records f g n uid h = record {
  apart = λ other. most-kept (has_key (asked_by other)) keep records (h.apart other);
  once = λ token. most-kept (is_token token) keep records (h.once token);
  below = All-filter keep (λ (kept : Pending). kept.token < n) records h.below;
  found = found;
  counted = counted;
}
  where
    keep : Pending → Bool
    keep kept = not (kept.creator == uid)

    turned : (b : Bool) (o : Option Pending) → cond b None (option_map token_of o)
        ≡ option_map token_of (cond (not b) o None)
    turned true o = refl
    turned false o = refl

    found : (other : Key) → cond (other.creator == uid) None (f other) ≡ token_in other (filter keep records)
    found other =
        ap (cond (other.creator == uid) None) (h.found other)
        ∙ turned (other.creator == uid) (find (has_key (asked_by other)) records)
        ∙ sym (ap (option_map token_of)
        (find-alike (has_key (asked_by other)) keep (not (other.creator == uid))
        (λ kept e. ap (λ creator. not (creator == uid)) ((unsigned_Decides kept.creator other.creator).0
        (has-creator other kept e))) records))

    counted : (other : ℕ) → cond (other == uid) 0 (g other) ≡ count_of (filter keep records) other
    counted other =
        ap (cond (other == uid) 0) (h.counted other)
        ∙ sym (cond_not (other == uid) (count_of records other) 0)
        ∙ sym (count-filter (λ (kept : Pending). kept.creator == other) keep (not (other == uid))
        (λ kept e. ap (λ creator. not (creator == uid)) ((unsigned_Decides kept.creator other).0 e)) records)

module _ (change : Pending → Pending) where
  -- a change that leaves tokens, keys and creators
  pub record Leaves : Type 0 where
    pub keys : (key : Key) (kept : Pending) → has_key (asked_by key) (change kept) ≡ has_key (asked_by key) kept
    pub token : (kept : Pending) → (change kept).token ≡ kept.token
    pub creator : (kept : Pending) → (change kept).creator ≡ kept.creator

  module _ (leaves : Leaves) where
    module _ (q : Pending → Bool) (same : (kept : Pending) → q (change kept) ≡ q kept) where
      found-map : (records : List Pending) → option_map token_of (find q (map change records))
          ≡ option_map token_of (find q records)
      found-map [] = refl
      found-map (first ∷ others) =
          ap (λ b. option_map token_of (cond b (Some (change first)) (find q (map change others)))) (same first)
          ∙ by (q first) (found-map others)
        where
          by : (b : Bool) → option_map token_of (find q (map change others)) ≡ option_map token_of (find q others)
              → option_map token_of (cond b (Some (change first)) (find q (map change others)))
              ≡ option_map token_of (cond b (Some first) (find q others))
          by true rest = ap Some (leaves.token first)
          by false rest = rest

      any-map : (records : List Pending) → list_any q (map change records) ≡ list_any q records
      any-map [] = refl
      any-map (first ∷ others) = λ i. same first i || any-map others i

      most-map : (records : List Pending) → AtMostOne q records → AtMostOne q (map change records)
      most-map [] m = tt
      most-map (first ∷ others) m = ((λ e. any-map others ∙ m.0 (sym (same first) ∙ e)), most-map others m.1)

    count-map : (uid : ℕ) (records : List Pending) → count_of (map change records) uid ≡ count_of records uid
    count-map uid [] = refl
    count-map uid (first ∷ others) =
        let a = sum_by-cons (λ (kept : Pending). cond (kept.creator == uid) 1 0) (change first) (map change others) in
        let b = sum_by-cons (λ (kept : Pending). cond (kept.creator == uid) 1 0) first others in
        let c = ap {B = ℕ} (λ creator. cond (creator == uid) 1 0) (leaves.creator first) in
        let d = count-map uid others in
        omega (arith, a, b, c, d)

    -- leaves what is found and counted
    pub mapped : (records : List Pending) (f : Key → Option ℕ) (g : ℕ → ℕ) (n : ℕ) → IsIndexed records f g n
        → IsIndexed (map change records) f g n
    mapped records f g n h = record {
      apart = λ key. most-map (has_key (asked_by key)) (leaves.keys key) records (h.apart key);
      once = λ token. most-map (is_token token) (λ kept. ap (λ m. m == token) (leaves.token kept)) records
          (h.once token);
      below =
          All-map (λ (kept : Pending). kept.token < n) change records
          (All-weaker (λ (kept : Pending). kept.token < n) (λ (kept : Pending). (change kept).token < n)
          (λ kept l. subst (λ m. m < n) (sym (leaves.token kept)) l) records h.below);
      found = λ key. h.found key ∙ sym (found-map (has_key (asked_by key)) (leaves.keys key) records);
      counted = λ uid. h.counted uid ∙ sym (count-map uid records);
    }

-- a change of one record alone leaves what the change leaves
one-leaves : (token : ℕ) (change : Pending → Pending) → Leaves change
    → Leaves (λ kept. cond (kept.token == token) (change kept) kept)
one-leaves token change leaves = record {
  keys = λ key kept. keys key kept (kept.token == token);
  token = λ kept. tokens
      kept (kept.token == token);
  creator = λ kept. creators kept (kept.token == token);
}
  where
    keys : (key : Key) (kept : Pending) (b : Bool) → has_key (asked_by key) (cond b (change kept) kept)
        ≡ has_key (asked_by key) kept
    keys key kept true = leaves.keys key kept
    keys key kept false = refl

    tokens : (kept : Pending) (b : Bool) → (cond b (change kept) kept).token ≡ kept.token
    tokens kept true = leaves.token kept
    tokens kept false = refl

    creators : (kept : Pending) (b : Bool) → (cond b (change kept) kept).creator ≡ kept.creator
    creators kept true = leaves.creator kept
    creators kept false = refl

-- other extras leave tokens, keys and creators
pub updated-leaves : (token : ℕ) (extras : List Named) → Leaves (updated token extras)
updated-leaves token extras = one-leaves token (λ kept. record kept
    { intent = record (kept.intent) { extras = extras } }) (record
    { keys = λ key kept. refl; token = λ kept. refl; creator = λ kept. refl })

-- so does one more holder
pub with_holder-leaves : (token to : ℕ) → Leaves (with_holder token to)
with_holder-leaves token to = one-leaves token (λ kept. record kept { holders = kept.holders ++ to ∷ [] })
    (record { keys = λ key kept. refl; token = λ kept. refl; creator = λ kept. refl })

-- so does one holder less
pub without_holder-leaves : (uid : ℕ) → Leaves (without_holder uid)
without_holder-leaves uid = record { keys = λ key kept. refl; token = λ kept. refl; creator = λ kept. refl }

-- one record more doesn't change what is found by an earlier token
found-earlier : (token : ℕ) (records : List Pending) (one : Pending) → (one.token == token) ≡ false
    → record_in token (records ++ one ∷ []) ≡ record_in token records
found-earlier token records one h = find-append (is_token token) records (one ∷ [])
    ∙ ap (λ b. option_or (record_in token records) (cond b (Some one) None)) h ∙ or_none (record_in token records)

-- a record taken away from among some and one more under another token
without-push : (token : ℕ) (records : List Pending) (one : Pending) → (one.token == token) ≡ false
    → without_token (records ++ one ∷ []) token ≡ without_token records token ++ one ∷ []
without-push token records one h =
    filter-append (λ (kept : Pending). not (kept.token == token)) records (one ∷ [])
    ∙ ap (λ b. without_token records token ++ cond (not b) (one ∷ []) []) h

-- a record that is found has a token below the next one
found-below : (n : ℕ) (q : Pending → Bool) (records : List Pending) (one : Pending)
    → All (λ (kept : Pending). kept.token < n) records → find q records ≡ Some one → one.token < n
found-below n q [] one h e = cc
found-below n q (first ∷ others) one h e = by (q first) e (λ k. found-below n q others one
    (All-tail (λ (kept : Pending). kept.token < n) first others h) k)
  where
    by : (b : Bool) → cond b (Some first) (find q others) ≡ Some one → (find q others ≡ Some one → one.token < n)
        → one.token < n
    by true k rest = subst (λ (kept : Pending). kept.token < n) (same_Some first one k)
        (All-head (λ (kept : Pending). kept.token < n) first others h)
    by false k rest = rest k

-- the record that has the key, found by its token
module _ (records : List Pending) (f : Key → Option ℕ) (g : ℕ → ℕ) (n old : ℕ) (key : Key) (h : IsIndexed records f g n)
    (has : token_in key records ≡ Some old) where
  pub there : (one : Pending) × (find (has_key (asked_by key)) records ≡ Some one) × (one.token ≡ old)
  there = the_one (find (has_key (asked_by key)) records) old has

  -- that record
  abbrev pub gone : Pending
  gone = there.0

  gone_has : has_key (asked_by key) gone ≡ true
  gone_has = found_passes (has_key (asked_by key)) records there.0 there.1

  gone_found : record_in old records ≡ Some gone
  gone_found =
      found-otherwise (has_key (asked_by key)) (is_token old) records there.0 there.1
      (ap (λ m. m == old) there.2 ∙ nat_eq_equiv.refl old) (h.once old)

  next-apart : (n == old) ≡ false
  next-apart =
      let l : there.0.token < n = found-below n (has_key (asked_by key)) records there.0 h.below there.1 in
      let e = there.2 in
      grind (arith, nat_tests)

  -- how many records the creator of the key has apart from the one that has it
  pub besides : count_of (without_token records old) key.creator + 1 ≡ count_of records key.creator
  besides =
      let e = count-without (is_token old) (λ (kept : Pending). kept.creator == key.creator) records gone gone_found
      (h.once old) in
      let a = ap {B = ℕ} (λ b. cond b 1 0) (has-creator key gone gone_has) in
      omega (arith, a, e)

  -- a new record in the place of the one that has its key
  pub replaced_view : without_token (records ++ fresh n (asked_by key) ∷ []) old ≡ without_token records old
      ++ fresh n (asked_by key) ∷ []
  replaced_view = without-push old records (fresh n (asked_by key)) next-apart

  replaced_found : record_in old (records ++ fresh n (asked_by key) ∷ []) ≡ Some gone
  replaced_found = found-earlier old records (fresh n (asked_by key)) next-apart ∙ gone_found

  same : is_same_key key (key_of gone) ≡ true
  same = same_equiv.symm key (key_of gone) ∙ gone_has

  -- its own key has its token
  pub replaced_has : f (key_of gone) ≡ Some old
  replaced_has = h.found (key_of gone) ∙ (λ i. option_map token_of
      (find (λ (kept : Pending). sym (alike key (key_of gone) (key_of kept) same) i) records)) ∙ has

  -- what is removed under its token is that record
  pub the_gone : (kept : Pending) → Some kept ≡ record_in old (records ++ fresh n (asked_by key) ∷ []) → kept ≡ gone
  the_gone kept e = same_Some kept gone (e ∙ replaced_found)

  -- and one is removed
  pub one_gone : None ≡ record_in old (records ++ fresh n (asked_by key) ∷ []) → ⊥
  one_gone e = let bad : None ≡ Some gone = e ∙ replaced_found in cc

  over : (b : Bool) (x y z : Option ℕ) → cond b x (cond b y z) ≡ cond b x z
  over true x y z = refl
  over false x y z = refl

  pub replaced : (f' : Key → Option ℕ) → ((other : Key) → f' other
      ≡ cond (is_same_key other (key_of gone)) (Some n) (f other))
      → IsIndexed (without_token records old ++ fresh n (asked_by key) ∷ []) f' g (n + 1)
  replaced f' t = same_indexed _ _ f' _ g (n + 1) (pushed (without_token records old) _ _ n key left absent) tokens
      counts
    where
      left : IsIndexed (without_token records old) (λ other. cond (is_same_key other (key_of gone)) None (f other))
          (λ uid. g uid - cond (uid == gone.creator) 1 0) n
      left = removed records f g n old gone h gone_found

      absent : token_in key (without_token records old) ≡ None
      absent = sym (left.found key) ∙ ap (λ b. cond b None (f key)) same

      tokens : (other : Key) → f' other ≡ cond (is_same_key other key) (Some n)
          (cond (is_same_key other (key_of gone)) None (f other))
      tokens other =
          t other
          ∙ sym (over (is_same_key other (key_of gone)) (Some n) None (f other))
          ∙ ap (λ b. cond b (Some n) (cond (is_same_key other (key_of gone)) None (f other)))
          (sym (alike key (key_of gone) other same))

      counts : (uid : ℕ) → g uid ≡ g uid - cond (uid == gone.creator) 1 0 + cond (uid == key.creator) 1 0
      counts uid =
          let e = count-without (is_token old) (λ (kept : Pending). kept.creator == uid) records gone gone_found
          (h.once old) in
          let a = ap {B = ℕ} (λ b. cond b 1 0) (nat_eq_equiv.symm uid gone.creator) in
          let b = h.counted uid in
          let d = ap {B = ℕ} (λ creator. cond (uid == creator) 1 0)
          ((unsigned_Decides gone.creator key.creator).0 (has-creator key gone gone_has)) in
          omega (arith, a, b, d, e)
