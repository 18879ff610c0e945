-- Extras: what was read of an object is written in its order, and read again.
use Rattle.std.proofs.Common.{◌≡◌, ℕ, ℤ, true, cond, List, [], ◌∷◌, ◌++◌, length, Option, Some, None, Ok, Err, nat_cmp, Less, Greater, refl, sym, ap, ◌∙◌, subst, append_assoc}
use Rattle.std.specs.Prelude.{nat_lt, codes}
use Rattle.std.specs.Cmp.Lexicographic.{slice_cmp}
use Rattle.std.specs.List.{AllByRecursion}
use Rattle.std.specs.List.Sorted.{IsStrictlySortedBy}
use Rattle.std.specs.Ordering.{ordering_reverse}
use Rattle.std.proofs.lemmas.Cmp.{nat_list_cmp_total}
use Rattle.serde_json.specs.Data.{Data, object, Members, no_members, member, put}
use Rattle.serde_json.specs.Find.{as_i64, as_object}
use Rattle.am_types.specs.declared.intent.Extra.{Extra}
use Rattle.am_types.specs.declared.intent.Extra.TheVariants.{Word, Whole, Truth}
use Rattle.am_types.specs.declared.intent.Named.{Named}
use Rattle.am_wire_fields.specs.declared.fault.WireFault.TheVariants.{TooLong}
use Rattle.am_wire_fields.specs.Fields.{unless_null, field, keys_in}
use Rattle.am_types.specs.Reading.{◌>>=◌}
use Rattle.am_wire_intents.specs.Extras.{short, whole_extra, extra_in, named_in, each_named, few_extras, extras_of, extras_in, extras_if_said, optional_extras}
use Rattle.am_wire_values.specs.Intents.{extra_data, with_extras, some_extras}
use Rattle.am_wire_read_back.proofs.Kept.{IsKept, AreMembersKept, ForSome, field_kept}
use Rattle.am_wire_read_back.proofs.Lists.{AreSorted, all_front}
use Rattle.am_wire_read_back.proofs.Numbers.{signed_of}
use Rattle.am_wire_read_back.proofs.Objects.{Entry, members_with, value_at, are_apart, field_at}
use Rattle.am_wire_read_back.proofs.Steps.{step, steps, same_ok}
use Rattle.am_wire_read_back.proofs.Texts.{else_read, read_else}

-- ---- one extra

short_is : (text got : List ℕ) → short text ≡ Ok got → (text ≡ got) × (short got ≡ Ok got)
unfolding short
short_is text got h =
    let e = else_read (nat_lt 1024 (length text)) (TooLong (codes "extras")) (Ok text) got h in
    let same : text ≡ got = same_ok text got e.1 in
    let P : List ℕ → Type 0 = λ t. cond (nat_lt 1024 (length t)) (Err (TooLong (codes "extras"))) (Ok t) ≡ Ok got in
    (same, subst P same h)

whole_extra_is : (o : Option ℤ) (e : Extra) → whole_extra o ≡ Ok e → (z : ℤ) × (o ≡ Some z) × (Whole z ≡ e)
unfolding whole_extra
whole_extra_is None e h = absurd (cc)
whole_extra_is (Some z) e h = (z, refl, same_ok (Whole z) e h)

extra_again : (value : Data) (e : Extra) → IsKept value → extra_in value ≡ Ok e → extra_in (extra_data e) ≡ Ok e
unfolding extra_in whole_extra
extra_again Data.null e k h = absurd (cc)
extra_again (Data.boolean b) e k h = let P : Extra → Type 0 = λ e. extra_in (extra_data e)
    ≡ Ok e in subst P (same_ok (Truth b) e h) refl
extra_again (Data.number n) e k h =
    let w = whole_extra_is (as_i64 n) e h in
    let P : Extra → Type 0 = λ e. extra_in (extra_data e) ≡ Ok e in
    subst P w.2 (ap whole_extra (signed_of (Some n) w.0 k w.1))
extra_again (Data.string s) e k h =
    let one = step (short s) (λ word. Ok (Word word)) e h in
    let P : Extra → Type 0 = λ e. extra_in (extra_data e) ≡ Ok e in
    subst P (same_ok (Word one.value) e one.later) (steps (short one.value) (λ word. Ok (Word word)) one.value
    (Word one.value) (short_is s one.value one.first).1 refl)
extra_again (Data.array ds) e k h = absurd (cc)
extra_again (Data.object ms) e k h = absurd (cc)

-- an extra that is read under its key
abbrev IsNamed : Named → Type 0
IsNamed n = named_in n.key (extra_data n.value) ≡ Ok n

named_again : (key : List ℕ) (value : Data) (n : Named) → IsKept value → named_in key value ≡ Ok n → (key ≡ n.key)
    × IsNamed n
unfolding named_in
named_again key value n k h =
    let one = step (extra_in value) (λ extra. short key >>= λ name. Ok (record { key = name; value = extra })) n h in
    let two = step (short key) (λ name. Ok (record { key = name; value = one.value })) n one.later in
    let got : Named = record { key = two.value; value = one.value } in
    let name = short_is key two.value two.first in
    let P : Named → Type 0 = λ n. (key ≡ n.key) × IsNamed n in
    subst P (same_ok got n two.later) (
      name.0,
      steps (extra_in (extra_data one.value)) (λ extra. short two.value >>= λ name. Ok
          (record { key = name; value = extra })) one.value got
          (extra_again value one.value k one.first) (steps (short two.value)
          (λ name. Ok (record { key = name; value = one.value })) two.value got name.1 refl),
    )

-- ---- all of them

keys_of : List Named → List (List ℕ)
keys_of [] = []
keys_of (n ∷ ns) = n.key ∷ keys_of ns

-- extras that were read of members
record WereRead (ms : Members) (ns : List Named) : Type 0 where
  named : AllByRecursion IsNamed ns
  keys : keys_in ms ≡ keys_of ns

were_read : (ms : Members) (ns : List Named) → AreMembersKept ms → each_named ms ≡ Ok ns → WereRead ms ns
unfolding each_named keys_of
were_read no_members ns k h = subst (WereRead no_members) (same_ok [] ns h) (record { named = tt; keys = refl })
were_read (member key value ms) ns k h =
    let one = step (named_in key value) (λ first. each_named ms >>= λ others. Ok (first ∷ others)) ns h in
    let two = step (each_named ms) (λ others. Ok (one.value ∷ others)) ns one.later in
    let first = named_again key value one.value k.0 one.first in
    let others = were_read ms two.value k.1 two.first in
    let keys : keys_in (member key value ms) ≡ keys_of (one.value ∷ two.value) = ap
    (λ (name : List ℕ). name ∷ keys_in ms) first.0 ∙ ap (λ (names : List (List ℕ)). one.value.key ∷ names)
    others.keys in
    subst (WereRead (member key value ms)) (same_ok (one.value ∷ two.value) ns two.later)
    (record { named = (first.1, others.named); keys = keys })

-- the members that extras are, in their order
members_from : List Named → Members
members_from [] = no_members
members_from (n ∷ ns) = member n.key (extra_data n.value) (members_from ns)

behind : Members → Members → Members
behind no_members more = more
behind (member k d ms) more = member k d (behind ms more)

keys_from : (ns : List Named) → keys_in (members_from ns) ≡ keys_of ns
unfolding keys_of members_from
keys_from [] = refl
keys_from (n ∷ ns) = ap (λ (names : List (List ℕ)). n.key ∷ names) (keys_from ns)

keys_behind : (ms more : Members) → keys_in (behind ms more) ≡ keys_in ms ++ keys_in more
unfolding behind
keys_behind no_members more = refl
keys_behind (member k d ms) more = ap (λ (names : List (List ℕ)). k ∷ names) (keys_behind ms more)

behind_none : (ms : Members) → behind ms no_members ≡ ms
unfolding behind
behind_none no_members = refl
behind_none (member k d ms) = ap (member k d) (behind_none ms)

behind_one : (ms : Members) (k : List ℕ) (d : Data) (more : Members) → behind (behind ms (member k d no_members)) more
    ≡ behind ms (member k d more)
unfolding behind
behind_one no_members k d more = refl
behind_one (member l e ms) k d more = ap (member l e) (behind_one ms k d more)

-- a key above those before it goes last
put_behind : (ms : Members) (k : List ℕ) (d : Data) (names : List (List ℕ)) → AreSorted (keys_in ms ++ k ∷ names)
    → put k d ms ≡ behind ms (member k d no_members)
unfolding behind IsStrictlySortedBy
put_behind no_members k d names h = refl
put_behind (member l e ms) k d names h =
    let above : slice_cmp nat_cmp k l ≡ Greater = nat_list_cmp_total.antisymm k l
    ∙ ap ordering_reverse (all_front (λ z. slice_cmp nat_cmp l z ≡ Less) (keys_in ms) k names h.0) in
    rw above (ap (member l e) (put_behind ms k d names h.1))

with_behind : (ns : List Named) (ms : Members) → AreSorted (keys_in ms ++ keys_of ns) → with_extras ns ms
    ≡ behind ms (members_from ns)
unfolding keys_of members_from behind
with_behind [] ms h = sym (behind_none ms)
with_behind (n ∷ ns) ms h =
    let d = extra_data n.value in
    let last : put n.key d ms ≡ behind ms (member n.key d no_members) = put_behind ms n.key d (keys_of ns) h in
    let grouped : keys_in ms ++ n.key ∷ keys_of ns ≡ keys_in (behind ms (member n.key d no_members))
    ++ keys_of ns = rw (keys_behind ms (member n.key d no_members)) (simp append_assoc) in
    ap (with_extras ns) last ∙ (with_behind ns (behind ms (member n.key d no_members)) (subst AreSorted grouped h)
    ∙ behind_one ms n.key d (members_from ns))

each_named_again : (ns : List Named) → AllByRecursion IsNamed ns → each_named (members_from ns) ≡ Ok ns
unfolding each_named members_from
each_named_again [] h = refl
each_named_again (n ∷ ns) h =
    steps (named_in n.key (extra_data n.value)) (λ first. each_named (members_from ns) >>= λ others. Ok
    (first ∷ others)) n (n ∷ ns) h.0
    (steps (each_named (members_from ns)) (λ others. Ok (n ∷ others)) ns (n ∷ ns) (each_named_again ns h.1) refl)

few_again : (ms : Members) (ns : List Named) → AreMembersKept ms → AreSorted (keys_in ms) → few_extras ms ≡ Ok ns
    → few_extras (with_extras ns no_members) ≡ Ok ns
unfolding few_extras members_from behind
few_again ms ns k sorted h =
    let e = else_read (nat_lt 64 (length (keys_in ms))) (TooLong (codes "extras")) (each_named ms) ns h in
    let were = were_read ms ns k e.1 in
    let written : with_extras ns no_members ≡ members_from ns = with_behind ns no_members
    (subst AreSorted were.keys sorted) in
    let same : keys_in (with_extras ns no_members) ≡ keys_in ms = ap keys_in written ∙ (keys_from ns ∙ sym were.keys) in
    read_else (nat_lt 64 (length (keys_in (with_extras ns no_members)))) (TooLong (codes "extras"))
    (each_named (with_extras ns no_members)) ns
    (ap (λ (names : List (List ℕ)). nat_lt 64 (length names)) same ∙ e.0)
    (ap each_named written ∙ each_named_again ns were.named)

extras_of_again : (value : Data) (ns : List Named) → IsKept value → extras_of (as_object value) ≡ Ok ns
    → few_extras (with_extras ns no_members) ≡ Ok ns
unfolding extras_of
extras_of_again Data.null ns k h = absurd (cc)
extras_of_again (Data.boolean b) ns k h = absurd (cc)
extras_of_again (Data.number n) ns k h = absurd (cc)
extras_of_again (Data.string s) ns k h = absurd (cc)
extras_of_again (Data.array ds) ns k h = absurd (cc)
extras_of_again (Data.object ms) ns k h = few_again ms ns k.0 k.1 h

none_few : few_extras (with_extras [] no_members) ≡ Ok []
unfolding few_extras each_named
none_few = refl

if_said_again : (o : Option Data) (ns : List Named) → ForSome IsKept o → extras_if_said o ≡ Ok ns
    → few_extras (with_extras ns no_members) ≡ Ok ns
unfolding extras_if_said extras_in
if_said_again None ns k h = let P : List Named → Type 0 = λ ns. few_extras (with_extras ns no_members)
    ≡ Ok ns in subst P (same_ok [] ns h) none_few
if_said_again (Some value) ns k h = extras_of_again value ns k h

some_again : (ns : List Named) → few_extras (with_extras ns no_members) ≡ Ok ns
    → extras_if_said (unless_null (some_extras ns)) ≡ Ok ns
unfolding extras_if_said extras_in extras_of
some_again [] h = refl
some_again (n ∷ ns) h = h

-- extras that were read are read of what is written for them
pub extras_field : (value : Data) (ns : List Named) (es : List Entry) → IsKept value → optional_extras value ≡ Ok ns
    → are_apart es ≡ true → value_at (codes "extras") es ≡ some_extras ns → optional_extras (object (members_with es))
    ≡ Ok ns
unfolding optional_extras
extras_field value ns es k h apart is =
    ap extras_if_said (field_at (codes "extras") es apart ∙ ap unless_null is)
    ∙ some_again ns (if_said_again (field (codes "extras") value) ns (field_kept (codes "extras") value k) h)
