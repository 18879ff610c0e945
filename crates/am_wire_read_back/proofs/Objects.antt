-- Objects that are written field by field: what is found in them, and that nothing else is.
use Rattle.std.proofs.Common.{◌≡◌, ℕ, suc, ◌≤◌, ◌&&◌, Bool, true, false, not, cond, List, [], ◌∷◌, Option, Some, None, Ok, nat_cmp, Ordering, Less, Equal, Greater, bytes_eq, true≢false, refl, sym, ap, ◌∙◌, subst, arith}
use Rattle.std.proofs.lemmas.Slice.Eq.{bytes_eq-Decides}
use Rattle.std.specs.Cmp.Lexicographic.{slice_cmp}
use Rattle.std.specs.List.{find}
use Rattle.std.specs.Ordering.{match_ordering}
use Rattle.std.proofs.lemmas.Bool.{and_parts, not-true}
use Rattle.serde_json.specs.Data.{Data, object, Members, no_members, member, put, depth, members_depth}
use Rattle.serde_json.specs.Find.{get_member}
use Rattle.serde_json.proofs.Views.{get_member-put, get_member-put_other}
use Rattle.am_model.specs.Texts.{lists}
use Rattle.am_wire_fields.specs.Fields.{unless_null, field, keys_in, unlisted, none_unknown, only_fields_in, only_fields}
use Rattle.am_wire_values.specs.Fields.{put_given}

-- a field with its value, if it has one
abbrev pub Entry : Type 0
Entry = List ℕ × Option Data

-- the members with these values, put from the last to the first
abbrev pub members_with : List Entry → Members
members_with [] = no_members
members_with (first ∷ others) = put_given first.0 first.1 (members_with others)

-- the value under a name
abbrev pub value_at : List ℕ → List Entry → Option Data
value_at name [] = None
value_at name (first ∷ others) = cond (bytes_eq name first.0) first.1 (value_at name others)

-- some entry has the name
abbrev pub has_entry : List ℕ → List Entry → Bool
has_entry name [] = false
has_entry name (first ∷ others) = cond (bytes_eq name first.0) true (has_entry name others)

-- no two entries have one name
abbrev pub are_apart : List Entry → Bool
are_apart [] = true
are_apart (first ∷ others) = not (has_entry first.0 others) && are_apart others

no_value_at : (b : Bool) (value later : Option Data) (has : Bool) → (has ≡ false → later ≡ None) → cond b true has
    ≡ false → cond b value later ≡ None
no_value_at true value later has none h = absurd (true≢false h)
no_value_at false value later has none h = none h

-- a name that no entry has has no value
no_value : (name : List ℕ) (es : List Entry) → has_entry name es ≡ false → value_at name es ≡ None
no_value name [] h = refl
no_value name (e ∷ es) h = no_value_at (bytes_eq name e.0) e.1 (value_at name es) (has_entry name es) (no_value name es)
    h

-- a value that is present
given_here : (name : List ℕ) (value : Option Data) (ms : Members) → get_member name ms ≡ None
    → get_member name (put_given name value ms) ≡ value
given_here name None ms none = none
given_here name (Some d) ms none = get_member-put name d ms

-- a value under another name changes nothing
given_other : (name other : List ℕ) (value : Option Data) (ms : Members) → (name ≡ other → ⊥)
    → get_member name (put_given other value ms) ≡ get_member name ms
given_other name other None ms apart = refl
given_other name other (Some d) ms apart = get_member-put_other name other d ms apart

found_by : (name : List ℕ) (e : Entry) (ms : Members) (later : Option Data) (b : Bool) → bytes_eq name e.0 ≡ b
    → get_member name ms ≡ later → (name ≡ e.0 → later ≡ None) → get_member name (put_given e.0 e.1 ms)
    ≡ cond b e.1 later
found_by name e ms later true is here none =
    let same : name ≡ e.0 = (bytes_eq-Decides name e.0).0 is in
    let P : List ℕ → Type 0 = λ n. get_member n (put_given e.0 e.1 ms) ≡ e.1 in
    subst P (sym same) (given_here e.0 e.1 ms (ap (λ n. get_member n ms) (sym same) ∙ here ∙ none same))
found_by name e ms later false is here none =
    given_other name e.0 e.1 ms (λ same. true≢false (sym ((bytes_eq-Decides name e.0).1 same) ∙ is)) ∙ here

-- each value is found under its name
pub found_at : (name : List ℕ) (es : List Entry) → are_apart es ≡ true → get_member name (members_with es)
    ≡ value_at name es
found_at name [] h = refl
found_at name (e ∷ es) h =
    let both = and_parts (not (has_entry e.0 es)) (are_apart es) h in
    let lacks : value_at e.0 es ≡ None = no_value e.0 es (not-true _ both.0) in
    found_by name e (members_with es) (value_at name es) (bytes_eq name e.0) refl (found_at name es both.1)
    (λ same. ap (λ n. value_at n es) same ∙ lacks)

-- and so each field is
pub field_at : (name : List ℕ) (es : List Entry) → are_apart es ≡ true → field name (object (members_with es))
    ≡ unless_null (value_at name es)
unfolding field
field_at name es h = ap unless_null (found_at name es h)

-- each name is one of these fields
abbrev pub are_listed : List (List ℕ) → List Entry → Bool
are_listed fields [] = true
are_listed fields (first ∷ others) = lists fields first.0 && are_listed fields others

none_of : (o : Ordering) (test : List ℕ → Bool) (a b c : Members) → find test (keys_in a) ≡ None → find test (keys_in b)
    ≡ None → find test (keys_in c) ≡ None
    → find test (keys_in (match_ordering o a b c)) ≡ None
none_of Less test a b c p q r = p
none_of Equal test a b c p q r = q
none_of Greater test a b c p q r = r

passed_over : (b : Bool) (key : List ℕ) (later : Option (List ℕ)) → b ≡ false → later ≡ None → cond b (Some key) later
    ≡ None
passed_over true key later h n = absurd (true≢false h)
passed_over false key later h n = n

found_none : (b : Bool) (key : List ℕ) (later : Option (List ℕ)) → cond b (Some key) later ≡ None → (b ≡ false)
    × (later ≡ None)
found_none true key later h = absurd (cc)
found_none false key later h = (refl, h)

-- a key that passes is no find
find_put : (test : List ℕ → Bool) (k : List ℕ) (d : Data) (ms : Members) → test k ≡ false → find test (keys_in ms)
    ≡ None → find test (keys_in (put k d ms)) ≡ None
find_put test k d no_members h n = passed_over (test k) k None h refl
find_put test k d (member l e ms) h n =
    let both = found_none (test l) l (find test (keys_in ms)) n in
    none_of (slice_cmp nat_cmp k l) test (member k d (member l e ms)) (member l d ms) (member l e (put k d ms))
    (passed_over (test k) k _ h n) (passed_over (test l) l _ both.0 both.1)
    (passed_over (test l) l _ both.0 (find_put test k d ms h both.1))

find_given : (test : List ℕ → Bool) (k : List ℕ) (o : Option Data) (ms : Members) → test k ≡ false
    → find test (keys_in ms) ≡ None → find test (keys_in (put_given k o ms)) ≡ None
find_given test k None ms h n = n
find_given test k (Some d) ms h n = find_put test k d ms h n

-- entries of these fields leave no other key
none_unlisted : (fields : List (List ℕ)) (es : List Entry) → are_listed fields es ≡ true
    → unlisted fields (members_with es) ≡ None
none_unlisted fields [] h = refl
none_unlisted fields (e ∷ es) h =
    let both = and_parts (lists fields e.0) (are_listed fields es) h in
    find_given (λ key. not (lists fields key)) e.0 e.1 (members_with es) (ap not both.0)
    (none_unlisted fields es both.1)

-- an object of these fields has no others
pub only_listed : (name : List ℕ) (fields : List (List ℕ)) (es : List Entry) → are_listed fields es ≡ true
    → only_fields name fields (object (members_with es)) ≡ Ok tt
unfolding only_fields only_fields_in none_unknown
only_listed name fields es h = ap none_unknown (none_unlisted fields es h)

-- values nest so deep at most
abbrev pub IsWithin : ℕ → Option Data → Type 0
IsWithin n None = Unit {0}
IsWithin n (Some value) = depth value ≤ n

abbrev pub AreWithin : ℕ → List Entry → Type 0
AreWithin n [] = Unit {0}
AreWithin n (first ∷ others) = IsWithin n first.1 × AreWithin n others

depth_of : (o : Ordering) (a b c : Members) (n : ℕ) → members_depth a ≤ n → members_depth b ≤ n → members_depth c ≤ n
    → members_depth (match_ordering o a b c) ≤ n
depth_of Less a b c n p q r = p
depth_of Equal a b c n p q r = q
depth_of Greater a b c n p q r = r

pub depth_put : (k : List ℕ) (d : Data) (ms : Members) (n : ℕ) → depth d ≤ n → members_depth ms ≤ n
    → members_depth (put k d ms) ≤ n
depth_put k d no_members n p q = omega arith
depth_put k d (member l e ms) n p q =
    depth_of _ (member k d (member l e ms)) (member l d ms) (member l e (put k d ms)) n (omega arith) (omega arith)
    (omega (arith, depth_put k d ms n p (omega arith)))

depth_given : (k : List ℕ) (o : Option Data) (ms : Members) (n : ℕ) → IsWithin n o → members_depth ms ≤ n
    → members_depth (put_given k o ms) ≤ n
depth_given k None ms n p q = q
depth_given k (Some d) ms n p q = depth_put k d ms n p q

members_within : (n : ℕ) (es : List Entry) → AreWithin n es → members_depth (members_with es) ≤ n
members_within n [] h = omega arith
members_within n (e ∷ es) h = depth_given e.0 e.1 (members_with es) n h.0 (members_within n es h.1)

pub object_within : (n : ℕ) (es : List Entry) → AreWithin n es → depth (object (members_with es)) ≤ suc n
object_within n es h = omega (arith, members_within n es h)
