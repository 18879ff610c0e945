-- Flags: the names of those that are set are read as the flags.
use Rattle.std.proofs.Common.{◌≡◌, ℕ, ◌≤◌, Bool, true, false, not, ◌&&◌, ◌||◌, cond, List, [], ◌∷◌, length, map, Some, Ok, refl, sym, ap, ◌∙◌, arith}
use Rattle.std.specs.Prelude.{nat_lt, codes}
use Rattle.std.specs.List.{AllByRecursion}
use Rattle.std.proofs.lemmas.Bool.Decides.{Decides-eqb}
use Rattle.std.proofs.lemmas.Slice.Eq.{slice_eq-Decides}
use Rattle.std.proofs.lemmas.Bool.{or_parts, and_parts, not-true}
use Rattle.serde_json.specs.Data.{string, object}
use Rattle.am_types.specs.declared.intent.Flags.{Flags}
use Rattle.am_types.specs.declared.pending.PendingFlags.{PendingFlags}
use Rattle.am_model.specs.Texts.{is_same, lists}
use Rattle.am_wire_fields.specs.Fields.{unless_null, field, required}
use Rattle.am_wire_fields.specs.Lists.{list_in, list_if_said, optional_list, words_in}
use Rattle.am_types.specs.Reading.{◌>>=◌}
use Rattle.am_wire_intents.specs.Flags.{flag_names, flags_by, flags_listed, flags_of}
use Rattle.am_wire.specs.Words.{pending_flag_names, pending_flags_by, pending_flags_listed, pending_flags_of}
use Rattle.am_wire_values.specs.Fields.{some_texts, texts_data}
use Rattle.am_wire_values.specs.Names.{names_set, flags_named, pending_named}
use Rattle.am_wire_read_back.proofs.Lists.{list_again, list_if_again, within_again, mapped_length}
use Rattle.am_wire_read_back.proofs.Objects.{Entry, members_with, value_at, are_apart, field_at}
use Rattle.am_wire_read_back.proofs.Steps.{steps}
use Rattle.am_wire_read_back.proofs.Texts.{required_at, words_again}

-- a name with whether it is set
abbrev Row : Type 0
Row = Bool × List ℕ

-- whether the name is set
abbrev is_set : List Row → List ℕ → Bool
is_set [] name = false
is_set (row ∷ rows) name = cond (is_same row.1 name) row.0 (is_set rows name)

-- some row has the name
abbrev has_row : List Row → List ℕ → Bool
has_row [] name = false
has_row (row ∷ rows) name = is_same row.1 name || has_row rows name

-- no two rows have one name
abbrev rows_apart : List Row → Bool
rows_apart [] = true
rows_apart (row ∷ rows) = not (has_row rows row.1) && rows_apart rows

not_listed : (set : Bool) (row name : List ℕ) (rows : List Row) → is_same row name ≡ false → lists (names_set rows) name
    ≡ false
    → lists (cond set (row ∷ names_set rows) (names_set rows)) name ≡ false
not_listed true row name rows h n = ap (λ b. b || lists (names_set rows) name) h ∙ n
not_listed false row name rows h n = n

-- a name that no row has isn't set
none_set : (rows : List Row) (name : List ℕ) → has_row rows name ≡ false → lists (names_set rows) name ≡ false
none_set [] name h = refl
none_set (row ∷ rows) name h = let both = or_parts (is_same row.1 name) (has_row rows name) h in not_listed row.0
    row.1 name rows both.0 (none_set rows name both.1)

same_name : (a b : List ℕ) → is_same a b ≡ true → a ≡ b
same_name a b h = (slice_eq-Decides Decides-eqb a b (is_same a b) refl).0 h

listed_by : (set same : Bool) (row name : List ℕ) (rows : List Row) → is_same row name ≡ same
    → lists (names_set rows) name ≡ is_set rows name → (same ≡ true → lists (names_set rows) name ≡ false)
    → lists (cond set (row ∷ names_set rows) (names_set rows)) name ≡ cond same set (is_set rows name)
listed_by true true row name rows e h n = ap (λ b. b || lists (names_set rows) name) e
listed_by false true row name rows e h n = n refl
listed_by true false row name rows e h n = ap (λ b. b || lists (names_set rows) name) e ∙ h
listed_by false false row name rows e h n = h

-- a name is listed if it is set
set_listed : (rows : List Row) (name : List ℕ) → rows_apart rows ≡ true → lists (names_set rows) name ≡ is_set rows name
set_listed [] name h = refl
set_listed (row ∷ rows) name h =
    let both = and_parts (not (has_row rows row.1)) (rows_apart rows) h in
    let lacks = not-true (has_row rows row.1) both.0 in
    listed_by row.0 (is_same row.1 name) row.1 name rows refl (set_listed rows name both.1)
    (λ e. ap (lists (names_set rows)) (sym (same_name row.1 name e)) ∙ none_set rows row.1 lacks)

-- each name is one of these words
abbrev rows_listed : List (List ℕ) → List Row → Bool
rows_listed words [] = true
rows_listed words (row ∷ rows) = lists words row.1 && rows_listed words rows

names_listed : (words : List (List ℕ)) (rows : List Row) → rows_listed words rows ≡ true
    → AllByRecursion (λ text. lists words text ≡ true) (names_set rows)
names_listed words [] h = tt
names_listed words (row ∷ rows) h = let both = and_parts (lists words row.1) (rows_listed words rows) h in by row.0
    both.0 (names_listed words rows both.1)
  where
    by : (set : Bool) → lists words row.1 ≡ true → AllByRecursion (λ text. lists words text ≡ true) (names_set rows)
        → AllByRecursion (λ text. lists words text ≡ true) (cond set (row.1 ∷ names_set rows) (names_set rows))
    by true one others = (one, others)
    by false one others = others

set_length : (rows : List Row) → length (names_set rows) ≤ length rows
set_length [] = omega arith
set_length (row ∷ rows) = by row.0 (set_length rows)
  where
    by : (set : Bool) → length (names_set rows) ≤ length rows → length
        (cond set (row.1 ∷ names_set rows) (names_set rows)) ≤ length (row ∷ rows)
    by true h = omega arith
    by false h = omega arith

few_set : (rows : List Row) → nat_lt 64 (length rows) ≡ false → nat_lt 64 (length (map string (names_set rows))) ≡ false
few_set rows h = within_again (map string (names_set rows)) rows (omega
    (arith, mapped_length string (names_set rows), set_length rows)) h

-- flags that are made by which names are listed are made by which are set
flags_made : {F : Type 0} (made_by : (List ℕ → Bool) → F) (rows : List Row) → rows_apart rows ≡ true
    → made_by (lists (names_set rows)) ≡ made_by (is_set rows)
flags_made made_by rows apart = λ i. made_by (λ name. set_listed rows name apart i)

-- ---- of an intent

flags_again : (flags : Flags) → flags_listed (names_set (flags_named flags)) ≡ flags
unfolding flags_listed
flags_again flags = flags_made flags_by (flags_named flags) refl

pub flags_field : (flags : Flags) (es : List Entry) → are_apart es ≡ true → value_at (codes "flags") es
    ≡ some_texts (names_set (flags_named flags)) → flags_of (object (members_with es)) ≡ Ok flags
unfolding flags_of optional_list
flags_field flags es apart is =
    let names = names_set (flags_named flags) in
    steps (list_if_said (codes "flags") (field (codes "flags") (object (members_with es))))
    (λ values. words_in flag_names (codes "flags") values >>= λ names. Ok (flags_listed names)) (map string names)
    flags
    (ap (list_if_said (codes "flags")) (field_at (codes "flags") es apart ∙ ap unless_null is)
    ∙ list_if_again (codes "flags") (map string names) (few_set (flags_named flags) refl))
    (steps (words_in flag_names (codes "flags") (map string names)) (λ names. Ok (flags_listed names)) names flags
    (words_again flag_names (codes "flags") names (names_listed flag_names (flags_named flags) refl))
    (ap Ok (flags_again flags)))

-- ---- of a pending intent

pending_again : (flags : PendingFlags) → pending_flags_listed (names_set (pending_named flags)) ≡ flags
unfolding pending_flags_listed
pending_again flags = flags_made pending_flags_by (pending_named flags) refl

pub pending_flags_at : (flags : PendingFlags) (es : List Entry) → are_apart es ≡ true → value_at (codes "flags") es
    ≡ Some (texts_data (names_set (pending_named flags)))
    → pending_flags_of (object (members_with es)) ≡ Ok flags
unfolding pending_flag_names pending_flags_of
pending_flags_at flags es apart is =
    let names = names_set (pending_named flags) in
    steps (required (codes "flags") (object (members_with es))) (λ value. list_in (codes "flags") value >>= λ values.
    words_in pending_flag_names (codes "flags") values >>= λ names. Ok (pending_flags_listed names))
    (texts_data names) flags
    (required_at (codes "flags") es (texts_data names) apart is refl)
    (steps (list_in (codes "flags") (texts_data names)) (λ values. words_in pending_flag_names (codes "flags") values
    >>= λ names. Ok (pending_flags_listed names)) (map string names) flags
    (list_again (codes "flags") (map string names) (few_set (pending_named flags) refl))
    (steps (words_in pending_flag_names (codes "flags") (map string names)) (λ names. Ok (pending_flags_listed names))
    names flags (words_again pending_flag_names (codes "flags") names
    (names_listed pending_flag_names (pending_named flags) refl)) (ap Ok (pending_again flags))))
