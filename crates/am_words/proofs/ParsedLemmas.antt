-- What `clap` makes of a command of options alone, at words of which each is an option or may be a value.
use Rattle.std.proofs.Common.{◌⊎◌, ◌≡◌, ◌∙◌, ◌&&◌, ◌||◌, ℕ, Bool, true, false, not, refl, sym, ap, ap₂, subst, inl, inr, List, [], ◌∷◌, ◌++◌, map, Option, Some, None, is_some, option_map}
use Rattle.std.specs.Prelude.{if◌then◌else◌, option_and_then, bytes_eq, codes, find, fold, slice_get, nat_lt, ◌==◌}
use Rattle.std.specs.List.{list_all, list_any}
use Rattle.std.specs.Option.{option_map_or}
use Rattle.std.proofs.lemmas.List.{map-append, append-nil}
use Rattle.std.proofs.lemmas.Bool.{and_from, and_parts, or_cases, or_parts, not-true, true≢false, true_from_ne_false, false_from_ne_true}
use Rattle.std.proofs.lemmas.Slice.Eq.{bytes_eq-Decides}
use Rattle.clap.specs.Lexer.{long_of, long_of_rest, short_of, short_of_rest, strip_byte}
use Rattle.clap.specs.Kinds.{Kinds, check_kinds, or_else}
use Rattle.clap.specs.Walk.{Held, Row, Rule, Waiting, Walk, after_flag, after_step, arg_by_id, arg_by_index, arg_by_long, at_row, finished, first_of, has_row, idle, long_met, long_or_other, more_values, next as goes, nothing_held, option as waits, option_word as option_step, plain_word, positional, rows_after, settled, settled_rows, short_or_plain, subcommand_met, subcommand_or_other, trailing, rows_of, used, used_by_id, walk, walked, with_default}
use Rattle.clap.specs.Faults.{bundle_fault, positional_fault, built_fault, check_fault, default_fault, defaults_fault, entered_fault, fault_of, flag_word_fault, is_free_app, is_simple_and_free, level_fault, long_fault, other_fault, settle_fault, step_fault, turn_fault, use_fault, walk_fault}
use Rattle.clap.specs.Simple.{App, Shape, built, entered, filled, filled_from, is_ready, is_ready_leaf, is_simple, matches_of, names_of, new_shape}
use Rattle.clap.specs.declared.parser.matches.ValueSource.TheVariants.{CommandLine}
use Rattle.clap.specs.declared.builder.value_parser.Reading.TheVariants.{AsWritten}
use Rattle.clap.specs.declared.error.kind.ErrorKind.TheVariants as kind
use Rattle.clap.specs.Kinds.{IsAmong}
use Rattle.clap.specs.Matches.{first_value, found_of}
use Rattle.clap.specs.Simple.{HasMatchesOf, with_rule}
use Rattle.clap.specs.declared.error.kind.ErrorKind.{ErrorKind}
use Rattle.clap.specs.declared.parser.matches.ArgMatches.{ArgMatches}
use Rattle.clap.proofs.WalkLemmas.{find-map, first_value-rows}
use Rattle.std.specs.Borrow.{Bor}
use Rattle.std.proofs.lemmas.List.Folds.{list_all-map}
use Rattle.am_words.specs.Options.{Text, Options, allowed, begins_with_hyphen, is_among, is_given, name_and_value, option_word, options_of, value_of, with_option}
use Rattle.am_words.specs.Parsed.{app_named, is_fit, named_rule}
use Rattle.am_words.proofs.OptionLemmas.{begun, begun_by, in_from, options_from, joined, joined_none, joined_taken, joined_unknown, joined_unknown_waits, taken}

-- ---- the command

abbrev option_rule : Text → Rule
option_rule name = filled (named_rule name)

abbrev option_rules : List Text → List Rule
option_rules names = map option_rule names

abbrev shape_named : List Rule → Shape
shape_named rules = record (new_shape (codes "am")) {
  rules = rules;
  no_binary_name = true;
  disable_help_flag = true;
  disable_help_subcommand = true;
  is_built = true;
}

numbered : (i : ℕ) (names : List Text) → filled_from i (map named_rule names) ≡ option_rules names
numbered i [] = refl
numbered i (name ∷ names) = ap (λ rules. option_rule name ∷ rules) (numbered i names)

abbrev app_of_rules : List Rule → App
app_of_rules rules = record { top = shape_named rules; subs = [] }

built_named : (names : List Text) → built (app_named names) ≡ app_of_rules (option_rules names)
built_named names = ap app_of_rules (numbered 1 names)

all_named : (p : Rule → Bool) (f : Text → Rule) → ((name : Text) → p (f name) ≡ true) → (names : List Text)
    → list_all p (map f names) ≡ true
all_named p f each [] = refl
all_named p f each (name ∷ names) = and_from _ _ (each name) (all_named p f each names)

none_named : (p : Rule → Bool) (f : Text → Rule) → ((name : Text) → p (f name) ≡ false) → (names : List Text)
    → list_any p (map f names) ≡ false
none_named p f each [] = refl
none_named p f each (name ∷ names) = ap₂ (λ a b. a || b) (each name) (none_named p f each names)

simple_named : (names : List Text) → is_simple (app_named names) ≡ true
simple_named names = and_from _ _ (and_from _ _ (all_named (λ a. a.is_simple) named_rule (λ name. refl) names) refl)
    (ap (λ (a : App). is_ready a.top && list_all is_ready_leaf a.subs) (built_named names)
    ∙ and_from _ _ (and_from _ _ (all_named (λ a. a.is_simple) option_rule (λ name. refl) names)
    (ap not (none_named _ option_rule (λ name. refl) names))) refl)

pub free_named : (names : List Text) → is_simple_and_free (app_named names) ≡ true
free_named names = and_from _ _ (simple_named names)
    (ap is_free_app (built_named names) ∙ and_from _ _ (all_named (λ a. a.is_free) option_rule (λ name. refl) names)
    refl)

-- ---- its options by their names

or_false : (b : Bool) → (b || false) ≡ b
or_false true = refl
or_false false = refl

find_step : (n name : Text) (known : Bool) {later : Option Rule} → later
    ≡ (if known then Some (option_rule name) else None)
    → (b : Bool) → bytes_eq n name ≡ b → (if b then Some (option_rule n) else later)
    ≡ (if b || known then Some (option_rule name) else None)
find_step n name known more true e = ap (λ text. Some (option_rule text)) ((bytes_eq-Decides n name).0 e)
find_step n name known more false e = more

find_named : (p : Rule → Bool) (name : Text) → ((n : Text) → p (option_rule n) ≡ bytes_eq n name)
    → (names : List Text) → find p (option_rules names) ≡ (if is_among names name then Some (option_rule name) else
    None)
find_named p name same [] = refl
find_named p name same (n ∷ names) = ap (λ b. if b then Some (option_rule n) else find p (option_rules names)) (same n)
    ∙ find_step n name (is_among names name) (find_named p name same names) (bytes_eq n name) refl

by_long : (names : List Text) (name : Text) → arg_by_long (option_rules names) name
    ≡ (if is_among names name then Some (option_rule name) else None)
by_long names name = find_named _ name (λ n. or_false (bytes_eq n name)) names

by_id : (names : List Text) (name : Text) → arg_by_id (option_rules names) name
    ≡ (if is_among names name then Some (option_rule name) else None)
by_id names name = find_named _ name (λ n. refl) names

by_index : (names : List Text) (i : ℕ) → arg_by_index (option_rules names) i ≡ None
by_index [] i = refl
by_index (name ∷ names) i = by_index names i

-- ---- rows

abbrev row : Text × Text → Row
row o = record { id = o.0; values = o.1 ∷ []; count = None; source = Some CommandLine; reading = AsWritten }

abbrev pub rows : Options → List Row
rows = map row

has_row_named : (name : Text) (options : Options) → has_row name (rows options) ≡ is_given name options
has_row_named name [] = refl
has_row_named name (o ∷ options) = ap (λ b. bytes_eq o.0 name || b) (has_row_named name options)

no_row : (name : Text) (change : Row → List Row) (missing : List Row) (options : Options) → is_given name options
    ≡ false
    → at_row name change missing (rows options) ≡ rows options ++ missing
no_row name change missing [] e = refl
no_row name change missing (o ∷ options) e =
    ap (λ b. if b then change (row o) ++ rows options else row o ∷ at_row name change missing (rows options))
    (or_parts _ _ e).0
    ∙ ap (λ rs. row o ∷ rs) (no_row name change missing options (or_parts _ _ e).1)

used_new : (name value : Text) (options : Options) → is_given name options ≡ false
    → used (option_rule name) (value ∷ []) (rows options) ≡ rows (options ++ (name, value) ∷ [])
used_new name value options e =
    ap (at_row name (more_values CommandLine (value ∷ [])) (row (name, value) ∷ []))
    (no_row name (λ _. []) [] options e ∙ append-nil (rows options))
    ∙ no_row name (more_values CommandLine (value ∷ [])) (row (name, value) ∷ []) options e
    ∙ sym (map-append row options ((name, value) ∷ []))

pub first_named : (options : Options) (name : Text) → first_of name (rows options) ≡ value_of options name
first_named options name =
    ap (option_and_then (λ (r : Row). slice_get r.values 0)) (sym (find-map (λ (r : Row). bytes_eq r.id name) row
    options)) ∙ go (find (λ o. bytes_eq o.0 name) options)
  where
    go : (o : Option (Text × Text)) → option_and_then (λ (r : Row). slice_get r.values 0) (option_map row o)
        ≡ option_map (λ p. p.1) o
    go None = refl
    go (Some o) = refl

-- ---- after the words

settled_default : (rs : List Row) (name : Text) → with_default rs (option_rule name) ≡ rs
settled_default rs name = go (has_row name rs)
  where
    go : (b : Bool) → (if b then rs else rs) ≡ rs
    go true = refl
    go false = refl

no_defaults : (rs : List Row) (names : List Text) → fold with_default rs (option_rules names) ≡ rs
no_defaults rs [] = refl
no_defaults rs (name ∷ names) = ap (λ r. fold with_default r (option_rules names)) (settled_default rs name)
    ∙ no_defaults rs names

no_default_fault : (rs : List Row) (names : List Text) → defaults_fault rs (option_rules names) ≡ []
unfolding defaults_fault
no_default_fault rs [] = refl
no_default_fault rs (name ∷ names) =
    ap (λ r. or_else (default_fault rs (option_rule name)) (defaults_fault r (option_rules names)))
    (settled_default rs name)
    ∙ ap (or_else (default_fault rs (option_rule name))) (no_default_fault rs names) ∙ go _ (has_row name rs)
  where
    go : (ks : Kinds) (b : Bool) → or_else (if b || true then [] else ks) [] ≡ []
    go ks true = refl
    go ks false = refl

no_check_fault : (rs : List Row) (names : List Text) → check_fault (shape_named (option_rules names)) rs false ≡ []
no_check_fault rs names = ap (check_kinds false false) (none_named _ option_rule (λ name. refl) names)

-- ---- what a walk comes to

-- what is given is read without a fault, or there is a fault
abbrev pub Verdict : Kinds → List Row → Option Options → Type 0
Verdict faults rs (Some options) = (faults ≡ []) × (rs ≡ rows options)
Verdict faults rs None = faults ≡ [] → ⊥

or_else_nil : (ks : Kinds) → or_else ks [] ≡ ks
or_else_nil [] = refl
or_else_nil (k ∷ ks) = refl

first_nil : (ks later : Kinds) → or_else ks later ≡ [] → ks ≡ []
first_nil [] later e = refl
first_nil (k ∷ ks) later e = cc

abbrev held : List Row → Option (Text × List Text) → Held
held rs pending = record { rows = rs; pending = pending; skip = 0 }

abbrev at : List Row → Option (Text × List Text) → Waiting → Walk
at rs pending waiting = record {
  held = held rs pending;
  waiting = waiting;
  position = 1;
  is_trailing = false;
  stopped =
      None;
}

abbrev end : List Rule → Walk → List Text → Held
end c w words = (fold (walked c []) w words).held

abbrev fault_from : List Rule → Walk → List Text → Kinds
fault_from c w words = or_else (walk_fault (shape_named c) [] w words) (settle_fault c false (end c w words))

abbrev rows_from : List Rule → Walk → List Text → List Row
rows_from c w words = settled_rows c (end c w words).pending (end c w words).rows

goes_on : (c : List Rule) (w after : Walk) (word : Text) (words : List Text) (o : Option Options)
    → turn_fault (shape_named c) [] w word ≡ [] → walked c [] w word ≡ after
    → Verdict (fault_from c after words) (rows_from c after words) o
    → Verdict (fault_from c w (word ∷ words)) (rows_from c w (word ∷ words)) o
unfolding walk_fault
goes_on c w after word words o turn walk h =
    let P : Kinds → Walk → Type 0 = λ t v. Verdict (or_else (or_else t (walk_fault (shape_named c) [] v words))
    (settle_fault c false (end c v words))) (rows_from c v words) o in
    let Q : Kinds → Type 0 = λ t. P t (walked c [] w word) in
    subst Q (sym turn) (subst (P []) (sym walk) h)

fails : (c : List Rule) (w : Walk) (word : Text) (words : List Text) (rs : List Row)
    → (turn_fault (shape_named c) [] w word ≡ [] → ⊥) → Verdict (fault_from c w (word ∷ words)) rs None
unfolding walk_fault
fails c w word words rs bad e = bad (first_nil _ _ (first_nil _ _ e))

-- ---- words

long_by_second : (others : Text) (b : Bool) → option_and_then long_of_rest (if b then Some others else None)
    ≡ (if b then long_of_rest others else None)
long_by_second others true = refl
long_by_second others false = refl

long_by : (second : ℕ) (others : Text) (b : Bool)
    → option_and_then long_of_rest (option_and_then (strip_byte 45) (if b then Some (second ∷ others) else None))
    ≡ (if b && second == 45 then long_of_rest others else None)
long_by second others true = long_by_second others (second == 45)
long_by second others false = refl

none_either : (b : Bool) → option_and_then long_of_rest (option_and_then (strip_byte 45) (if b then Some [] else None))
    ≡ None
none_either true = refl
none_either false = refl

none_both : (b : Bool) → (if b then long_of_rest [] else None) ≡ None
none_both true = refl
none_both false = refl

long_is : (word : Text) → long_of word ≡ option_word word
long_is [] = refl
long_is (a ∷ []) = none_either (a == 45)
long_is (a ∷ b ∷ []) = long_by b [] (a == 45) ∙ none_both (a == 45 && b == 45)
long_is (a ∷ b ∷ c ∷ others) = long_by b (c ∷ others) (a == 45)

plain_long : (word : Text) → begins_with_hyphen word ≡ false → option_word word ≡ None
plain_long [] e = refl
plain_long (a ∷ []) e = refl
plain_long (a ∷ b ∷ []) e = refl
plain_long (a ∷ b ∷ c ∷ others) e = ap (λ t. if t && b == 45 then Some (name_and_value (c ∷ others)) else None) e

plain_short : (word : Text) → begins_with_hyphen word ≡ false → short_of word ≡ None
plain_short [] e = refl
plain_short (a ∷ others) e = ap (λ t. option_and_then short_of_rest (if t then Some others else None)) e

abbrev dashes : Text
dashes = 45 ∷ 45 ∷ []

not_dashes : (word : Text) → (option_word word ≡ None → begins_with_hyphen word ≡ false) → bytes_eq word dashes ≡ false
not_dashes word h = false_from_ne_true _ (λ e.
    let is : word ≡ dashes = (bytes_eq-Decides word dashes).0 e in
    true≢false (sym (ap begins_with_hyphen is) ∙ h (ap option_word is)))

-- ---- a word that is an option

no_subcommand : (waiting : Waiting) (word : Text) → subcommand_met [] waiting word ≡ None
no_subcommand idle word = refl
no_subcommand (waits name) word = refl
no_subcommand positional word = refl

abbrev long_turn : List Rule → Waiting → Text → Held → Option Text → Option Rule → Kinds
long_turn c waiting word h v a = or_else (long_fault c false a v h)
    (step_fault (shape_named c) 1 (after_flag c waiting word (long_met c a v h).0 (long_met c a v h).1).0
    (after_flag c waiting word (long_met c a v h).0 (long_met c a v h).1).1)

abbrev long_walk : List Rule → Walk → Text → Option Text → Option Rule → Walk
long_walk c w word v a = after_step c word w (after_flag c w.waiting word (long_met c a v w.held).0
    (long_met c a v w.held).1).0
    (after_flag c w.waiting word (long_met c a v w.held).0 (long_met c a v w.held).1).1

abbrev turn_by : List Rule → Waiting → Text → Held → Bool → Option (Text × Option Text) → Kinds
turn_by c waiting word h b lo = or_else (if b then [] else flag_word_fault c false lo word h)
    (step_fault (shape_named c) 1 (if b then (h, trailing 1) else long_or_other c waiting word lo h).0
    (if b then (h, trailing 1) else long_or_other c waiting word lo h).1)

turn_is : (c : List Rule) (rs : List Row) (pending : Option (Text × List Text)) (waiting : Waiting) (word : Text)
    → turn_fault (shape_named c) [] (at rs pending waiting) word ≡ turn_by c waiting word (held rs pending)
    (bytes_eq word dashes) (long_of word)
turn_is c rs pending waiting word =
    let h = held rs pending in
    ap (λ sub. or_else (other_fault (shape_named c) sub word h) (step_fault (shape_named c) 1
    (subcommand_or_other c sub waiting 1 word h).0 (subcommand_or_other c sub waiting 1 word h).1))
    (no_subcommand waiting word)

walked_is : (c : List Rule) (rs : List Row) (pending : Option (Text × List Text)) (waiting : Waiting) (word : Text)
    → walked c [] (at rs pending waiting) word ≡ after_step c word (at rs pending waiting)
    (if bytes_eq word dashes then (held rs pending, trailing 1) else long_or_other c waiting word (long_of word)
    (held rs pending)).0 (if bytes_eq word dashes then (held rs pending, trailing 1) else long_or_other c waiting
    word (long_of word) (held rs pending)).1
unfolding walked
walked_is c rs pending waiting word =
    let h = held rs pending in
    ap (λ sub. after_step c word (at rs pending waiting) (subcommand_or_other c sub waiting 1 word h).0
    (subcommand_or_other c sub waiting 1 word h).1) (no_subcommand waiting word)

option_dashes : (word : Text) (p : Text × Option Text) → option_word word ≡ Some p → bytes_eq word dashes ≡ false
option_dashes word p e = not_dashes word (λ none. let both : Some p ≡ None = sym e ∙ none in cc)

long_turn_is : (c : List Rule) (rs : List Row) (pending : Option (Text × List Text)) (waiting : Waiting)
    (word name : Text) (v : Option Text) (a : Option Rule)
    → option_word word ≡ Some (name, v) → arg_by_long c name ≡ a → turn_fault (shape_named c) [] (at rs pending waiting)
    word ≡ long_turn c waiting word (held rs pending) v a
long_turn_is c rs pending waiting word name v a e known = turn_is c rs pending waiting word
    ∙ ap₂ (turn_by c waiting word (held rs pending)) (option_dashes word (name, v) e) (long_is word ∙ e)
    ∙ ap (long_turn c waiting word (held rs pending) v) known

long_walk_is : (c : List Rule) (rs : List Row) (pending : Option (Text × List Text)) (waiting : Waiting)
    (word name : Text) (v : Option Text) (a : Option Rule)
    → option_word word ≡ Some (name, v) → arg_by_long c name ≡ a → walked c [] (at rs pending waiting) word
    ≡ long_walk c (at rs pending waiting) word v a
long_walk_is c rs pending waiting word name v a e known =
    let h = held rs pending in
    walked_is c rs pending waiting word
    ∙ ap₂ (λ b lo. after_step c word (at rs pending waiting) (if b then (h, trailing 1) else long_or_other c waiting
    word lo h).0 (if b then (h, trailing 1) else long_or_other c waiting word lo h).1)
    (option_dashes word (name, v) e) (long_is word ∙ e)
    ∙ ap (long_walk c (at rs pending waiting) word v) known

-- ---- a word that isn't an option

plain_dashes : (word : Text) → begins_with_hyphen word ≡ false → bytes_eq word dashes ≡ false
plain_dashes word e = not_dashes word (λ none. e)

plain_turn_is : (c : List Rule) (rs : List Row) (pending : Option (Text × List Text)) (waiting : Waiting) (word : Text)
    → begins_with_hyphen word ≡ false
    → turn_fault (shape_named c) [] (at rs pending waiting) word
    ≡ step_fault (shape_named c) 1 (plain_word c waiting word (held rs pending)).0
    (plain_word c waiting word (held rs pending)).1
plain_turn_is c rs pending waiting word e =
    let h = held rs pending in
    turn_is c rs pending waiting word
    ∙ ap₂ (turn_by c waiting word h) (plain_dashes word e) (long_is word ∙ plain_long word e)
    ∙ ap (λ so. or_else (option_map_or (λ flags. bundle_fault c false flags h) so [])
    (step_fault (shape_named c) 1 (short_or_plain c waiting word so h).0 (short_or_plain c waiting word so h).1))
    (plain_short word e)

plain_walk_is : (c : List Rule) (rs : List Row) (pending : Option (Text × List Text)) (waiting : Waiting) (word : Text)
    → begins_with_hyphen word ≡ false
    → walked c [] (at rs pending waiting) word
    ≡ after_step c word (at rs pending waiting) (plain_word c waiting word (held rs pending)).0
    (plain_word c waiting word (held rs pending)).1
plain_walk_is c rs pending waiting word e =
    let h = held rs pending in
    walked_is c rs pending waiting word
    ∙ ap₂ (λ b lo. after_step c word (at rs pending waiting) (if b then (h, trailing 1) else long_or_other c waiting
    word lo h).0 (if b then (h, trailing 1) else long_or_other c waiting word lo h).1) (plain_dashes word e)
    (long_is word ∙ plain_long word e)
    ∙ ap (λ so. after_step c word (at rs pending waiting) (short_or_plain c waiting word so h).0
    (short_or_plain c waiting word so h).1) (plain_short word e)

-- if nothing waits for a value, the word is a fault
stray_turn : (names : List Text) (rs : List Row) (pending : Option (Text × List Text)) (word : Text)
    → begins_with_hyphen word ≡ false
    → turn_fault (shape_named (option_rules names)) [] (at rs pending idle) word ≡ kind.UnknownArgument ∷ []
stray_turn names rs pending word e = plain_turn_is (option_rules names) rs pending idle word e
    ∙ ap (λ a. option_map_or (λ r. positional_fault (option_rules names) false r (held rs pending)) a
    (kind.UnknownArgument ∷ [])) (by_index names 1)

known_rule : {A : Type 0} (names : List Text) (name : Text) (x : Option A) → is_among names name ≡ true
    → (if is_among names name then x else None) ≡ x
known_rule names name x known = ap (λ b. if b then x else None) known

same_bytes : (name : Text) → bytes_eq name name ≡ true
same_bytes name = (bytes_eq-Decides name name).1 refl

-- if an option waits for its value, the word is the value
value_turn : (names : List Text) (rs : List Row) (name word : Text) → begins_with_hyphen word ≡ false
    → turn_fault (shape_named (option_rules names)) [] (at rs (Some (name, [])) (waits name)) word ≡ []
value_turn names rs name word e = plain_turn_is (option_rules names) rs (Some (name, [])) (waits name) word e

value_walk : (names : List Text) (rs : List Row) (name word : Text) → is_among names name ≡ true
    → begins_with_hyphen word ≡ false
    → walked (option_rules names) [] (at rs (Some (name, [])) (waits name)) word ≡ at rs (Some (name, word ∷ [])) idle
value_walk names rs name word known e =
    let c = option_rules names in
    let w = at rs (Some (name, [])) (waits name) in
    plain_walk_is c rs (Some (name, [])) (waits name) word e
    ∙ ap (λ a. after_step c word w (option_step a name word w.held).0 (goes (option_step a name word w.held).1))
    (by_id names name ∙ known_rule names name _ known)
    ∙ ap (λ b. record w {
      held = held rs (Some (name, word ∷ []));
      waiting = if nat_lt (if b then 1 else 0) 1 then waits
          name else idle;
    }) (same_bytes name)

-- ---- the pending option

use_verdict : (names : List Text) (before : Options) (name text : Text)
    → Verdict (use_fault false (option_rule name) (text ∷ []) (rows before))
    (used (option_rule name) (text ∷ []) (rows before)) (taken before name text)
use_verdict names before name text = go (is_given name before) refl
  where
    again : has_row name (rows before) ≡ is_given name before
    again = has_row_named name before

    go : (b : Bool) → is_given name before ≡ b
        → Verdict (use_fault false (option_rule name) (text ∷ []) (rows before))
        (used (option_rule name) (text ∷ []) (rows before)) (if b then None else Some (before ++ (name, text) ∷ []))
    go true e = λ none. let h : kind.ArgumentConflict ∷ [] ≡ [] = sym
        (ap (λ b. or_else (if b && true then kind.ArgumentConflict ∷ [] else []) []) (again ∙ e)) ∙ none in cc
    go false e = (
      ap (λ b. or_else (if b && true then kind.ArgumentConflict ∷ [] else []) []) (again ∙ e),
      used_new name
          text before e,
    )

settle_is : (names : List Text) (rs : List Row) (name : Text) (vs : List Text) → is_among names name ≡ true
    → settle_fault (option_rules names) false (held rs (Some (name, vs))) ≡ use_fault false (option_rule name) vs rs
settle_is names rs name vs known = ap (λ a. option_map_or (λ r. use_fault false r vs rs) a [])
    (by_id names name ∙ known_rule names name _ known)

settled_is : (names : List Text) (rs : List Row) (name : Text) (vs : List Text) → is_among names name ≡ true
    → settled_rows (option_rules names) (Some (name, vs)) rs ≡ used (option_rule name) vs rs
settled_is names rs name vs known = ap (λ a. used_by_id a vs rs) (by_id names name ∙ known_rule names name _ known)

pending_verdict : (names : List Text) (before : Options) (name text : Text) → is_among names name ≡ true
    → Verdict (settle_fault (option_rules names) false (held (rows before) (Some (name, text ∷ []))))
    (settled_rows (option_rules names) (Some (name, text ∷ [])) (rows before)) (taken before name text)
pending_verdict names before name text known =
    let P : Kinds → List Row → Type 0 = λ ks rs. Verdict ks rs (taken before name text) in
    let Q : Kinds → Type 0 = λ ks. P ks (settled_rows (option_rules names) (Some (name, text ∷ [])) (rows before)) in
    subst Q (sym (settle_is names (rows before) name (text ∷ []) known))
    (subst (P (use_fault false (option_rule name) (text ∷ []) (rows before)))
    (sym (settled_is names (rows before) name (text ∷ []) known)) (use_verdict names before name text))

waiting_fault : (names : List Text) (rs : List Row) (name : Text) → is_among names name ≡ true
    → settle_fault (option_rules names) false (held rs (Some (name, []))) ≡ [] → ⊥
waiting_fault names rs name known e = let h : kind.InvalidValue ∷ [] ≡ [] = sym (settle_is names rs name [] known)
    ∙ e in cc

-- ---- the walk over the words

abbrev Walked : List Text → Walk → List Text → Option Options → Type 0
Walked names w words o = Verdict (fault_from (option_rules names) w words) (rows_from (option_rules names) w words) o

-- from a walk at which no option waits for its value
abbrev FromIdle : List Text → List Text → Type 0
FromIdle names words = (rs : List Row) (pending : Option (Text × List Text)) (before : Option Options)
    → Verdict (settle_fault (option_rules names) false (held rs pending)) (settled_rows (option_rules names) pending rs)
    before
    → Walked names (at rs pending idle) words (joined names before (options_from None words))

-- from a walk at which this option waits for its value
abbrev FromWaiting : List Text → List Text → Type 0
FromWaiting names words = (before : Options) (name : Text) → is_among names name ≡ true
    → Walked names (at (rows before) (Some (name, [])) (waits name)) words
    (joined names (Some before) (options_from (Some name) words))

none_read : (names : List Text) (w : Walk) (words : List Text) (o : Option Options) → o ≡ None
    → Walked names w words None → Walked names w words o
none_read names w words o e h = let P : Option Options → Type 0 = Walked names w words in subst P (sym e) h

-- the option is used, and the walk goes on if nothing is pending
after_use : (names : List Text) (w : Walk) (word : Text) (words : List Text) (ks : Kinds) (rs : List Row)
    (o : Option Options) → Verdict ks rs o
    → turn_fault (shape_named (option_rules names)) [] w word ≡ ks → walked (option_rules names) [] w word
    ≡ at rs None idle
    → FromIdle names words → Walked names w (word ∷ words) (joined names o (options_from None words))
after_use names w word words ks rs None bad turn walk later = fails (option_rules names) w word words
    (rows_from (option_rules names) w (word ∷ words)) (λ e. bad (sym turn ∙ e))
after_use names w word words ks rs (Some options) (good, are) turn walk later =
    goes_on (option_rules names) w (at rs None idle) word words _ (turn ∙ good) walk
    (later rs None (Some options) (refl, are))

option_known : (names : List Text) (rs : List Row) (pending : Option (Text × List Text)) (before : Options)
    (word name : Text) (v : Option Text) (words : List Text)
    → is_among names name ≡ true → option_word word ≡ Some (name, v)
    → settle_fault (option_rules names) false (held rs pending) ≡ [] → settled_rows (option_rules names) pending rs
    ≡ rows before
    → FromIdle names words → FromWaiting names words
    → Walked names (at rs pending idle) (word ∷ words) (joined names (Some before)
    (begun name v (λ waiting. options_from waiting words)))
option_known names rs pending before word name (Some text) words known e quiet are later waiting =
    let c = option_rules names in
    let rule : arg_by_long c name ≡ Some (option_rule name) = by_long names name ∙ known_rule names name _ known in
    let P : Option Options → Type 0 = Walked names (at rs pending idle) (word ∷ words) in
    subst P (sym (joined_taken names before name text (options_from None words) known))
    (after_use names (at rs pending idle) word words (use_fault false (option_rule name) (text ∷ []) (rows before))
    (used (option_rule name) (text ∷ []) (rows before)) (taken before name text)
    (use_verdict names before name text)
    (long_turn_is c rs pending idle word name (Some text) (Some (option_rule name)) e rule
    ∙ ap₂ (λ ks r. or_else (or_else ks (use_fault false (option_rule name) (text ∷ []) r)) []) quiet are
    ∙ or_else_nil (use_fault false (option_rule name) (text ∷ []) (rows before)))
    (long_walk_is c rs pending idle word name (Some text) (Some (option_rule name)) e rule
    ∙ ap (λ r. at (used (option_rule name) (text ∷ []) r) None idle) are)
    later)
option_known names rs pending before word name None words known e quiet are later waiting =
    let c = option_rules names in
    let rule : arg_by_long c name ≡ Some (option_rule name) = by_long names name ∙ known_rule names name _ known in
    goes_on c (at rs pending idle) (at (rows before) (Some (name, [])) (waits name)) word words _
    (long_turn_is c rs pending idle word name None (Some (option_rule name)) e rule ∙ ap (λ ks. or_else ks []) quiet)
    (long_walk_is c rs pending idle word name None (Some (option_rule name)) e rule
    ∙ ap (λ r. at r (Some (name, [])) (waits name)) are)
    (waiting before name known)

-- an option of a command fails after a pending one that does
option_after_fault : (names : List Text) (rs : List Row) (pending : Option (Text × List Text)) (waiting : Waiting)
    (word name : Text) (v : Option Text)
    → option_word word ≡ Some (name, v) → (settle_fault (option_rules names) false (held rs pending) ≡ [] → ⊥)
    → turn_fault (shape_named (option_rules names)) [] (at rs pending waiting) word ≡ [] → ⊥
option_after_fault names rs pending waiting word name v e bad none =
    let c = option_rules names in
    go v (is_among names name) refl (sym (long_turn_is c rs pending waiting word name v
    (if is_among names name then Some (option_rule name) else None) e (by_long names name)) ∙ none)
  where
    go : (v : Option Text) (b : Bool) → is_among names name ≡ b
        → long_turn (option_rules names) waiting word (held rs pending) v (if b then Some (option_rule name) else None)
        ≡ [] → ⊥
    go v false known h = let k : kind.UnknownArgument ∷ [] ≡ [] = h in cc
    go (Some text) true known h = bad (first_nil _ _ (first_nil _ _ h))
    go None true known h = bad (first_nil _ _ h)

-- an option that the command lacks
option_unknown : (names : List Text) (rs : List Row) (pending : Option (Text × List Text)) (waiting : Waiting)
    (word name : Text) (v : Option Text)
    → is_among names name ≡ false → option_word word ≡ Some (name, v)
    → turn_fault (shape_named (option_rules names)) [] (at rs pending waiting) word ≡ [] → ⊥
option_unknown names rs pending waiting word name v unknown e none =
    let c = option_rules names in
    let rule : arg_by_long c name ≡ None = by_long names name ∙ ap (λ b. if b then Some (option_rule name) else None)
    unknown in
    let h : kind.UnknownArgument ∷ [] ≡ [] = sym (long_turn_is c rs pending waiting word name v None e rule) ∙ none in
    cc

unknown_read : (names : List Text) (before : Option Options) (name : Text) (v : Option Text) (words : List Text)
    → is_among names name ≡ false
    → joined names before (begun name v (λ waiting. options_from waiting words)) ≡ None
unknown_read names before name (Some text) words unknown = joined_unknown names before name text
    (options_from None words) unknown
unknown_read names before name None words unknown = joined_unknown_waits names before name words unknown

idle_option : (names : List Text) (rs : List Row) (pending : Option (Text × List Text)) (before : Option Options)
    (word name : Text) (v : Option Text) (words : List Text)
    → option_word word ≡ Some (name, v)
    → Verdict (settle_fault (option_rules names) false (held rs pending)) (settled_rows (option_rules names) pending rs)
    before
    → FromIdle names words → FromWaiting names words → (b : Bool) → is_among names name ≡ b
    → Walked names (at rs pending idle) (word ∷ words) (joined names before
    (begun name v (λ waiting. options_from waiting words)))
idle_option names rs pending before word name v words e h later waiting false unknown =
    none_read names (at rs pending idle) (word ∷ words) _ (unknown_read names before name v words unknown)
    (fails (option_rules names) (at rs pending idle) word words (rows_from (option_rules names) (at rs pending idle)
    (word ∷ words)) (option_unknown names rs pending idle word name v unknown e))
idle_option names rs pending None word name v words e h later waiting true known =
    fails (option_rules names) (at rs pending idle) word words (rows_from (option_rules names) (at rs pending idle)
    (word ∷ words)) (option_after_fault names rs pending idle word name v e h)
idle_option names rs pending (Some before) word name v words e h later waiting true known =
    option_known names rs pending before word name v words known e h.0 h.1 later waiting

option_hyphen : (word : Text) (p : Text × Option Text) → option_word word ≡ Some p → begins_with_hyphen word ≡ true
option_hyphen word p is = true_from_ne_false _ (λ e. let k : Some p ≡ None = sym is ∙ plain_long word e in cc)

-- what a word is
word_is : (word : Text) → is_fit word ≡ true → (begins_with_hyphen word ≡ false) ⊎
    ((p : Text × Option Text) × (option_word word ≡ Some p))
word_is word fit = elim (or_cases _ _ fit) [
  | inl plain ↦ inl (not-true _ plain)
  | inr some ↦ inr (some_option (option_word word) some)
]
  where
    some_option : (o : Option (Text × Option Text)) → is_some o ≡ true → (p : Text × Option Text) × (o ≡ Some p)
    some_option None e = cc
    some_option (Some p) e = (p, refl)

from_idle : (names : List Text) (word : Text) (words : List Text) → is_fit word ≡ true → FromIdle names words
    → FromWaiting names words → FromIdle names (word ∷ words)
unfolding options_from
from_idle names word words fit later waiting rs pending before h = elim (word_is word fit) [
  | inl plain ↦ none_read names (at rs pending idle) (word ∷ words) _
      (ap (λ o. joined names before (begun_by o (λ w. options_from w words))) (plain_long word plain)
      ∙ joined_none names before)
      (fails (option_rules names) (at rs pending idle) word words (rows_from (option_rules names) (at rs pending idle)
      (word ∷ words))
      (λ none. let k : kind.UnknownArgument ∷ [] ≡ [] = sym (stray_turn names rs pending word plain) ∙ none in cc))
  | inr (p, is) ↦
      let P : Option (Text × Option Text) → Type 0 = λ o. Walked names (at rs pending idle) (word ∷ words)
      (joined names before (begun_by o (λ w. options_from w words))) in
      subst P (sym is) (idle_option names rs pending before word p.0 p.1 words is h later waiting (is_among names p.0)
      refl)
]

from_waiting : (names : List Text) (word : Text) (words : List Text) → is_fit word ≡ true → FromIdle names words
    → FromWaiting names (word ∷ words)
unfolding options_from
from_waiting names word words fit later before name known = elim (word_is word fit) [
  | inl plain ↦
      let c = option_rules names in
      let w = at (rows before) (Some (name, [])) (waits name) in
      let P : Option Options → Type 0 = Walked names w (word ∷ words) in
      subst P (sym (ap (λ b. joined names (Some before) (if b then None else with_option name word
      (options_from None words))) plain
      ∙ joined_taken names before name word (options_from None words) known))
      (goes_on c w (at (rows before) (Some (name, word ∷ [])) idle) word words _
      (value_turn names (rows before) name word plain) (value_walk names (rows before) name word known plain)
      (later (rows before) (Some (name, word ∷ [])) (taken before name word)
      (pending_verdict names before name word known)))
  | inr (p, is) ↦
      let w = at (rows before) (Some (name, [])) (waits name) in
      none_read names w (word ∷ words) _
      (ap (λ b. joined names (Some before) (if b then None else with_option name word (options_from None words)))
      (option_hyphen word p is))
      (fails (option_rules names) w word words (rows_from (option_rules names) w (word ∷ words))
      (option_after_fault names (rows before) (Some (name, [])) (waits name) word p.0 p.1 is
      (waiting_fault names (rows before) name known)))
]

idle_end : (names : List Text) (rs : List Row) (pending : Option (Text × List Text)) (before : Option Options)
    → Verdict (settle_fault (option_rules names) false (held rs pending)) (settled_rows (option_rules names) pending rs)
    before
    → Walked names (at rs pending idle) [] (joined names before (Some []))
unfolding walk_fault
idle_end names rs pending None h = h
idle_end names rs pending (Some before) h = (h.0, h.1 ∙ ap rows (sym (append-nil before)))

from_both : (names words : List Text) → list_all is_fit words ≡ true → FromIdle names words × FromWaiting names words
unfolding options_from walk_fault
from_both names [] fit = (
  λ rs pending before h. idle_end names rs pending before h,
  λ before name known. waiting_fault
      names (rows before) name known,
)
from_both names (word ∷ words) fit =
    let parts = and_parts (is_fit word) (list_all is_fit words) fit in
    let more = from_both names words parts.1 in
    (from_idle names word words parts.0 more.0 more.1, from_waiting names word words parts.0 more.0)

-- ---- the parse

level_is : (names : List Text) (words : List Text) → level_fault (shape_named (option_rules names)) [] nothing_held
    words false [] ≡ fault_from (option_rules names) (at [] None idle) words
level_is names words =
    let c = option_rules names in
    let last = end c (at [] None idle) words in
    ap₂ (λ ds cs. or_else (walk_fault (shape_named c) [] (at [] None idle) words)
    (or_else (settle_fault c false last) (or_else ds cs)))
    (no_default_fault (settled c last).rows names) (no_check_fault (finished c last) names)
    ∙ ap (or_else (walk_fault (shape_named c) [] (at [] None idle) words)) (or_else_nil (settle_fault c false last))

fault_is : (names words : List Text) → fault_of (app_named names) words
    ≡ fault_from (option_rules names) (at [] None idle) words
fault_is names words = ap (λ a. built_fault a nothing_held words) (built_named names)
    ∙ no_entry (walk (option_rules names) [] nothing_held words).stopped ∙ level_is names words
  where
    no_entry : (stop : Option (Text × List Text)) → level_fault (shape_named (option_rules names)) [] nothing_held words
        (is_some (entered (app_of_rules (option_rules names)) stop))
        (entered_fault (app_of_rules (option_rules names)) stop)
        ≡ level_fault (shape_named (option_rules names)) [] nothing_held words false []
    no_entry None = refl
    no_entry (Some p) = refl

rows_is : (names words : List Text) → matches_of (app_named names) words
    ≡ rows_from (option_rules names) (at [] None idle) words
rows_is names words = ap (λ (a : App). rows_after a.top.rules (names_of a) words) (built_named names)
    ∙ no_defaults (rows_from (option_rules names) (at [] None idle) words) names

-- a parse gives the options of the words, or a fault if there are none
pub parsed : (names words : List Text) → list_all is_fit words ≡ true
    → Verdict (fault_of (app_named names) words) (matches_of (app_named names) words) (options_of names words)
unfolding options_of
parsed names words fit =
    let c = option_rules names in
    let o = options_of names words in
    let P : Kinds → Type 0 = λ ks. Verdict ks (matches_of (app_named names) words) o in
    let Q : List Row → Type 0 = λ rs. Verdict (fault_from c (at [] None idle) words) rs o in
    let R : Option Options → Type 0 = λ read. Walked names (at [] None idle) words
    (option_and_then (allowed names) read) in
    subst P (sym (fault_is names words)) (subst Q (sym (rows_is names words))
    (subst R (sym (in_from words)) ((from_both names words fit).0 [] None (Some []) (refl, refl))))

pub read_at_ok : (names words : List Text) (a : App) (m : ArgMatches) → a ≡ app_named names → list_all is_fit words
    ≡ true → fault_of a words ≡ [] → HasMatchesOf a words m
    → (options : Options) × (options_of names words ≡ Some options)
    × ((name : Text) → first_value (found_of m) name ≡ value_of options name)
read_at_ok names words a m is fit good matched = go (options_of names words) refl
    (parsed names words fit)
  where
    none : fault_of (app_named names) words ≡ []
    none = ap (λ b. fault_of b words) (sym is) ∙ good

    rows_read : rows_of (found_of m) ≡ matches_of (app_named names) words
    rows_read = (matched (ap is_simple is ∙ simple_named names)).0 ∙ ap (λ b. matches_of b words) is

    go : (o : Option Options) → options_of names words ≡ o → Verdict (fault_of (app_named names) words)
        (matches_of (app_named names) words) o
        → (options : Options) × (options_of names words ≡ Some options)
        × ((name : Text) → first_value (found_of m) name ≡ value_of options name)
    go None e bad = absurd (bad none)
    go (Some options) e (quiet, are) = (
      options,
      e,
      λ name. first_value-rows (found_of m) name
          ∙ ap (first_of name) (rows_read ∙ are) ∙ first_named options name,
    )

pub unread_at_err : (names words : List Text) (a : App) (k : ErrorKind) → a ≡ app_named names → list_all is_fit words
    ≡ true → IsAmong k (fault_of a words) → options_of names words ≡ None
unread_at_err names words a k is fit among = go (options_of names words) refl (parsed names words fit)
  where
    met : IsAmong k (fault_of (app_named names) words)
    met = let P : App → Type 0 = λ b. IsAmong k (fault_of b words) in subst P is among

    go : (o : Option Options) → options_of names words ≡ o → Verdict (fault_of (app_named names) words)
        (matches_of (app_named names) words) o → options_of names words ≡ None
    go None e bad = e
    go (Some options) e (quiet, are) = let P : Kinds → Type 0 = IsAmong k in absurd (subst P quiet met)

pub fit_texts : (words : List (Bor Text)) (b : Bool) → list_all (λ word. is_fit word.now) words ≡ b
    → list_all is_fit (map (λ word. word.now) words) ≡ b
fit_texts words b e = list_all-map is_fit (λ word. word.now) words ∙ e

-- ---- making the command

pub one_more_named : (names : List Text) (name : Text) → with_rule (app_named names) (named_rule name)
    ≡ app_named (names ++ name ∷ [])
one_more_named names name = ap (λ rules. record {
  top = record (new_shape (codes "am"))
      { rules = rules; no_binary_name = true; disable_help_flag = true };
  subs = [];
})
    (sym (map-append named_rule names (name ∷ [])))

pub free_of : (names : List Text) (a : App) → a ≡ app_named names → is_simple_and_free a ≡ true
free_of names a is = ap is_simple_and_free is ∙ free_named names
