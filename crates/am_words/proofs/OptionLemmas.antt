-- Options read word by word, after those that are read already.
use Rattle.std.proofs.Common.{inl, inr, ◌≡◌, ◌∙◌, ◌&&◌, Bool, true, false, not, refl, sym, ap, ap₂, List, [], ◌∷◌, ◌++◌, Option, Some, None, is_some, append_assoc}
use Rattle.std.specs.Prelude.{if◌then◌else◌, option_and_then}
use Rattle.std.specs.List.{list_all}
use Rattle.std.proofs.lemmas.Bool.{and_cases, and_right, or_parts}
use Rattle.am_words.specs.Options.{Text, Options, allowed, begins_with_hyphen, first_option, is_among, is_given, last_option, none_repeats, option_word, options_in, options_of, with_option}
use Rattle.am_words.specs.Parsed.{is_fit}

-- the options that begin with this one, whose value is in its word or still to come
abbrev pub begun : Text → Option Text → (Option Text → Option Options) → Option Options
begun name (Some value) others = with_option name value (others None)
begun name None others = others (Some name)

abbrev pub begun_by : Option (Text × Option Text) → (Option Text → Option Options) → Option Options
begun_by None others = None
begun_by (Some option) others = begun option.0 option.1 others

-- the options in words, read one word at a time. The name, if there is one, waits for its value
unfoldable pub options_from : Option Text → List Text → Option Options
options_from None [] = Some []
options_from (Some name) [] = None
options_from None (word ∷ others) = begun_by (option_word word) (λ waiting. options_from waiting others)
options_from (Some name) (word ∷ others) =
    if begins_with_hyphen word then None else with_option name word (options_from None others)

last_from : (o : Option (Text × Option Text)) → last_option o ≡ begun_by o (λ waiting. options_from waiting [])
unfolding options_from
last_from None = refl
last_from (Some (name, Some value)) = refl
last_from (Some (name, None)) = refl

first_from : (o : Option (Text × Option Text)) (next : Text) (others : List Text)
    → first_option o next (options_from None (next ∷ others)) (options_from None others)
    ≡ begun_by o (λ waiting. options_from waiting (next ∷ others))
unfolding options_from
first_from None next others = refl
first_from (Some (name, Some value)) next others = refl
first_from (Some (name, None)) next others = refl

in_from_both : (words : List Text) → (options_in words ≡ options_from None words)
    × ((word : Text) → options_in (word ∷ words) ≡ options_from None (word ∷ words))
unfolding options_in options_from
in_from_both [] = (refl, λ word. last_from (option_word word))
in_from_both (next ∷ others) =
    let more = in_from_both others in (
      more.1 next,
      λ word. ap₂ (first_option (option_word word) next) (more.1 next) more.0
          ∙ first_from (option_word word) next others,
    )

pub in_from : (words : List Text) → options_in words ≡ options_from None words
in_from words = (in_from_both words).0

-- these options after those before them, if they are allowed
abbrev pub allowed_after : List Text → Options → Options → Option Options
allowed_after names before others =
    if list_all (λ option. is_among names option.0) others && none_repeats before others then Some (before ++ others)
    else None

-- what is read before, and then the others
abbrev pub joined : List Text → Option Options → Option Options → Option Options
joined names before others = option_and_then (λ read. option_and_then (allowed_after names read) others) before

-- one more option, which must not be given yet
abbrev pub taken : Options → Text → Text → Option Options
taken before name value = if is_given name before then None else Some (before ++ (name, value) ∷ [])

pub joined_none : (names : List Text) (before : Option Options) → joined names before None ≡ None
joined_none names None = refl
joined_none names (Some read) = refl

pub joined_taken : (names : List Text) (before : Options) (name value : Text) (others : Option Options)
    → is_among names name ≡ true
    → joined names (Some before) (with_option name value others) ≡ joined names (taken before name value) others
joined_taken names before name value None known = sym (joined_none names (taken before name value))
joined_taken names before name value (Some others) known =
    ap (λ b. if (b && all) && (not given && more) then Some (before ++ (name, value) ∷ others) else None) known
    ∙ go given
  where
    all : Bool
    all = list_all (λ option. is_among names option.0) others

    given : Bool
    given = is_given name before

    more : Bool
    more = none_repeats (before ++ (name, value) ∷ []) others

    go : (b : Bool) → (if (true && all) && (not b && more) then Some (before ++ (name, value) ∷ others) else None)
        ≡ joined names (if b then None else Some (before ++ (name, value) ∷ [])) (Some others)
    go true = ap (λ b. if b then Some (before ++ (name, value) ∷ others) else None) (and_right all false refl)
    go false = ap (λ xs. if all && more then Some xs else None) (sym (append_assoc before ((name, value) ∷ []) others))

pub joined_unknown : (names : List Text) (before : Option Options) (name value : Text) (others : Option Options)
    → is_among names name ≡ false
    → joined names before (with_option name value others) ≡ None
joined_unknown names None name value others unknown = refl
joined_unknown names (Some before) name value None unknown = refl
joined_unknown names (Some before) name value (Some others) unknown =
    ap (λ b. if (b && list_all (λ option. is_among names option.0) others) && none_repeats before
    ((name, value) ∷ others)
    then Some (before ++ (name, value) ∷ others) else None) unknown

pub joined_unknown_waits : (names : List Text) (before : Option Options) (name : Text) (words : List Text)
    → is_among names name ≡ false
    → joined names before (options_from (Some name) words) ≡ None
unfolding options_from
joined_unknown_waits names before name [] unknown = joined_none names before
joined_unknown_waits names before name (word ∷ words) unknown = go (begins_with_hyphen word)
  where
    go : (b : Bool) → joined names before (if b then None else with_option name word (options_from None words)) ≡ None
    go true = joined_none names before
    go false = joined_unknown names before name word (options_from None words) unknown

-- words of which one is neither an option nor a value aren't read
no_option : (o : Option (Text × Option Text)) → is_some o ≡ false → o ≡ None
no_option None e = refl
no_option (Some p) e = cc

begun_none : {others : Option Text → Option Options} → ((waiting : Option Text) → others waiting ≡ None)
    → (o : Option (Text × Option Text)) → begun_by o others ≡ None
begun_none none None = refl
begun_none none (Some (name, Some value)) = ap (with_option name value) (none None)
begun_none none (Some (name, None)) = none (Some name)

no_value : (name word : Text) (others : Option Options) (b : Bool) → not b ≡ false
    → (if b then None else with_option name word others) ≡ None
no_value name word others true e = refl
no_value name word others false e = cc

no_more : (name word : Text) {others : Option Options} → others ≡ None → (b : Bool)
    → (if b then None else with_option name word others) ≡ None
no_more name word none true = refl
no_more name word none false = ap (with_option name word) none

pub unfit_from : (waiting : Option Text) (words : List Text) → list_all is_fit words ≡ false
    → options_from waiting words ≡ None
unfolding options_from
unfit_from waiting [] unfit = cc
unfit_from None (word ∷ words) unfit = elim (and_cases (is_fit word) (list_all is_fit words) unfit) [
  | inl here ↦ ap (λ o. begun_by o (λ waiting. options_from waiting words))
      (no_option (option_word word) (or_parts _ _ here).1)
  | inr later ↦ begun_none (λ waiting. unfit_from waiting words later) (option_word word)
]
unfit_from (Some name) (word ∷ words) unfit = elim (and_cases (is_fit word) (list_all is_fit words) unfit) [
  | inl here ↦ no_value name word (options_from None words) (begins_with_hyphen word) (or_parts _ _ here).0
  | inr later ↦ no_more name word (unfit_from None words later) (begins_with_hyphen word)
]

pub unfit : (names words : List Text) → list_all is_fit words ≡ false → options_of names words ≡ None
unfolding options_of
unfit names words e = ap (option_and_then (allowed names)) (in_from words ∙ unfit_from None words e)
