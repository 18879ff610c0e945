-- How the units of a text come off its front.
use Rattle.std.proofs.Common.{◌≡◌, ◌<◌, ℕ, true, false, inl, inr, Option, Some, None, List, [], ◌∷◌, ◌++◌, length, refl, sym, ap, ◌∙◌, subst, arith, IsUtf8}
use Rattle.std.specs.Prelude.{MatchOption}
use Rattle.std.specs.List.{flat_map}
use Rattle.std.specs.Char.Escape.{encode_utf16}
use Rattle.std.specs.Str.Iter.{encode_utf16_rest, encode_utf16_steps}
use Rattle.std.specs.declared.str.EncodeUtf16.{EncodeUtf16}
use Rattle.std.proofs.lemmas.Bool.{ne_eqb, eq-eqb}
use Rattle.std.proofs.lemmas.List.{nil_from_length}
use Rattle.std.proofs.lemmas.Str.{chars-nil, chars_past_char, IsUtf8-past_char}
use Rattle.am_model.specs.Paths.{Piece, Run, UpTo, fits, is_end, past_run, units}
use Rattle.am_uri.specs.PathPieces.{starts_with, units_from, units_in}

-- what is left after a step is of a text
pub text_past : (s t : EncodeUtf16) (r : Option ℕ) → IsUtf8 (encode_utf16_rest s) → encode_utf16_steps s r t
    → IsUtf8 (encode_utf16_rest t)
text_past s t None text steps = rw steps.2 text
text_past s t (Some x) text (inl second) = subst IsUtf8 (sym second.2) text
text_past s t (Some x) text (inr first) = IsUtf8-past_char _ _ first.1.0 text first.1.1

-- a step gives the first unit
pub unit_first : (s t : EncodeUtf16) (r : Option ℕ) → IsUtf8 (encode_utf16_rest s) → encode_utf16_steps s r t
    → units_in s ≡ units_from r t
unit_first s t None text steps =
    ap (λ l. l ++ units (encode_utf16_rest s)) steps.0
    ∙ ap units (nil_from_length (encode_utf16_rest s) steps.1) ∙ ap (flat_map encode_utf16) chars-nil
unit_first s t (Some x) text (inl second) =
    ap (λ l. l ++ units (encode_utf16_rest s)) second.0
    ∙ ap (λ l. x ∷ units l) (sym second.2)
    ∙ ap (λ l. x ∷ (l ++ units (encode_utf16_rest t))) (sym second.1)
unit_first s t (Some x) text (inr first) =
    ap (λ l. l ++ units (encode_utf16_rest s)) first.0
    ∙ ap (flat_map encode_utf16) (chars_past_char _ _ first.1.0 text first.1.1)
    ∙ ap (λ l. l ++ units (encode_utf16_rest t)) first.1.2

-- a unit that comes first is taken off the front
pub first_off : (unit : ℕ) (us vs : List ℕ) (r : Option ℕ) → starts_with unit us ≡ true
    → MatchOption r ((us ≡ []) × (vs ≡ [])) (λ first. us ≡ first ∷ vs) → us ≡ unit ∷ vs
first_off unit [] vs None starts taken = absurd cc
first_off unit (u ∷ us) vs None starts taken = absurd cc
first_off unit [] vs (Some x) starts taken = absurd cc
first_off unit (u ∷ us) vs (Some x) starts taken = grind (arith, starts, taken)

-- another unit isn't looked for
pub up_to_on : (unit next : ℕ) (path : List ℕ) (others : List Piece) → (unit ≡ next → ⊥)
    → fits (UpTo unit ∷ others) (next ∷ path) ≡ fits (UpTo unit ∷ others) path
up_to_on unit next path others other = rw (ne_eqb unit next other) refl

pub up_to_found : (unit next : ℕ) (path : List ℕ) (others : List Piece) → unit ≡ next
    → fits (UpTo unit ∷ others) (next ∷ path) ≡ fits others path
up_to_found unit next path others same = rw (eq-eqb unit next same) refl

-- a run goes on over the same unit, and ends before another
pub run_on : (unit : ℕ) (path : List ℕ) → past_run unit (unit ∷ path) ≡ past_run unit path
run_on unit path = grind arith

pub run_ends : (unit : ℕ) (path : List ℕ) → starts_with unit path ≡ false → past_run unit path ≡ path
run_ends unit [] other = refl
run_ends unit (first ∷ path) other = grind (arith, other)

-- a run asks for some unit
pub run_fits : (unit : ℕ) (path : List ℕ) (others : List Piece) → is_end path ≡ false
    → fits (Run unit ∷ others) path ≡ fits others (past_run unit path)
run_fits unit [] others some = absurd cc
run_fits unit (first ∷ path) others some = refl

-- a unit less is left
pub one_less : (us vs : List ℕ) (unit : ℕ) → us ≡ unit ∷ vs → length vs < length us
one_less us vs unit taken = rw taken (omega arith)
