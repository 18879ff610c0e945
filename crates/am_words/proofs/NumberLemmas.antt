-- When a text is a number.
use Rattle.std.proofs.Common.{◌≡◌, ◌∙◌, ◌<◌, ◌≤◌, ◌^◌, ℕ, true, false, sym, ap, arith, rules, inl, inr, List, length, Some, None, Result, Ok, Err}
use Rattle.std.specs.Prelude.{if◌then◌else◌, nat_le}
use Rattle.std.specs.List.{list_all}
use Rattle.std.specs.Char.{is_ascii_digit}
use Rattle.std.specs.Str.Parse.{ParsesUnsigned, digits_value}
use Rattle.std.specs.Result.{OkIff, result_ok}
use Rattle.std.proofs.lemmas.Bool.{and_from, and_left, and_right, cases_lt, le-leb, lt-leb}
use Rattle.std.proofs.lemmas.Str.Parse.{IsNumeralModel, numerals_by_value, parse_digits}
use Rattle.am_words.specs.Values.{is_number, number_of}

is_none : (text : List ℕ) → is_number text ≡ false → None ≡ number_of text
unfolding number_of
is_none text e = sym (ap (λ b. if b then Some (digits_value 10 text) else None) e)

pub none_short : (text : List ℕ) → length text < 1 → None ≡ number_of text
none_short text h = is_none text (and_left _ _ (lt-leb 1 (length text) h))

pub none_long : (text : List ℕ) → 20 < length text → None ≡ number_of text
none_long text h = is_none text (and_right _ _ (and_left _ _ (lt-leb (length text) 20 h)))

pub none_other : (text : List ℕ) → list_all is_ascii_digit text ≡ false → None ≡ number_of text
none_other text e = is_none text (and_right _ _ (and_right _ _ (and_left _ _ e)))

digits : IsNumeralModel (λ ds. list_all is_ascii_digit ds ≡ true) (digits_value 10)
digits = numerals_by_value _ (search rules)

is_some_number : (text : List ℕ) → 1 ≤ length text → length text ≤ 20 → list_all is_ascii_digit text ≡ true
    → digits_value 10 text ≤ 18446744073709551615
    → is_number text ≡ true
is_some_number text least most all fits =
    and_from _ _ (le-leb 1 (length text) least) (and_from _ _ (le-leb (length text) 20 most)
    (and_from _ _ all (le-leb (digits_value 10 text) 18446744073709551615 fits)))

some_digits : (text : List ℕ) → is_number text ≡ true → Some (digits_value 10 text) ≡ number_of text
unfolding number_of
some_digits text e = sym (ap (λ b. if b then Some (digits_value 10 text) else None) e)

none_great : (text : List ℕ) → 18446744073709551615 < digits_value 10 text → None ≡ number_of text
none_great text h = is_none text (and_right (nat_le 1 (length text)) _
    (and_right (nat_le (length text) 20) _ (and_right (list_all is_ascii_digit text) _
    (lt-leb (digits_value 10 text) 18446744073709551615 h))))

of_parsed : {E : Type 0} (text : List ℕ) (r : Result ℕ E) → 1 ≤ length text → length text ≤ 20
    → list_all is_ascii_digit text ≡ true
    → OkIff r ((0 < length text) × (digits_value 10 text < 2 ^ 64)) (digits_value 10 text) → result_ok r
    ≡ number_of text
of_parsed text (Ok x) least most all (facts, is) = ap (λ n. Some n) is
    ∙ some_digits text (is_some_number text least most all (omega (arith, facts.1)))
of_parsed text (Err e) least most all bad = elim (cases_lt 18446744073709551615 (digits_value 10 text)) [
  | inl above ↦ none_great text above
  | inr within ↦ absurd (bad (omega arith, omega arith))
]

pub some_parsed : {E : Type 0} (text : List ℕ) (r : Result ℕ E) → ParsesUnsigned 64 10 text r → 1 ≤ length text
    → length text ≤ 20
    → list_all is_ascii_digit text ≡ true → result_ok r ≡ number_of text
some_parsed text r h least most all = of_parsed text r least most all (parse_digits digits 64 text r h all)
