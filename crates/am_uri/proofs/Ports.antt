-- A port that is read is the number that its digits write.
use Rattle.std.proofs.Common.{◌≡◌, ℕ, ◌-◌, ◌<◌, ◌≤◌, ◌^◌, true, false, List, [], ◌∷◌, length, map, Some, None, Result, Ok, Err, nat_le, refl, ap, arith, rules, inl, inr}
use Rattle.std.specs.Result.{result_ok}
use Rattle.std.specs.List.{list_all}
use Rattle.std.specs.Char.{is_ascii_digit}
use Rattle.std.specs.Int.Digits.{number_from_digits_after}
use Rattle.std.specs.Str.Parse.{ParsesUnsigned}
use Rattle.std.proofs.lemmas.Bool.{and_parts, cases_lt, leb-true}
use Rattle.std.proofs.lemmas.Bool.Decides.{nat_tests}
use Rattle.std.proofs.lemmas.Str.Parse.{IsNumeralModel, numerals_by_fold, parse_digits, parse_gives, digits_value_short}
use Rattle.am_model.specs.Uris.{is_port, phone_port_of, port_of}

-- the number that the digits write after this one
abbrev read_on : ℕ → List ℕ → ℕ
read_on number digits = number_from_digits_after 10 number (map (λ b. b - 48) digits)

own : IsNumeralModel (λ digits. list_all is_ascii_digit digits ≡ true) (read_on 0)
own = numerals_by_fold _ (search rules) read_on (search rules)

empty_fails : {E : Type 0} (r : Result ℕ E) → ParsesUnsigned 32 10 [] r → result_ok r ≡ None
empty_fails {E} (Ok number) h = absurd (omega (arith, (parse_digits own {E = E} 32 [] (Ok number) h refl).0.0))
empty_fails (Err fault) h = refl

pub port_of-parse : {E : Type 0} (digits : List ℕ) (r : Result ℕ E) → ParsesUnsigned 32 10 digits r → is_port digits
    ≡ true → result_ok r ≡ port_of digits
port_of-parse [] r h port = empty_fails r h
port_of-parse (digit ∷ digits) r h port =
    let parts = and_parts (nat_le (length (digit ∷ digits)) 5) (list_all is_ascii_digit (digit ∷ digits)) port in
    let short : length (digit ∷ digits) ≤ 5 = leb-true _ 5 parts.0 in
    let low : read_on 0 (digit ∷ digits) < 10 ^ 5 = digits_value_short own (digit ∷ digits) 5 parts.1 short in
    ap result_ok (parse_gives own 32 (digit ∷ digits) r h parts.1 (omega arith) (omega arith))

-- digits that were read as a number of 32 bits are a phone's port as the number is, and others are none
pub phone_port-parse : {E : Type 0} (digits : List ℕ) (r : Result ℕ E) → ParsesUnsigned 32 10 digits r
    → list_all is_ascii_digit digits ≡ true → phone_port_of (result_ok r) ≡ phone_port_of (port_of digits)
phone_port-parse [] r h all = ap phone_port_of (empty_fails r h)
phone_port-parse {E} (digit ∷ digits) (Ok number) h all =
    ap (λ n. phone_port_of (Some n)) (parse_digits own {E = E} 32 (digit ∷ digits) (Ok number) h all).1
phone_port-parse {E} (digit ∷ digits) (Err fault) h all =
    let number = read_on 0 (digit ∷ digits) in
    elim (cases_lt number 2147483648) [
      | inl low ↦ absurd (parse_digits own {E = E} 32 (digit ∷ digits) (Err fault) h all (omega arith, omega (arith, low)))
      | inr high ↦ let great : nat_le number 2147483647 ≡ false = grind (arith, nat_tests) in rw great refl
    ]
