-- A short text of digits is a number below 256 if it is read as a byte.
use Rattle.std.proofs.Common.{◌≡◌, ℕ, ◌-◌, ◌<◌, ◌≤◌, ◌^◌, Bool, true, false, List, [], ◌∷◌, length, map, Result, Ok, Err, nat_le, not, ◌&&◌, refl, sym, arith, rules}
use Rattle.std.specs.List.{list_all}
use Rattle.std.specs.Result.{is_ok, OkIff}
use Rattle.std.specs.Char.{is_ascii_digit}
use Rattle.std.specs.Int.Digits.{number_from_digits, number_from_digits_after}
use Rattle.std.specs.Str.Parse.{ParsesUnsigned}
use Rattle.std.proofs.lemmas.Bool.{and_parts, false≢true, leb-true, le-leb}
use Rattle.std.proofs.lemmas.Str.Parse.{IsNumeralModel, numerals_by_fold, parse_digits}
use Rattle.am_model.specs.Filters.{is_empty}

-- the number that the digits write after this one
abbrev read_on : ℕ → List ℕ → ℕ
read_on number digits = number_from_digits_after 10 number (map (λ b. b - 48) digits)

own : IsNumeralModel (λ digits. list_all is_ascii_digit digits ≡ true) (read_on 0)
own = numerals_by_fold _ (search rules) read_on (search rules)

-- reading such a text as a byte tells whether it is an octet
pub octet_read : {E : Type 0} (part : List ℕ) (r : Result ℕ E) → ParsesUnsigned 8 10 part r
    → ((not (is_empty part) && nat_le (length part) 3) && list_all is_ascii_digit part) ≡ true
    → is_ok r ≡ nat_le (number_from_digits 10 (map (λ b. b - 48) part)) 255
octet_read [] r h short = absurd (false≢true short)
octet_read {E} (digit ∷ digits) r h short = by r (parse_digits own 8 (digit ∷ digits) r h digits_only)
  where
    part : List ℕ
    part = digit ∷ digits

    digits_only : list_all is_ascii_digit part ≡ true
    digits_only = (and_parts (nat_le (length part) 3) (list_all is_ascii_digit part) short).1

    over : (b : Bool) → nat_le (read_on 0 part) 255 ≡ b → ((0 < length part) × (read_on 0 part < 2 ^ 8) → ⊥)
        → false ≡ nat_le (read_on 0 part) 255
    over true e none = absurd (none (
      omega arith,
      (let low : read_on 0 part ≤ 255 = leb-true (read_on 0 part) 255 e in
          omega (arith, low)),
    ))
    over false e none = sym e

    by : (r : Result ℕ E) → OkIff r ((0 < length part) × (read_on 0 part < 2 ^ 8)) (read_on 0 part)
        → is_ok r ≡ nat_le (read_on 0 part) 255
    by (Ok number) is = sym (le-leb (read_on 0 part) 255 (let low : read_on 0 part < 2 ^ 8 = is.0.1 in
        omega (arith, low)))
    by (Err fault) none = over (nat_le (read_on 0 part) 255) refl none
