use Rattle.std.proofs.Common.{◌≡◌, ℕ, ◌+◌, ◌-◌, ◌*◌, ◌^◌, ◌<◌, ◌≤◌, true, List, length, get_or, refl, arith, add-one}
use Rattle.std.specs.Prelude.{◌&&◌, nat_lt, nat_le}
use Rattle.std.specs.List.{list_all}
use Rattle.std.specs.Char.{is_ascii_digit, digit_value}
use Rattle.std.proofs.Math.Nat.{pow-suc, pow-le-pow_right}
use Rattle.std.proofs.lemmas.Bool.{and_parts, leb-true}
use Rattle.std.proofs.lemmas.Bool.Decides.{nat_tests}
use Rattle.std.proofs.lemmas.Int.Digits.{digits_value_more}
use Rattle.std.proofs.lemmas.List.Recursion.{and_at}
use Rattle.am_frames.specs.Fields.{is_length}
use Rattle.am_frames.proofs.length.decimal.Goals as goal

digit_at : (ds : List ℕ) (i : ℕ) → i < length ds → is_length ds ≡ true
    → (48 ≤ get_or ds i 0) × (get_or ds i 0 ≤ 57) × (digit_value (get_or ds i 0) ≡ get_or ds i 0 - 48)
digit_at ds i inside all =
    let digits : list_all is_ascii_digit ds ≡ true =
    (and_parts (nat_lt 0 (length ds) && nat_le (length ds) 19) (list_all is_ascii_digit ds) all).1 in
    let digit : is_ascii_digit (get_or ds i 0) ≡ true = and_at (list_all is_ascii_digit) is_ascii_digit refl
    (λ _ _. refl) ds i 0 inside digits in
    (grind (arith, nat_tests), grind (arith, nat_tests), grind (arith, nat_tests))

short : (ds : List ℕ) → is_length ds ≡ true → length ds ≤ 19
short ds all = leb-true _ _ (and_parts _ _ (and_parts _ _ all).0).1

pow_more : (i n d : ℕ) → n < 10 ^ i → d ≤ 9 → n * 10 + d < 10 ^ (i + 1)
pow_more i n d below digit = rw (add-one, pow-suc) (omega arith)

room : (i n : ℕ) → i < 19 → n < 10 ^ i → n * 10 + 9 < 2 ^ 64
room i n few below =
    let most : 10 ^ i ≤ 10 ^ 18 = pow-le-pow_right {n = 10} (omega arith) {i = i} {j = 18} (omega arith) in
    omega arith

pub overflow_mul-number : goal.overflow_mul-number
overflow_mul-number c =
    let few = short c.args.digits.now c.requires in
    let fits = room c.loop-digit.digit-index c.loop-digit.number (omega arith) c.loop-digit.invariant.1 in
    omega arith

pub overflow_add-number : goal.overflow_add-number
overflow_add-number c =
    let few = short c.args.digits.now c.requires in
    let fits = room c.loop-digit.digit-index c.loop-digit.number (omega arith) c.loop-digit.invariant.1 in
    let digit = digit_at c.args.digits.now c.loop-digit.digit-index c.loop-digit-test.true c.requires in
    omega arith

pub loop-digit-preserved : goal.loop-digit-preserved
loop-digit-preserved c =
    let digit = digit_at c.args.digits.now c.loop-digit.digit-index c.loop-digit-test.true c.requires in (
      omega (
        arith,
        digits_value_more 10 c.args.digits.now c.loop-digit.digit-index c.loop-digit-test.true,
        digit.2,
        c.loop-digit.invariant.0,
      ),
      pow_more c.loop-digit.digit-index c.loop-digit.number _ c.loop-digit.invariant.1 (omega arith),
    )
