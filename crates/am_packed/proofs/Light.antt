-- Which values are light, by the bytes from which they are read.
use Rattle.std.proofs.Common.{◌≡◌, ℕ, zero, suc, ◌*◌, ◌^◌, ◌<◌, Bool, true, false, pos, negsuc, List, IsTrue, nat_eq, nat_lt, if◌then◌else◌, refl, sym, ◌∙◌, arith}
use Rattle.std.proofs.lemmas.Bool.{false≢true, lt-ltb, ltb-true}
use Rattle.am_packed.specs.Numbers.{is_near, number, signed}
use Rattle.am_packed.specs.Lists.{is_empty, items_at}

wider : (n : ℕ) → IsTrue (nat_lt n (2 ^ 63)) → IsTrue (nat_lt n (2 ^ 64))
wider n near = let lt : n < 2 ^ 63 = ltb-true n (2 ^ 63) near in lt-ltb n (2 ^ 64) (omega arith)

near_if : (positive : Bool) (limit n : ℕ) → is_near limit (if positive then pos n else negsuc n) ≡ nat_lt n limit
near_if true limit n = refl
near_if false limit n = refl

-- a whole number is as near as the number that it is signed from
near_signed : (limit sign n : ℕ) → is_near limit (signed sign n) ≡ nat_lt n limit
near_signed limit sign n = near_if (nat_eq sign 0) limit n

-- a whole number of 64 bits is a sign and a number of 64 bits
pub far_fits : (sign n : ℕ) → IsTrue (is_near (2 ^ 63) (signed sign n)) → IsTrue (number.light n)
unfolding number
far_fits sign n near = wider n (sym (near_signed (2 ^ 63) sign n) ∙ near)

module _ {A : Type 0} where
  -- no values were counted if none are read
  pub none_counted : (read : List ℕ → A × List ℕ) (count : ℕ) (s : List ℕ)
      → IsTrue (is_empty (items_at read count s).0) → count ≡ 0
  none_counted read zero s none = refl
  none_counted read (suc count) s none = absurd (false≢true none)

-- the number 0 is light
pub zero_light : (n : ℕ) → n ≡ 0 → IsTrue (number.light n)
unfolding number
zero_light n is = lt-ltb n (2 ^ 64) (omega arith)
