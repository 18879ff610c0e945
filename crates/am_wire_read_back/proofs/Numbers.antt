-- Numbers: what was read of a value is read again.
use Rattle.std.proofs.Common.{◌≡◌, ℕ, zero, suc, ℤ, pos, negsuc, Bool, true, false, cond, List, Option, Some, None, option_map, option_and_then, Ok, refl, ap, ◌∙◌, subst, arith}
use Rattle.std.specs.Prelude.{◌^◌, nat_lt, unsigned_abs, ◌==◌}
use Rattle.std.proofs.lemmas.Bool.Decides.{Decides-eqb}
use Rattle.serde_json.specs.Data.{Num, unsigned, negative, float, Data, object}
use Rattle.serde_json.specs.Find.{as_number, as_i64, of_integer}
use Rattle.am_wire_fields.specs.declared.fault.WireFault.TheVariants.{WrongKind}
use Rattle.am_wire_fields.specs.Fields.{unless_null, field, if_said, of_kind}
use Rattle.am_wire_fields.specs.Numbers.{natural_in, whole_in, required_natural, up_to, required_up_to, required_whole, optional_natural, optional_whole}
use Rattle.am_wire.specs.Broadcasts.{or_zero}
use Rattle.am_wire_values.specs.Fields.{natural, whole, some_whole}
use Rattle.am_wire_read_back.proofs.Kept.{IsPlainNumber, IsKept, ForSome, field_kept}
use Rattle.am_wire_read_back.proofs.Objects.{Entry, members_with, value_at, are_apart, field_at}
use Rattle.am_wire_read_back.proofs.Options.{IsFieldReread, IsReread, option_field}
use Rattle.am_wire_read_back.proofs.Steps.{step, steps, same_ok, same_some}
use Rattle.am_wire_read_back.proofs.Texts.{else_read, field_again}

-- a number from 0 on is read of what is written for it
pub natural_again : (name : List ℕ) → IsReread (natural_in name) natural
unfolding natural_in of_kind
natural_again name value n k h = refl

pub number_is : {N : Type 0} (name : List ℕ) (o : Option N) (n : N) → of_kind name o ≡ Ok n → o ≡ Some n
unfolding of_kind
number_is name None n h = absurd (cc)
number_is name (Some m) n h = ap Some (same_ok m n h)

fits_signed : (b : Bool) (n : ℕ) (z : ℤ) → cond b (Some (pos n)) None ≡ Some z → (b ≡ true) × (pos n ≡ z)
fits_signed true n z h = (refl, same_some (pos n) z h)
fits_signed false n z h = absurd (cc)

signed_again : (m : Num) (z : ℤ) → IsPlainNumber m → as_i64 m ≡ Some z → as_i64 (of_integer z) ≡ Some z
signed_again (unsigned n) z k h =
    let both = fits_signed (nat_lt n (2 ^ 63)) n z h in
    let P : ℤ → Type 0 = λ z. as_i64 (of_integer z) ≡ Some z in
    subst P both.1 (ap (λ b. cond b (Some (pos n)) None) both.0)
signed_again (negative (pos n)) z k h = absurd k
signed_again (negative (negsuc n)) z k h = let P : ℤ → Type 0 = λ z. as_i64 (of_integer z)
    ≡ Some z in subst P (same_some (negsuc n) z h) refl
signed_again (float x) z k h = absurd (cc)

pub signed_of : (o : Option Num) (z : ℤ) → ForSome IsPlainNumber o → option_and_then as_i64 o ≡ Some z
    → as_i64 (of_integer z) ≡ Some z
signed_of None z k h = absurd (cc)
signed_of (Some m) z k h = signed_again m z k h

pub number_kept : (value : Data) → IsKept value → ForSome IsPlainNumber (as_number value)
number_kept (Data.number n) h = h
number_kept value h = tt

-- a signed number is read of what is written for it
pub whole_again : (name : List ℕ) → IsReread (whole_in name) whole
unfolding whole_in of_kind
whole_again name value z k h =
    ap (of_kind name) (signed_of (as_number value) z (number_kept value k)
    (number_is name (option_and_then as_i64 (as_number value)) z h))

pub required_natural_again : (name : List ℕ) → IsFieldReread name (required_natural name) (λ n. Some (natural n))
unfolding required_natural
required_natural_again name = field_again (natural_in name) natural (natural_again name) (λ n. refl) name

-- and so is one with a bound
pub required_up_to_again : (greatest : ℕ) (name : List ℕ)
    → IsFieldReread name (required_up_to greatest name) (λ n. Some (natural n))
unfolding required_up_to
required_up_to_again greatest name parent n es k h apart is =
    let one = step (required_natural name parent) (up_to greatest name) n h in
    let same : one.value ≡ n = same_ok one.value n (else_read (nat_lt greatest one.value) (WrongKind name)
    (Ok one.value) n one.later).1 in
    let P : ℕ → Type 0 = λ m. up_to greatest name m ≡ Ok n in
    steps (required_natural name (object (members_with es))) (up_to greatest name) n n
    (required_natural_again name parent n es k (one.first ∙ ap Ok same) apart is) (subst P same one.later)

pub required_whole_again : (name : List ℕ) → IsFieldReread name (required_whole name) (λ z. Some (whole z))
unfolding required_whole
required_whole_again name = field_again (whole_in name) whole (whole_again name) (λ z. refl) name

pub natural_field : (name : List ℕ) → IsFieldReread name (optional_natural name) (option_map natural)
unfolding optional_natural
natural_field name = option_field (natural_in name) natural (natural_again name) (λ n. refl) name

-- a number that is written if it isn't 0
pub is_zero : (z : ℤ) → (unsigned_abs z == 0) ≡ true → pos 0 ≡ z
is_zero (pos zero) h = refl
is_zero (pos (suc n)) h = let e : suc n ≡ 0 = (Decides-eqb (suc n) 0).0 h in absurd (omega arith)
is_zero (negsuc n) h = let e : suc n ≡ 0 = (Decides-eqb (suc n) 0).0 h in absurd (omega arith)

-- a number, or 0, that a signed number was read as
abbrev pub IsSigned : ℤ → Type 0
IsSigned z = as_i64 (of_integer z) ≡ Some z

if_is_signed : (name : List ℕ) (value : Option Data) (o : Option ℤ) → ForSome IsKept value
    → if_said (whole_in name) value ≡ Ok o → IsSigned (or_zero o)
unfolding whole_in
if_is_signed name None o k h = let P : Option ℤ → Type 0 = λ o. IsSigned (or_zero o) in subst P (same_ok None o h) refl
if_is_signed name (Some value) o k h =
    let s = step (whole_in name value) (λ z. Ok (Some z)) o h in
    let P : Option ℤ → Type 0 = λ o. IsSigned (or_zero o) in
    subst P (same_ok (Some s.value) o s.later) (signed_of (as_number value) s.value (number_kept value k)
    (number_is name (option_and_then as_i64 (as_number value)) s.value s.first))

-- what was read of an optional number, or 0, is that of 64 bits
pub was_signed : (name : List ℕ) (parent : Data) (o : Option ℤ) → IsKept parent → optional_whole name parent ≡ Ok o
    → IsSigned (or_zero o)
unfolding optional_whole
was_signed name parent o k h = if_is_signed name (field name parent) o (field_kept name parent k) h

-- a number that is read as this one, or 0
pub record ReadsWhole (name : List ℕ) (value : Data) (z : ℤ) : Type 0 where
  pub said : Option ℤ
  pub read : optional_whole name value ≡ Ok said
  pub is : or_zero said ≡ z

pub some_whole_field : (name : List ℕ) (z : ℤ) (es : List Entry) → IsSigned z → are_apart es ≡ true → value_at name es
    ≡ some_whole z → ReadsWhole name (object (members_with es)) z
unfolding optional_whole whole_in of_kind
some_whole_field name z es signed apart is = by (unsigned_abs z == 0) refl
  where
    by : (b : Bool) → (unsigned_abs z == 0) ≡ b → ReadsWhole name (object (members_with es)) z
    by true e =
        record {
          said = None;
          read = ap (if_said (whole_in name)) (field_at name es apart
              ∙ ap unless_null (is ∙ ap (λ b. cond b None (Some (whole z))) e));
          is = is_zero z e;
        }
    by false e =
        record {
          said = Some z;
          read = ap (if_said (whole_in name)) (field_at name es apart
              ∙ ap unless_null (is ∙ ap (λ b. cond b None (Some (whole z))) e))
              ∙ steps (whole_in name (whole z)) (λ z. Ok (Some z)) z (Some z) (ap (of_kind name) signed) refl;
          is = refl;
        }
