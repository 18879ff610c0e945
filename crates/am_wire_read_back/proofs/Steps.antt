-- The steps of a reader: what was read at each, and what is read if each reads.
use Rattle.std.proofs.Common.{◌≡◌, Result, Ok, Err, Option, Some, None, refl, ap, ◌∙◌}
use Rattle.am_wire_fields.specs.declared.fault.WireFault.{WireFault}
use Rattle.am_types.specs.Reading.{◌>>=◌}

-- a step that was read, and what was read after it
pub record Step {A B : Type 0} (read : Result A WireFault) (more : A → Result B WireFault) (got : B) : Type 0 where
  pub value : A
  pub first : read ≡ Ok value
  pub later : more value ≡ Ok got

-- if something was read, each step was
pub step : {A B : Type 0} (read : Result A WireFault) (more : A → Result B WireFault) (got : B) → (read >>= more)
    ≡ Ok got → Step read more got
step (Ok x) more got h = record { value = x; first = refl; later = h }
step (Err f) more got h = absurd (cc)

-- what reads at the first step and after it
pub steps : {A B : Type 0} (read : Result A WireFault) (more : A → Result B WireFault) (x : A) (got : B) → read ≡ Ok x
    → more x ≡ Ok got → (read >>= more) ≡ Ok got
steps read more x got first later = ap (λ r. r >>= more) first ∙ later

-- what was read is one thing
abbrev pub value_or : {A : Type 0} → A → Result A WireFault → A
value_or d (Ok x) = x
value_or d (Err f) = d

pub same_ok : {A : Type 0} (x y : A) → ◌≡◌ {A = Result A WireFault} (Ok x) (Ok y) → x ≡ y
same_ok x y h = ap (value_or x) h

abbrev pub some_or : {A : Type 0} → A → Option A → A
some_or d (Some x) = x
some_or d None = d

pub same_some : {A : Type 0} (x y : A) → ◌≡◌ {A = Option A} (Some x) (Some y) → x ≡ y
same_some x y h = ap (some_or x) h

-- what was read as something is that thing
pub some_is : {A : Type 0} (read : Result A WireFault) (x : A) → (read >>= λ y. Ok (Some y)) ≡ Ok (Some x) → read ≡ Ok x
some_is read x h =
    let one = step read (λ y. Ok (Some y)) (Some x) h in
    one.first ∙ ap Ok (same_some one.value x (same_ok (Some one.value) (Some x) one.later))
