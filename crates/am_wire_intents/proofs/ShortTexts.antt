-- A text that was read is as short as was asked for.
use Rattle.std.proofs.Common.{◌≡◌, ℕ, ◌≤◌, Bool, true, false, cond, List, length, Option, Some, None, Result, Ok, Err, refl, subst}
use Rattle.std.specs.Prelude.{nat_lt}
use Rattle.std.proofs.lemmas.Bool.{ltb-false}
use Rattle.serde_json.specs.Data.{Data}
use Rattle.serde_json.specs.Find.{as_str}
use Rattle.am_uri.specs.declared.text.Form.{Form}
use Rattle.am_uri.specs.Texts.{fits}
use Rattle.am_wire_fields.specs.declared.fault.WireFault.{WireFault}
use Rattle.am_wire_fields.specs.declared.fault.WireFault.TheVariants.{WrongKind, TooLong}
use Rattle.am_wire_fields.specs.Fields.{field, if_said}
use Rattle.am_types.specs.Reading.{◌>>=◌}
use Rattle.am_wire_fields.specs.Texts.{text_of, text_in, optional_text}

pub short_text : (form : Form) (limit : ℕ) (name : List ℕ) (said : Option (List ℕ)) (text : List ℕ)
    → text_of form limit name said ≡ Ok text → length text ≤ limit
unfolding text_of
short_text form limit name None text h = absurd cc
short_text form limit name (Some t) text h = by (fits form t) (nat_lt limit (length t)) refl h
  where
    by : (a b : Bool) → nat_lt limit (length t) ≡ b → cond a (cond b (Err (TooLong name)) (Ok t)) (Err (WrongKind name))
        ≡ Ok text → length text ≤ limit
    by true true e h = absurd cc
    by true false e h = let is : t ≡ text = cc in subst (λ (s : List ℕ). length s ≤ limit) is
        (ltb-false limit (length t) e)
    by false b e h = absurd cc

pub short_if_said : (form : Form) (limit : ℕ) (name : List ℕ) (value : Data) (text : List ℕ)
    → optional_text form limit name value ≡ Ok (Some text) → length text ≤ limit
unfolding optional_text text_in
short_if_said form limit name value text h = by (field name value) h
  where
    by : (said : Option Data) → if_said (text_in form limit name) said ≡ Ok (Some text) → length text ≤ limit
    by None h = absurd cc
    by (Some v) h = within (text_of form limit name (as_str v)) refl h
      where
        within : (read : Result (List ℕ) WireFault) → text_of form limit name (as_str v) ≡ read
            → (read >>= λ t. Ok (Some t)) ≡ Ok (Some text) → length text ≤ limit
        within (Ok t) e h = let is : t ≡ text = cc in subst (λ (s : List ℕ). length s ≤ limit) is
            (short_text form limit name (as_str v) t e)
        within (Err f) e h = absurd cc
