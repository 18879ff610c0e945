-- What the steps of a reading read, if it read something.
use Rattle.std.proofs.Common.{◌≡◌, ℕ, ◌+◌, ◌≤◌, Bool, true, false, cond, List, [], ◌∷◌, length, Option, Some, None, Result, Ok, Err, refl, sym, ap, subst, arith}
use Rattle.std.specs.Prelude.{All, IfSome, codes, nat_lt}
use Rattle.std.proofs.lemmas.Bool.{ltb-false}
use Rattle.std.proofs.lemmas.List.Elements.{All-nil, All-cons}
use Rattle.toml.specs.Data.{Data, get, as_str}
use Rattle.am_types.specs.declared.manifest.ManifestFault.{ManifestFault}
use Rattle.am_types.specs.declared.manifest.ManifestFault.TheVariants.{WrongKind, OverLimit}
use Rattle.am_uri.specs.declared.text.Form.{Form}
use Rattle.am_types.specs.Reading.{◌>>=◌}
use Rattle.am_uri.specs.Texts.{fits}
use Rattle.am_manifest_filters.specs.Texts.{key_place, text_in}
use Rattle.am_manifest_filters.specs.Tables.{at_most, each, optional_values, required_in, required_text, optional_text_in, optional_text}

-- what the first step read, of which the second one made this
pub record Steps {A B : Type 0} (first : Result A ManifestFault) (next : A → Result B ManifestFault) (made : B) : Type 0
  where
    pub value : A
    pub is : first ≡ Ok value
    pub then : next value ≡ Ok made

pub steps : {A B : Type 0} (first : Result A ManifestFault) (next : A → Result B ManifestFault) (made : B)
    → (first >>= next) ≡ Ok made → Steps first next made
steps (Ok value) next made h = record { value = value; is = refl; then = h }
steps (Err fault) next made h = absurd cc

-- what was read is what a reading says
pub same : {A : Type 0} (x y : A) → ◌≡◌ {A = Result A ManifestFault} (Ok x) (Ok y) → x ≡ y
same x y h = cc

-- what is not above a limit is within it
pub within : (limit : ℕ) (name : List ℕ) (count : ℕ) (u : Unit {0}) → at_most limit name count ≡ Ok u → count ≤ limit
unfolding at_most
within limit name count u h = by (nat_lt limit count) refl h
  where
    by : (b : Bool) → nat_lt limit count ≡ b → cond b (Err (OverLimit name)) (Ok tt) ≡ Ok u → count ≤ limit
    by true e h = absurd cc
    by false e h = ltb-false limit count e

-- a text that was read has the form that was asked for
pub fitting : (form : Form) (place : List ℕ) (o : Option (List ℕ)) (text : List ℕ) → text_in form place o ≡ Ok text
    → fits form text ≡ true
unfolding text_in
fitting form place None text h = absurd cc
fitting form place (Some t) text h = by (fits form t) refl (nat_lt 1024 (length t)) h
  where
    by : (a : Bool) → fits form t ≡ a → (b : Bool) → cond a (cond b (Err (OverLimit (codes "text"))) (Ok t))
        (Err (WrongKind place)) ≡ Ok text → fits form text ≡ true
    by true e true h = absurd cc
    by true e false h = let is : t ≡ text = cc in subst (λ (s : List ℕ). fits form s ≡ true) is e
    by false e b h = absurd cc

pub required_fits : (form : Form) (at key : List ℕ) (value : Data) (text : List ℕ) → required_text form at key value
    ≡ Ok text → fits form text ≡ true
unfolding required_text required_in
required_fits form at key value text h = by (get key value) h
  where
    by : (o : Option Data) → required_in form (key_place at key) o ≡ Ok text → fits form text ≡ true
    by None h = absurd cc
    by (Some v) h = fitting form (key_place at key) (as_str v) text h

pub optional_fits : (form : Form) (at key : List ℕ) (value : Data) (found : Option (List ℕ))
    → optional_text form at key value ≡ Ok found → IfSome found (λ text. fits form text ≡ true)
unfolding optional_text optional_text_in
optional_fits form at key value found h = by (get key value) h
  where
    by : (o : Option Data) → optional_text_in form (key_place at key) o ≡ Ok found
        → IfSome found (λ text. fits form text ≡ true)
    by None h = subst (λ (o : Option (List ℕ)). IfSome o (λ text. fits form text ≡ true)) (same None found h) tt
    by (Some v) h =
        let text = steps (text_in form (key_place at key) (as_str v)) _ found h in
        subst (λ (o : Option (List ℕ)). IfSome o (λ t. fits form t ≡ true)) (same (Some text.value) found text.then)
        (fitting form (key_place at key) (as_str v) text.value text.is)

module _ {A : Type 0} (read : ℕ → Data → Result A ManifestFault) where
  pub each_all : (P : A → Type 0) → ((i : ℕ) (v : Data) (x : A) → read i v ≡ Ok x → P x)
      → (i : ℕ) (values : List Data) (xs : List A) → each read i values ≡ Ok xs → All P xs
  unfolding each
  each_all P f i [] xs h = subst (All P) (same [] xs h) (All-nil P)
  each_all P f i (v ∷ values) xs h =
      let one = steps (read i v) _ xs h in
      let others = steps (each read (i + 1) values) _ xs one.then in
      subst (All P) (same (one.value ∷ others.value) xs others.then)
      (All-cons P one.value others.value (f i v one.value one.is)
      (each_all P f (i + 1) values others.value others.is))

  pub each_length : (i : ℕ) (values : List Data) (xs : List A) → each read i values ≡ Ok xs → length xs ≡ length values
  unfolding each
  each_length i [] xs h = ap length (sym (same [] xs h))
  each_length i (v ∷ values) xs h =
      let one = steps (read i v) _ xs h in
      let others = steps (each read (i + 1) values) _ xs one.then in
      let long = ap length (same (one.value ∷ others.value) xs others.then) in
      omega (arith, long, each_length (i + 1) values others.value others.is)

  -- what was read of each value under a key, where there are at most this many, and what was made of it
  pub record ListRead {B : Type 0} (limit : ℕ) (next : List Data → List A → Result B ManifestFault) (made : B) : Type 0
    where
      pub values : List Data
      pub those : List A
      pub is : each read 0 values ≡ Ok those
      pub few : length those ≤ limit
      pub then : next values those ≡ Ok made

  pub listed_read : {B : Type 0} (at key name : List ℕ) (limit : ℕ) (value : Data)
      (next : List Data → List A → Result B ManifestFault) (made : B)
      → (optional_values at key value >>= (λ values. at_most limit name (length values) >>= (λ few. each read 0 values
      >>= next values))) ≡ Ok made → ListRead limit next made
  listed_read at key name limit value next made h =
      let values = steps (optional_values at key value) _ made h in
      let few = steps (at_most limit name (length values.value)) _ made values.then in
      let those = steps (each read 0 values.value) _ made few.then in
      let many = within limit name (length values.value) few.value few.is in
      let long = each_length 0 values.value those.value those.is in
      record {
        values = values.value;
        those = those.value;
        is = those.is;
        few = omega (arith, many, long);
        then = those.then;
      }
