-- What the fields of a right make is made of what they are read as.
use Rattle.std.proofs.Common.{◌≡◌, ℕ, Bool, List, [], ◌∷◌, refl}
use Rattle.std.specs.Prelude.{Result, Ok, Err, codes}
use Rattle.serde_json.specs.Data.{Data}
use Rattle.am_types.specs.Reading.{◌>>=◌}
use Rattle.am_uri.specs.declared.text.Form.TheVariants.{Any}
use Rattle.am_wire_fields.specs.declared.fault.WireFault.{WireFault}
use Rattle.am_wire_fields.specs.Fields.{required_truth}
use Rattle.am_wire_fields.specs.Texts.{required_text}
use Rattle.am_wire.specs.Activities.{fields_of}
use Rattle.am_wire.specs.Packages.{right_in}

module _ {B C : Type 0} (make : B → C) where
  -- what is made of a value that is read last
  made_of : {A : Type 0} (read : Result A WireFault) (next : A → Result B WireFault) (then : A → Result C WireFault)
      → ((x : A) → then x ≡ (next x >>= λ y. Ok (make y))) → (read >>= then) ≡ ((read >>= next) >>= λ y. Ok (make y))
  made_of (Ok x) next then h = h x
  made_of (Err fault) next then h = refl

pub right_made : {A : Type 0} (text_name held_name : List ℕ) (make : List ℕ → List ℕ → Bool → A) (body : Data)
    → right_in text_name held_name make body
    ≡ (right_in {A = List ℕ × List ℕ × Bool} text_name held_name (λ name text held. (name, text, held)) body
    >>= λ r. Ok (make r.0 r.1 r.2))
unfolding right_in
right_made text_name held_name make body =
    let of = λ (r : List ℕ × List ℕ × Bool). make r.0 r.1 r.2 in
    made_of of (fields_of (codes "package" ∷ text_name ∷ held_name ∷ []) body) _ _
    (λ known. made_of of (required_text Any 1024 (codes "package") body) _ _
    (λ name. made_of of (required_text Any 1024 text_name body) _ _
    (λ text. made_of of (required_truth held_name body) _ _ (λ held. refl))))
