-- The value that was packed is the one that is unpacked.
use Rattle.std.proofs.Common.{◌≡◌, ◌∙◌, ℕ, List, [], sym, ap}
use Rattle.std.proofs.lemmas.List.{append-nil}
use Rattle.am_packed.specs.Forms.{Form}
use Rattle.am_packed.specs.Parts.{value_of}

-- the bytes of a value give it back
pub value_back : {A : Type 0} (f : Form A) (x : A) (bytes : List ℕ) → bytes ≡ f.bytes x → value_of f bytes ≡ x
value_back {A} f x bytes is =
    ap (λ (s : List ℕ). (f.read s).0) (is ∙ sym (append-nil (f.bytes x)))
    ∙ ap (λ (r : A × List ℕ). r.0) (f.again x [])
