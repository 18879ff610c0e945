-- Bytes that hold one value.
use Rattle.std.specs.Prelude.{ℕ, List}
use Rattle.am_packed.specs.Forms.{Form}

-- the value of bytes behind which nothing follows
abbrev pub value_of : {A : Type 0} → Form A → List ℕ → A
value_of f bytes = (f.read bytes).0
