-- Options and lists as bytes.
use Rattle.std.specs.Prelude.{◌≡◌, ℕ, zero, suc, Bool, true, false, Option, Some, None, List, [], ◌∷◌, ◌++◌, length, refl}
use Rattle.std.specs.List.{flat_map}
use Rattle.std.proofs.Common.{append_assoc}
use Rattle.am_packed.specs.Forms.{Form}
use Rattle.am_packed.specs.Numbers.{number}

module _ {A : Type 0} where
  -- a 0 for none, a 1 before a value
  abbrev pub option_bytes : (A → List ℕ) → Option A → List ℕ
  option_bytes bytes None = 0 ∷ []
  option_bytes bytes (Some x) = 1 ∷ bytes x

  -- the value that bytes begin with, if there is one, and what follows
  abbrev pub option_at : (List ℕ → A × List ℕ) → List ℕ → Option A × List ℕ
  option_at read [] = (None, [])
  option_at read (zero ∷ others) = (None, others)
  option_at read (suc n ∷ others) = (Some (read others).0, (read others).1)

  pub option_again : (f : Form A) (x : Option A) (rest : List ℕ)
      → option_at f.read (option_bytes f.bytes x ++ rest) ≡ (x, rest)
  option_again f None rest = refl
  option_again f (Some x) rest = rw (f.again x rest) refl

  -- none is light, and so is a light value
  abbrev pub option_light : (A → Bool) → Option A → Bool
  option_light light None = true
  option_light light (Some x) = light x

  -- a value, if there is one
  abbrev pub option_of : Form A → Form (Option A)
  option_of f = record {
    bytes = option_bytes f.bytes;
    read = option_at f.read;
    light = option_light f.light;
    again = option_again f;
  }

  -- so many values that bytes begin with, and what follows them
  abbrev pub items_at : (List ℕ → A × List ℕ) → ℕ → List ℕ → List A × List ℕ
  items_at read zero s = ([], s)
  items_at read (suc n) s =
      let first = read s in let others = items_at read n first.1 in (first.0 ∷ others.0, others.1)

  pub items_again : (f : Form A) (xs : List A) (rest : List ℕ)
      → items_at f.read (length xs) (flat_map f.bytes xs ++ rest) ≡ (xs, rest)
  items_again f [] rest = refl
  items_again f (x ∷ xs) rest =
      rw (
        append_assoc (f.bytes x) (flat_map f.bytes xs) rest,
        f.again x (flat_map f.bytes xs ++ rest),
        items_again f xs rest,
      ) refl

  -- the values whose number was read
  abbrev pub counted_at : (List ℕ → A × List ℕ) → ℕ × List ℕ → List A × List ℕ
  counted_at read count = items_at read count.0 count.1

  pub list_again : (f : Form A) (xs : List A) (rest : List ℕ)
      → counted_at f.read (number.read ((number.bytes (length xs) ++ flat_map f.bytes xs) ++ rest)) ≡ (xs, rest)
  list_again f xs rest =
      rw (
        append_assoc (number.bytes (length xs)) (flat_map f.bytes xs) rest,
        number.again (length xs) (flat_map f.bytes xs ++ rest),
        items_again f xs rest,
      ) refl

  -- whether there are no values
  abbrev pub is_empty : List A → Bool
  is_empty [] = true
  is_empty (x ∷ xs) = false

  -- a list: how many values it has, then these; it is light if it has none
  abbrev pub list_of : Form A → Form (List A)
  list_of f = record {
    bytes = λ xs. number.bytes (length xs) ++ flat_map f.bytes xs;
    read = λ s. counted_at f.read (number.read s);
    light = is_empty;
    again = list_again f;
  }
