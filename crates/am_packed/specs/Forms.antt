-- What the packed form of a value is, and how forms are put together.
use Rattle.std.specs.Prelude.{◌≡◌, ℕ, Bool, ◌&&◌, List, ◌++◌, refl}
use Rattle.std.proofs.Common.{ap, ◌∙◌, append_assoc}

-- the bytes of each value, a reading of bytes that gives back the value that they begin with, and what follows, and
-- which values are light: reading them takes no memory
pub record Form (A : Type 0) : Type 0 where
  pub bytes : A → List ℕ
  pub read : List ℕ → A × List ℕ
  pub light : A → Bool
  pub again : (x : A) (rest : List ℕ) → read (bytes x ++ rest) ≡ (x, rest)

module _ {A B : Type 0} where
  -- what reading goes on with behind a first value
  abbrev pub then_read : (List ℕ → B × List ℕ) → A × List ℕ → (A × B) × List ℕ
  then_read read first = ((first.0, (read first.1).0), (read first.1).1)

  pub both_again : (f : Form A) (g : Form B) (x : A × B) (rest : List ℕ)
      → then_read g.read (f.read ((f.bytes x.0 ++ g.bytes x.1) ++ rest)) ≡ (x, rest)
  both_again f g x rest =
      rw (append_assoc (f.bytes x.0) (g.bytes x.1) rest, f.again x.0 (g.bytes x.1 ++ rest), g.again x.1 rest) refl

  -- one value, then the other
  unfoldable pub both : Form A → Form B → Form (A × B)
  both f g = record {
    bytes = λ x. f.bytes x.0 ++ g.bytes x.1;
    read = λ s. then_read g.read (f.read s);
    light = λ x. f.light x.0 && g.light x.1;
    again = both_again f g;
  }

  -- the same, for chains of values
  infixr 20 ◌and◌
  abbrev pub ◌and◌ : Form A → Form B → Form (A × B)
  f and g = both f g

  -- one value and another, or more, as pairs
  infixr 20 ◌&◌
  abbrev pub ◌&◌ : A → B → A × B
  x & y = (x, y)

  -- a value as the other one that it is made of
  abbrev pub made_of : Form B → (to : A → B) → (from : B → A) → ((x : A) → from (to x) ≡ x) → Form A
  made_of f to from back = record {
    bytes = λ x. f.bytes (to x);
    read = λ s. (from (f.read s).0, (f.read s).1);
    light = λ x. f.light (to x);
    again = λ x s. ap (λ (r : B × List ℕ). (from r.0, r.1)) (f.again (to x) s) ∙ ap (λ (y : A). (y, s)) (back x);
  }
