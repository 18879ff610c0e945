-- Texts as bytes.
use Rattle.std.specs.Prelude.{◌≡◌, ℕ, false, List, ◌++◌, length, take, drop, refl}
use Rattle.std.proofs.Common.{append_assoc}
use Rattle.std.proofs.lemmas.List.{take_at, drop_at}
use Rattle.am_packed.specs.Forms.{Form}
use Rattle.am_packed.specs.Numbers.{number}

-- so many bytes, and what follows them
abbrev pub parted : ℕ × List ℕ → List ℕ × List ℕ
parted found = (take found.0 found.1, drop found.0 found.1)

pub text_again : (t rest : List ℕ) → parted (number.read ((number.bytes (length t) ++ t) ++ rest)) ≡ (t, rest)
text_again t rest =
    rw (
      append_assoc (number.bytes (length t)) t rest,
      number.again (length t) (t ++ rest),
      take_at t rest (length t) refl,
      drop_at t rest (length t) refl,
    ) refl

-- a text: how many bytes it has, then these
unfoldable pub text : Form (List ℕ)
text = record {
  bytes = λ t. number.bytes (length t) ++ t;
  read = λ s. parted (number.read s);
  light = λ t. false;
  again = text_again;
}
