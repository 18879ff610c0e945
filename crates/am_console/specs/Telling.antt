-- What a program tells on its output and its errors, and the status that goes with it.
use Rattle.std.specs.Prelude.{◌≡◌, ℕ, ◌⊎◌, List}
use Rattle.std.specs.Io.KnownBytes.{Appends}
use Rattle.am_outside.specs.Counts.{HasRisen}
use Rattle.am_outside.specs.declared.outside.Sink.{Ghosts as SinkGhosts}
use Rattle.am_http.specs.Links.{SinkView, sink_of}
use Rattle.am_http.specs.Sending.{WritesPart}

-- what a program prints on: the output and the errors
pub record Voices : Type 0 where
  pub output : SinkView
  pub errors : SinkView

abbrev pub voices_of : {W E : Type 0} → SinkGhosts W → SinkGhosts E → W → E → Voices
voices_of w e output errors = record { output = sink_of w output; errors = sink_of e errors }

-- the line was written whole and the status is the one that goes with it, or the errors failed and took a part of it
abbrev pub Tells : List ℕ → ℕ → SinkView → SinkView → ℕ → Type 0
Tells line status errors errors' result =
    ((result ≡ status) × Appends errors.taken errors'.taken line)
    ⊎ ((result ≡ 6) × HasRisen errors.faults errors'.faults × WritesPart errors.taken errors'.taken line)

-- a line was told on the errors, with its status, and the output took nothing
abbrev pub OnlyTold : List ℕ → ℕ → Voices → Voices → ℕ → Type 0
OnlyTold line code before after status =
    (after.output ≡ before.output) × Tells line code before.errors after.errors status

-- a text was printed whole, with its status, or the output failed and took a part of it, and this complaint says so
-- on the errors
abbrev pub Prints : List ℕ → List ℕ → ℕ → Voices → Voices → ℕ → Type 0
Prints complaint text status before after result =
    ((result ≡ status) × Appends before.output.taken after.output.taken text × (after.errors ≡ before.errors))
    ⊎ (HasRisen before.output.faults after.output.faults × WritesPart before.output.taken after.output.taken text
    × Tells complaint 6 before.errors after.errors result)
