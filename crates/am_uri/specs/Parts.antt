-- The parts of a text before they are copied.
use Rattle.std.specs.Prelude.{◌≡◌, ℕ, List, Result, Ok, Err}
use Rattle.std.specs.Borrow.{Bor}
use Rattle.am_types.specs.declared.uri.Mime.{Mime}
use Rattle.am_types.specs.declared.uri.MimeFault.{MimeFault}
use Rattle.am_types.specs.declared.uri.MimeFault.TheVariants.{NoSlash, EmptyPart, BadCharacter, NoMemory}

-- the two borrowed texts
abbrev pub both : Bor (List ℕ) × Bor (List ℕ) → List ℕ × List ℕ
both lent = (lent.0.now, lent.1.now)

-- the borrowed parts are those of the expected MIME type, or the fault is the expected one
abbrev pub MimeParts : Result Mime MimeFault → Result (Bor (List ℕ) × Bor (List ℕ)) MimeFault → Type 0
MimeParts wanted (Ok lent) = wanted ≡ Ok (record { main = lent.0.now; sub = lent.1.now })
MimeParts wanted (Err NoSlash) = wanted ≡ Err NoSlash
MimeParts wanted (Err EmptyPart) = wanted ≡ Err EmptyPart
MimeParts wanted (Err BadCharacter) = wanted ≡ Err BadCharacter
MimeParts wanted (Err NoMemory) = ⊥
