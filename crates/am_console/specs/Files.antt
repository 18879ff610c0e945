-- The files of a run.
use Rattle.std.specs.Prelude.{◌≡◌, ℕ, List, Option, Some, None, ⊤}
use Rattle.am_outside.specs.Files.{bytes_of}
use Rattle.am_outside.specs.declared.files.FileBytes.{FileBytes}
use Rattle.am_outside.specs.declared.files.Files.{Ghosts as FilesGhosts}

-- a reader of files: its files, if it tells them, and its count of faults
pub record Shelf : Type 0 where
  pub files : Option (List FileBytes)
  pub faults : ℕ

abbrev pub shelf_of : {F : Type 0} → FilesGhosts F → F → Shelf
shelf_of g files = record { files = g.files files; faults = g.faults files }

-- the file with this name has these bytes, if the files are told
abbrev pub Holds : Option (List FileBytes) → List ℕ → List ℕ → Type 0
Holds None name bytes = ⊤
Holds (Some files) name bytes = bytes_of name files ≡ Some bytes

-- the files are told, and none has this name
abbrev pub IsMissing : Option (List FileBytes) → List ℕ → Type 0
IsMissing None name = ⊥
IsMissing (Some files) name = bytes_of name files ≡ None
