-- Files in memory, as their calls see them.
use Rattle.std.specs.Prelude.{ℕ, List}
use Rattle.am_outside.specs.declared.files.FileBytes.{FileBytes}

-- the files, the numbers of the reads that fail, and how many reads there were and failed
pub record Shelf : Type 0 where
  pub files : List FileBytes
  pub failing : List ℕ
  pub reads : ℕ
  pub faults : ℕ
