-- The stored calls in packed form, as contracts see them.
use Rattle.std.specs.Prelude.{ℕ, List}
use Rattle.am_types.specs.declared.history.Entry.{Entry}

-- the entries, and for how many more there is room at once
pub record Archived : Type 0 where
  pub entries : List Entry
  pub spare : ℕ
