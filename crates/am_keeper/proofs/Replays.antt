-- Rows that are put one after the other.
use Rattle.std.proofs.Common.{◌≡◌, List, [], ◌∷◌, ◌++◌, refl}
use Rattle.am_keeper.specs.declared.rows.Rows.{Rows}
use Rattle.am_keeper.specs.declared.rows.Row.{Row}
use Rattle.am_keeper.specs.Rows.{with_row, with_all}

-- the last one is put to what the others make
pub with_all_push : (rows : Rows) (more : List Row) (last : Row) → with_all rows (more ++ last ∷ [])
    ≡ with_row (with_all rows more) last
with_all_push rows [] last = refl
with_all_push rows (row ∷ more) last = with_all_push (with_row rows row) more last
