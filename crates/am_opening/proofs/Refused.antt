-- A row that is refused settles what the rows open as.
use Rattle.std.proofs.Common.{◌≡◌, ℕ, ◌+◌, ◌<◌, List, length, get_or, take, refl, sym, ap, ◌∙◌}
use Rattle.std.specs.Prelude.{Ok, Err}
use Rattle.std.proofs.lemmas.List.Folds.{fold_stuck}
use Rattle.std.proofs.lemmas.List.Sums.{fold_more}
use Rattle.am_keeper.specs.declared.rows.PackageRow.{PackageRow}
use Rattle.am_history.specs.State.{State}
use Rattle.am_history.specs.Opening.{after_row, after_rows, and_then_row}
use Rattle.am_opening.specs.declared.opened.BeginFault.{BeginFault}
use Rattle.am_opening.specs.declared.opened.BeginFault.TheVariants as faults
use Rattle.am_opening.specs.Openings.{Refuses}

-- the row at a place is refused
pub refused_at : (state before : State) (rows : List PackageRow) (i : ℕ) (row : PackageRow) → i < length rows → row
    ≡ get_or rows i row
    → after_rows state (take i rows) ≡ Ok before → (fault : BeginFault) → Refuses fault (after_row before row)
    → Refuses fault (after_rows state rows)
refused_at state before rows i row within is opens faults.NoMemory refuses = tt
refused_at state before rows i row within is opens (faults.Rows name) refuses =
    sym (fold_stuck and_then_row (Err name) (λ r. refl) (Ok state) rows i row within
    (ap (λ s. and_then_row s (get_or rows i row)) opens ∙ ap (after_row before) (sym is) ∙ refuses))

-- the row at a place is taken
pub taken_at : (state before after : State) (rows : List PackageRow) (i : ℕ) (row : PackageRow) → i < length rows → row
    ≡ get_or rows i row
    → after_rows state (take i rows) ≡ Ok before → after_row before row ≡ Ok after
    → after_rows state (take (i + 1) rows) ≡ Ok after
taken_at state before after rows i row within is opens taken =
    fold_more and_then_row (Ok state) rows i row within
    ∙ ap (λ s. and_then_row s (get_or rows i row)) opens ∙ ap (after_row before) (sym is) ∙ taken
