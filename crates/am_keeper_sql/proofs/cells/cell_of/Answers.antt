use Rattle.std.proofs.Common.{◌≡◌, Option, Some, refl, sym, ap, subst, ◌∙◌}
use Rattle.std.specs.Prelude.{IsSome}
use Rattle.am_rows.specs.declared.Cell.TheVariants.{Words}
use Rattle.am_keeper_sql.proofs.Values.{text_cell, no_text_cell}
use Rattle.am_keeper_sql.proofs.cells.cell_of.Goals as goal

pub returns-in_ok-of-in-Ok-clause-read : goal.returns-in_ok-of-in-Ok-clause-read
returns-in_ok-of-in-Ok-clause-read c = rw c.in-Text.is (text_cell _ c.in-Ok.ensures.cases.1
    ∙ ap (λ t. Some (Words t)) (sym c.in-Ok.ensures.cases.0 ∙ sym c.in_ok-of-in-Ok.ensures))

pub returns-in-Err-clause-read : goal.returns-in-Err-clause-read
returns-in-Err-clause-read c = rw c.in-Text.is (no_text_cell _ c.in-Err.ensures.cases.0)

some_of : {X : Type 0} (read : Option X) (x : X) → read ≡ Some x → IsSome read
some_of {X} read x is = let P : Option X → Type 0 = λ o. IsSome o in subst P (sym is) refl

pub returns-in_err-of-in-Ok-clause-memory : goal.returns-in_err-of-in-Ok-clause-memory
returns-in_err-of-in-Ok-clause-memory c = λ _. rw c.in-Text.is (some_of _ _ (text_cell _ c.in-Ok.ensures.cases.1))
