-- Whether a start is let in, by its source.
use Rattle.std.proofs.Common.{◌≡◌, ℕ, true, false, Some, None, Err, refl, ap, ◌∙◌}
use Rattle.am_types.specs.declared.task.StartCall.{StartCall}
use Rattle.am_types.specs.declared.task.PlaceFault.TheVariants.{NoSource, NotYours, NeedsNewTask}
use Rattle.am_model.specs.Tasks.{Tasks, owner, may_end}
use Rattle.am_model.specs.Placement.{place, place_as, placed_by, placed_from}
use Rattle.am_tasks.specs.Plans.{plan_for}

-- without a source a start that asks for a new task is let in
pub let_in : (all : Tasks) (start : StartCall) → start.source ≡ None → start.flags.new_task ≡ true → place all start
    ≡ place_as all start (plan_for all start)
unfolding place
let_in all start none asks = rw (none, asks) refl

-- and another isn't
pub needs_new_task : (all : Tasks) (start : StartCall) → start.source ≡ None → start.flags.new_task ≡ false
    → place all start ≡ Err NeedsNewTask
unfolding place
needs_new_task all start none asks = rw (none, asks) refl

-- a source that nobody owns doesn't exist
pub no_source : (all : Tasks) (start : StartCall) (number : ℕ) → start.source ≡ Some number → owner all number ≡ None
    → place all start ≡ Err NoSource
unfolding place
no_source all start number is none = rw (is, none) refl

-- one that is owned lets in who may end it
pub let_in_from : (all : Tasks) (start : StartCall) (number owned : ℕ) → start.source ≡ Some number → owner all number
    ≡ Some owned → may_end start.caller owned ≡ true
    → place all start ≡ place_as all start (plan_for all start)
unfolding place
let_in_from all start number owned is owns may = ap (placed_by all start) is ∙ ap (placed_from all start) owns
    ∙ rw may refl

-- and nobody else
pub not_yours : (all : Tasks) (start : StartCall) (number owned : ℕ) → start.source ≡ Some number → owner all number
    ≡ Some owned → may_end start.caller owned ≡ false → place all start ≡ Err NotYours
unfolding place
not_yours all start number owned is owns may = ap (placed_by all start) is ∙ ap (placed_from all start) owns
    ∙ rw may refl
