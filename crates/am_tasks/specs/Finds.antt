-- Searches among the tasks, and items at a place.
use Rattle.std.specs.Prelude.{ℕ, Bool, not, ◌&&◌, List, Option, Some, None, slice_get}
use Rattle.std.specs.List.{list_any}
use Rattle.am_types.specs.declared.intent.Component.{Component}
use Rattle.am_model.specs.Filters.{is_empty}
use Rattle.am_model.specs.Texts.{is_same}
use Rattle.am_model.specs.Tasks.{Task, is_number}
use Rattle.am_model.specs.Placement.{is_of, is_maybe_of, root_of}

-- the item at a place, if there is one
abbrev pub at : {X : Type 0} → List X → Option ℕ → Option X
at items None = None
at items (Some place) = slice_get items place

-- the task has the instance with this number
abbrev pub has_number : ℕ → Task → Bool
has_number number task = list_any (is_number number) task.instances

-- the task has an instance of the component
abbrev pub has_component : Component → Task → Bool
has_component component task = list_any (is_of component) task.instances

-- the root of the task is an instance of the component
abbrev pub is_rooted : Component → Task → Bool
is_rooted component task = is_maybe_of component (root_of task.instances)

-- the task has this affinity and isn't for a single instance; an empty affinity matches none
abbrev pub is_for : List ℕ → Task → Bool
is_for affinity task = (not task.single && not (is_empty affinity)) && is_same task.affinity affinity
