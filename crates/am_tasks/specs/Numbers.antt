-- The numbers of tasks and of instances.
use Rattle.std.specs.Prelude.{◌≤◌, ◌+◌}
use Rattle.am_types.specs.Bounds.{greatest_number}
use Rattle.am_model.specs.Tasks.{Tasks}

-- there are numbers left: neither of the next ones is above the last
abbrev pub HasNumbers : Tasks → Type 0
HasNumbers all = (all.next_task ≤ greatest_number) × (all.next_instance ≤ greatest_number)

-- the next numbers rise by at most one
abbrev pub NumbersRise : Tasks → Tasks → Type 0
NumbersRise old new = (new.next_task ≤ old.next_task + 1) × (new.next_instance ≤ old.next_instance + 1)
