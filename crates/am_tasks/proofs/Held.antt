-- The tasks as their fields hold them.
use Rattle.std.proofs.Common.{◌≡◌, ℕ, ◌<◌, length, subst, sym}
use Rattle.am_model.specs.Tasks.{Tasks}
use Rattle.am_tasks.specs.declared.tasks.Tasks.TheInside.{Inside}

-- the tasks that the fields hold
abbrev pub held : Inside → Tasks
held inside = record {
  tasks = inside.tasks.items;
  next_task = inside.next_task;
  next_instance = inside.next_instance;
}

-- a place among the tasks is one among those that the fields hold
pub within_held : {all seen : Tasks} (place : ℕ) → all ≡ seen → place < length seen.tasks → place < length all.tasks
within_held place is within = subst (λ (t : Tasks). place < length t.tasks) (sym is) within
