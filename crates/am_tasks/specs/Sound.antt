-- What holds of all the tasks that are kept.
use Rattle.std.specs.Prelude.{◌≡◌, ℕ, ◌≤◌, ◌==◌, List, length, count_by, sum_by, All}
use Rattle.am_model.specs.Tasks.{Task, Tasks, is_number}

-- how many instances of a task have this number
abbrev pub count_in : ℕ → Task → ℕ
count_in number task = count_by (is_number number) task.instances

-- how many instances of all tasks have this number
abbrev pub count_of : ℕ → List Task → ℕ
count_of number tasks = sum_by (count_in number) tasks

-- how many tasks have this number
abbrev pub count_tasks : ℕ → List Task → ℕ
count_tasks number tasks = count_by (λ (task : Task). task.number == number) tasks

-- a task has 1 to 64 instances
abbrev pub IsFilled : Task → Type 0
IsFilled task = (1 ≤ length task.instances) × (length task.instances ≤ 64)

-- there are at most 64 tasks with 1 to 64 instances each; each number of a task or of an instance occurs once, and is
-- below the next one
pub record IsSound (all : Tasks) : Type 0 where
  pub few : length all.tasks ≤ 64
  pub filled : All IsFilled all.tasks
  pub tasks_once : (number : ℕ) → count_tasks number all.tasks ≤ 1
  pub tasks_below : (number : ℕ) → all.next_task ≤ number → count_tasks number all.tasks ≡ 0
  pub instances_once : (number : ℕ) → count_of number all.tasks ≤ 1
  pub instances_below : (number : ℕ) → all.next_instance ≤ number → count_of number all.tasks ≡ 0
