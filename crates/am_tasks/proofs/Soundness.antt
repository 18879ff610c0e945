-- What is kept stays sound.
use Rattle.std.proofs.Common.{◌≡◌, ℕ, suc, ◌+◌, ◌<◌, ◌≤◌, Bool, true, false, not, cond, eqb, List, [], ◌∷◌, length, get_or, take, drop, map, refl, ap, ◌∙◌, arith, inl, inr}
use Rattle.std.specs.Prelude.{All}
use Rattle.std.specs.List.{filter, count_by, sum_by, remove}
use Rattle.std.proofs.lemmas.Bool.{eqb-true, cases_lt}
use Rattle.std.proofs.lemmas.List.{length-map}
use Rattle.std.proofs.lemmas.List.Elements.{All-nil, All-cons, All-head, All-tail, All-append, All-take, All-drop, All-get_or}
use Rattle.std.proofs.lemmas.List.Sums.{sum_by-cons, sum_by-remove, get_or-le-sum_by, length-filter, count_by-le-length}
use Rattle.std.proofs.lemmas.List.Edits.{length-remove}
use Rattle.am_model.specs.Filters.{is_empty}
use Rattle.am_types.specs.declared.task.StartCall.{StartCall}
use Rattle.am_model.specs.Tasks.{Instance, Task, Tasks, is_number, keeping, tasks_keeping}
use Rattle.am_model.specs.Placement.{fresh, new_task}
use Rattle.am_model.proofs.TaskLaws.{AreInhabited}
use Rattle.am_tasks.specs.Sound.{IsSound, IsFilled, count_in, count_of, count_tasks}
use Rattle.am_tasks.proofs.Once.{IsOnce, tick}

-- the number of a task, and of an instance
abbrev pub task_number : Task → ℕ
task_number task = task.number

abbrev pub instance_number : Instance → ℕ
instance_number instance = instance.number

-- each task occurs once
pub tasks_stand_once : (all : Tasks) → IsSound all → IsOnce task_number all.tasks
tasks_stand_once all sound = record { once = sound.tasks_once }

-- each instance of a task occurs once in it
pub instances_stand_once : (all : Tasks) (place : ℕ) (d : Task) → IsSound all → place < length all.tasks
    → IsOnce instance_number (get_or all.tasks place d).instances
instances_stand_once all place d sound low =
    record {
      once = λ (n : ℕ). omega (
        arith,
        get_or-le-sum_by (count_in n) all.tasks place d low,
        sound.instances_once
            n,
      );
    }

-- an existing task has 1 to 64 instances
pub room_at : (all : Tasks) (place : ℕ) (d : Task) → IsSound all → place < length all.tasks
    → IsFilled (get_or all.tasks place d)
room_at all place d sound low = All-get_or IsFilled all.tasks place d low sound.filled

-- what holds of all holds of the rest
All_rest : {X : Type 0} (P : X → Type 0) (xs : List X) (place : ℕ) → All P xs → All P (remove xs place)
All_rest P xs place all = All-append P (take place xs) (drop (suc place) xs) (All-take P place xs all)
    (All-drop P (suc place) xs all)

-- as many tasks and instances as the rest has, and those of the task in front
counted_in_front : (f : Task → ℕ) (tasks : List Task) (place : ℕ) (d front : Task) → place < length tasks
    → sum_by f (front ∷ remove tasks place) + f (get_or tasks place d) ≡ f front + sum_by f tasks
counted_in_front f tasks place d front low = omega (
  arith,
  sum_by-cons f front (remove tasks place),
  sum_by-remove f
      tasks place d low,
)

-- a count that rises only if a number is new
rises_once : (new old more next n : ℕ) → new ≤ old + more → old ≤ 1 → more ≤ 1 → (n < next → more ≡ 0)
    → (next ≤ n → old ≡ 0) → new ≤ 1
rises_once new old more next n rises once one before beyond =
    elim (cases_lt n next) [ inl low ↦ omega (arith, before low) | inr high ↦ omega (arith, beyond high) ]

-- a task that comes to the front with 1 to 64 instances: those that it had, and at most one with a number from the next
-- on
pub sound_in_front : (all : Tasks) (place : ℕ) (d : Task) (kept : List Instance) (next : ℕ) (more : ℕ → ℕ) → IsSound all
    → place < length all.tasks
    → 1 ≤ length kept → length kept ≤ 64 → all.next_instance ≤ next
    → ((n : ℕ) → count_by (is_number n) kept ≤ count_in n (get_or all.tasks place d) + more n)
    → ((n : ℕ) → (more n ≤ 1) × (n < all.next_instance → more n ≡ 0) × (next ≤ n → more n ≡ 0))
    → IsSound (record all {
      tasks = record (get_or all.tasks place d) { instances = kept }
          ∷ remove all.tasks place;
      next_instance = next;
    })
sound_in_front all place d kept next more sound low some few later count extra = record {
  few = omega (arith, length-remove all.tasks place low, sound.few);
  filled = All-cons IsFilled front (remove all.tasks place) (some, few)
      (All_rest IsFilled all.tasks place sound.filled);
  tasks_once = λ (n : ℕ). omega (arith, tasks n, sound.tasks_once n);
  tasks_below = λ (n : ℕ) (beyond : all.next_task ≤ n). omega (arith, tasks n, sound.tasks_below n beyond);
  instances_once = λ (n : ℕ). rises_once (count_of n (front ∷ remove all.tasks place)) (count_of n all.tasks) (more n)
      all.next_instance n (rises n) (sound.instances_once n) ((extra n).0) ((extra n).1) (sound.instances_below n);
  instances_below = λ (n : ℕ) (beyond : next ≤ n).
      let none : more n ≡ 0 = (extra n).2 beyond in
      let before : count_of n all.tasks ≡ 0 = sound.instances_below n (omega arith) in
      let most = rises n in
      omega arith;
}
  where
    front : Task
    front = record (get_or all.tasks place d) { instances = kept }

    tasks : (n : ℕ) → count_tasks n (front ∷ remove all.tasks place) + tick (eqb (get_or all.tasks place d).number n)
        ≡ tick (eqb (get_or all.tasks place d).number n) + count_tasks n all.tasks
    tasks n = counted_in_front (λ (task : Task). tick (eqb task.number n)) all.tasks place d front low

    instances : (n : ℕ) → count_of n (front ∷ remove all.tasks place) + count_in n (get_or all.tasks place d)
        ≡ count_by (is_number n) kept + count_of n all.tasks
    instances n = counted_in_front (count_in n) all.tasks place d front low

    rises : (n : ℕ) → count_of n (front ∷ remove all.tasks place) ≤ count_of n all.tasks + more n
    rises n =
        let whole = instances n in
        let part = count n in
        omega arith

-- one at its own number, none elsewhere
abbrev pub one_at : ℕ → ℕ → ℕ
one_at number n = tick (eqb number n)

one_at_most : (number n : ℕ) → one_at number n ≤ 1
one_at_most number n = by (eqb number n)
  where
    by : (b : Bool) → tick b ≤ 1
    by true = omega arith
    by false = omega arith

one_not_below : (number n : ℕ) → n < number → one_at number n ≡ 0
one_not_below number n low = by (eqb number n) refl
  where
    by : (b : Bool) → eqb number n ≡ b → tick b ≡ 0
    by true is = let same = eqb-true number n is in absurd (omega arith)
    by false is = refl

one_not_above : (number n : ℕ) → number + 1 ≤ n → one_at number n ≡ 0
one_not_above number n high = by (eqb number n) refl
  where
    by : (b : Bool) → eqb number n ≡ b → tick b ≡ 0
    by true is = let same = eqb-true number n is in absurd (omega arith)
    by false is = refl

-- one at the next number, and none from the one after it on
pub one_next : (number n : ℕ) → (one_at number n ≤ 1) × (n < number → one_at number n ≡ 0)
    × (number + 1 ≤ n → one_at number n ≡ 0)
one_next number n = (one_at_most number n, one_not_below number n, one_not_above number n)

-- if one with the next number is counted too, none is counted twice, and none from the one after it on
counted_once : (new old : ℕ → ℕ) (next : ℕ) → ((n : ℕ) → new n ≡ one_at next n + old n) → ((n : ℕ) → old n ≤ 1)
    → ((n : ℕ) → next ≤ n → old n ≡ 0)
    → (n : ℕ) → new n ≤ 1
counted_once new old next rises once below n =
    let most = rises n in
    rises_once (new n) (old n) (one_at next n) next n (omega arith) (once n) (one_at_most next n) (one_not_below next n)
    (below n)

counted_below : (new old : ℕ → ℕ) (next : ℕ) → ((n : ℕ) → new n ≡ one_at next n + old n)
    → ((n : ℕ) → next ≤ n → old n ≡ 0)
    → (n : ℕ) → next + 1 ≤ n → new n ≡ 0
counted_below new old next rises below n beyond =
    let none = one_not_above next n beyond in
    let before : old n ≡ 0 = below n (omega arith) in
    rises n ∙ omega arith

-- a new task in front of all others
pub sound_new_task : (all : Tasks) (start : StartCall) (single : Bool) → IsSound all → length all.tasks < 64
    → IsSound (record {
      tasks = new_task all.next_task all.next_instance start single ∷ all.tasks;
      next_task = all.next_task + 1;
      next_instance = all.next_instance + 1;
    })
sound_new_task all start single sound room = record {
  few = omega arith;
  filled = All-cons IsFilled made all.tasks (omega arith, omega arith) sound.filled;
  tasks_once = counted_once (λ (n : ℕ). count_tasks n (made ∷ all.tasks)) (λ (n : ℕ). count_tasks n all.tasks)
      all.next_task tasks sound.tasks_once sound.tasks_below;
  tasks_below = counted_below (λ (n : ℕ). count_tasks n (made ∷ all.tasks)) (λ (n : ℕ). count_tasks n all.tasks)
      all.next_task tasks sound.tasks_below;
  instances_once = counted_once (λ (n : ℕ). count_of n (made ∷ all.tasks)) (λ (n : ℕ). count_of n all.tasks)
      all.next_instance instances sound.instances_once sound.instances_below;
  instances_below = counted_below (λ (n : ℕ). count_of n (made ∷ all.tasks)) (λ (n : ℕ). count_of n all.tasks)
      all.next_instance instances sound.instances_below;
}
  where
    made : Task
    made = new_task all.next_task all.next_instance start single

    tasks : (n : ℕ) → count_tasks n (made ∷ all.tasks) ≡ one_at all.next_task n + count_tasks n all.tasks
    tasks n = sum_by-cons (λ (task : Task). tick (eqb task.number n)) made all.tasks

    alone : (n : ℕ) → count_in n made ≡ one_at all.next_instance n
    alone n = omega (arith, sum_by-cons (λ (i : Instance). tick (eqb i.number n)) (fresh all.next_instance start) [])

    instances : (n : ℕ) → count_of n (made ∷ all.tasks) ≡ one_at all.next_instance n + count_of n all.tasks
    instances n = sum_by-cons (count_in n) made all.tasks ∙ ap (λ k. k + count_of n all.tasks) (alone n)

-- with an element a list has one
some_there : {X : Type 0} (xs : List X) → is_empty xs ≡ false → 1 ≤ length xs
some_there [] some = absurd cc
some_there (x ∷ xs) some = omega arith

none_there : {X : Type 0} (xs : List X) → 1 ≤ length xs → is_empty xs ≡ false
none_there [] some = absurd (omega arith)
none_there (x ∷ xs) some = refl

module _ (keeps : Instance → Bool) where
  -- no count rises if instances end
  counted_left : (f : Task → ℕ) → ((task : Task) → f (keeping keeps task) ≤ f task) → (tasks : List Task)
      → sum_by f (tasks_keeping keeps tasks) ≤ sum_by f tasks
  counted_left f less [] = omega arith
  counted_left f less (task ∷ others) = by (not (is_empty (filter keeps task.instances))) (counted_left f less others)
    where
      by : (b : Bool) → sum_by f (tasks_keeping keeps others) ≤ sum_by f others
          → sum_by f (cond b (keeping keeps task ∷ tasks_keeping keeps others) (tasks_keeping keeps others)) ≤ sum_by f
          (task ∷ others)
      by true rest = omega (
        arith,
        rest,
        less task,
        sum_by-cons f (keeping keeps task) (tasks_keeping keeps others),
        sum_by-cons f task others,
      )
      by false rest = omega (arith, rest, sum_by-cons f task others)

  -- a filter doesn't leave more
  counted_filter : (g : Instance → ℕ) (xs : List Instance) → sum_by g (filter keeps xs) ≤ sum_by g xs
  counted_filter g [] = omega arith
  counted_filter g (x ∷ xs) = by (keeps x) (counted_filter g xs)
    where
      by : (b : Bool) → sum_by g (filter keeps xs) ≤ sum_by g xs → sum_by g
          (cond b (x ∷ filter keeps xs) (filter keeps xs)) ≤ sum_by g (x ∷ xs)
      by true rest = omega (arith, rest, sum_by-cons g x (filter keeps xs), sum_by-cons g x xs)
      by false rest = omega (arith, rest, sum_by-cons g x xs)

  fewer : (xs : List Instance) → length (filter keeps xs) ≤ length xs
  fewer xs = omega (arith, length-filter keeps xs, count_by-le-length keeps xs)

  filled_left : (tasks : List Task) → All IsFilled tasks → All IsFilled (tasks_keeping keeps tasks)
  filled_left [] filled = All-nil IsFilled
  filled_left (task ∷ others) filled = by (is_empty (filter keeps task.instances)) refl
      (filled_left others (All-tail IsFilled task others filled))
    where
      room : IsFilled task
      room = All-head IsFilled task others filled

      by : (b : Bool) → is_empty (filter keeps task.instances) ≡ b → All IsFilled (tasks_keeping keeps others)
          → All IsFilled (cond (not b) (keeping keeps task ∷ tasks_keeping keeps others) (tasks_keeping keeps others))
      by true is rest = rest
      by false is rest =
          All-cons IsFilled (keeping keeps task) (tasks_keeping keeps others)
          (some_there (filter keeps task.instances) is, omega (arith, fewer task.instances, room.1))
          rest

  fewer_tasks : (tasks : List Task) → length (tasks_keeping keeps tasks) ≤ length tasks
  fewer_tasks tasks =
      let emptied : List Task = map (keeping keeps) tasks in
      let kept : Task → Bool = λ (task : Task). not (is_empty task.instances) in
      omega (arith, length-filter kept emptied, count_by-le-length kept emptied, length-map tasks (keeping keeps))

  -- instances that end leave all sound
  pub sound_left : (all : Tasks) → IsSound all → IsSound (record all { tasks = tasks_keeping keeps all.tasks })
  sound_left all sound = record {
    few = omega (arith, fewer_tasks all.tasks, sound.few);
    filled = filled_left all.tasks sound.filled;
    tasks_once = λ (n : ℕ). omega (arith, tasks n, sound.tasks_once n);
    tasks_below = λ (n : ℕ) (beyond : all.next_task ≤ n). omega (arith, tasks n, sound.tasks_below n beyond);
    instances_once = λ (n : ℕ). omega (arith, instances n, sound.instances_once n);
    instances_below = λ (n : ℕ) (beyond : all.next_instance ≤ n). omega
        (arith, instances n, sound.instances_below n beyond);
  }
    where
      tasks : (n : ℕ) → count_tasks n (tasks_keeping keeps all.tasks) ≤ count_tasks n all.tasks
      tasks n = counted_left (λ (task : Task). tick (eqb task.number n)) (λ task. omega arith) all.tasks

      instances : (n : ℕ) → count_of n (tasks_keeping keeps all.tasks) ≤ count_of n all.tasks
      instances n = counted_left (count_in n) (λ task. counted_filter (λ (i : Instance). tick (eqb i.number n))
          task.instances) all.tasks

-- so no task is without an instance
pub sound_inhabited : (tasks : List Task) → All IsFilled tasks → AreInhabited tasks
sound_inhabited [] filled = tt
sound_inhabited (task ∷ others) filled = (
  none_there task.instances (All-head IsFilled task others filled).0,
  sound_inhabited others
      (All-tail IsFilled task others filled),
)
