-- Going back, by the number of what is seen.
use Rattle.std.proofs.Common.{◌≡◌, ℕ, [], Option, Some, None, refl, sym, ◌∙◌}
use Rattle.std.specs.Prelude.{option_map}
use Rattle.am_model.specs.Tasks.{Instance, Tasks, tasks_keeping, seen, back, back_from}
use Rattle.am_model.proofs.TaskLaws.{back_ends_one}
use Rattle.am_tasks.specs.declared.leave.Leaving.TheVariants.{Numbered}
use Rattle.am_tasks.specs.Leaving.{stays}
use Rattle.am_tasks.specs.Sound.{IsSound}
use Rattle.am_tasks.proofs.Soundness.{sound_inhabited}

-- the number of an instance, if there is one
abbrev pub seen_number : Option Instance → Option ℕ
seen_number found = option_map (λ (i : Instance). i.number) found

-- what is answered is the number of what is seen
answers_seen : (all : Tasks) (found : Option Instance) → (back_from all found).0 ≡ seen_number found
answers_seen all None = refl
answers_seen all (Some instance) = refl

-- if nothing is seen, there is no task
pub nothing_seen : (all : Tasks) → IsSound all → None ≡ seen_number (seen all.tasks) → all.tasks ≡ []
nothing_seen all sound none = back_ends_one all (sound_inhabited all.tasks sound.filled)
    (answers_seen all (seen all.tasks) ∙ sym none)

-- if something is seen, it is ended
pub ends_seen : (all after : Tasks) (number : ℕ) → Some number ≡ seen_number (seen all.tasks) → after
    ≡ record all { tasks = tasks_keeping (stays (Numbered number)) all.tasks }
    → ◌≡◌ {A = Option ℕ × Tasks} (Some number, after) (back all)
ends_seen all after number is ended = by (seen all.tasks) is
  where
    by : (found : Option Instance) → Some number ≡ seen_number found
        → ◌≡◌ {A = Option ℕ × Tasks} (Some number, after) (back_from all found)
    by None is = absurd cc
    by (Some instance) is =
        let same : number ≡ instance.number = cc in
        rw (ended, same) refl
