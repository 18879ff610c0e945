-- What is kept below an instance leaves room.
use Rattle.std.proofs.Common.{◌≡◌, ℕ, ◌<◌, ◌≤◌, Bool, true, false, not, List, length, get_or, take, cond, Option, Some, None, refl, ap, ◌∙◌, sym, arith, inl, inr, length-take}
use Rattle.std.specs.Prelude.{◌==◌, nat_le}
use Rattle.std.specs.List.{prefix_len}
use Rattle.std.proofs.lemmas.Bool.{eq-eqb, cases_lt, lt-leb, leb-false, not_from_true, both_ways}
use Rattle.std.proofs.lemmas.List.Sums.{prefix_len_passes}
use Rattle.am_model.specs.Tasks.{Instance, Task, Tasks}
use Rattle.am_types.specs.declared.task.PlaceFault.{PlaceFault}
use Rattle.am_types.specs.declared.task.PlaceFault.TheVariants.{TaskFull}
use Rattle.am_model.specs.Placement as model
use Rattle.am_model.specs.Placement.{below, too_full}
use Rattle.am_tasks.specs.declared.plan.Change.TheVariants.{FreshAt}
use Rattle.am_tasks.specs.Plans.{number_at, change_in}
use Rattle.am_tasks.proofs.Finding.{at_there}
use Rattle.am_tasks.proofs.Once.{IsOnce, stands_below}
use Rattle.am_tasks.proofs.Soundness.{instance_number}
use Rattle.am_tasks.proofs.Carrying.{number_there}

-- there are at most as many below an instance as its place tells
short_below : (xs : List Instance) (place : ℕ) → place < length xs → length (below (number_at xs place) xs) ≤ place
short_below xs place low = elim (cases_lt place (prefix_len stands xs)) [
  | inl beyond ↦ absurd (both_ways (stands here) (not_from_true _ (eq-eqb here.number (number_at xs place)
      (sym (number_there xs place d low)))) (prefix_len_passes stands xs place d beyond))
  | inr within ↦ omega (arith, length-take (prefix_len stands xs) xs)
]
  where
    d : Instance
    d = (at_there xs place low).0

    here : Instance
    here = get_or xs place d

    stands : Instance → Bool
    stands i = not (i.number == number_at xs place)

-- so a fresh one in its place finds room
pub room_at_place : (all : Tasks) (task : Task) (place : ℕ) → place < length task.instances → length task.instances ≤ 64
    → too_full all (change_in task (FreshAt place)) ≡ None
room_at_place all task place low most = rw (lt-leb 64 (length (below (number_at task.instances place) task.instances))
    (omega (arith, short_below task.instances place low))) refl

-- if a fresh one on top isn't refused, there is room for it
pub room_on_top : (all : Tasks) (task : Task) → too_full all (model.FreshOn task task.instances) ≡ None
    → length task.instances < 64
room_on_top all task room = by (nat_le 64 (length task.instances)) refl room
  where
    by : (b : Bool) → nat_le 64 (length task.instances) ≡ b → ◌≡◌ {A = Option PlaceFault} (cond b (Some TaskFull) None)
        None → length task.instances < 64
    by true is room = absurd cc
    by false is room = leb-false 64 (length task.instances) is

-- a fresh one in the place of an instance is on top of what is in front of that place
pub fresh_at : (task : Task) (place : ℕ) → IsOnce instance_number task.instances → place < length task.instances
    → change_in task (FreshAt place) ≡ model.FreshOn task (take place task.instances)
fresh_at task place once low =
    let d : Instance = (at_there task.instances place low).0 in
    ap (λ l. model.FreshOn task l) (ap (λ n. below n task.instances) (number_there task.instances place d low)
    ∙ stands_below instance_number task.instances place d once low)
