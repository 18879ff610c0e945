-- Who owns an instance.
use Rattle.std.proofs.Common.{◌≡◌, ℕ, get_or, Some, None, ap}
use Rattle.std.specs.Prelude.{option_and_then}
use Rattle.std.specs.List.{position}
use Rattle.am_model.specs.Tasks.{Task, Tasks, instance_in, owner, owner_in}
use Rattle.am_tasks.specs.Finds.{has_number}
use Rattle.am_tasks.proofs.Finding.{place_found, none_found}

-- without a task that has it nobody does
pub owner_none : (all : Tasks) (number : ℕ) → position (has_number number) all.tasks ≡ None → owner all number ≡ None
owner_none all number none = ap (λ found. owner_in (option_and_then (instance_in number) found))
    (none_found (has_number number) all.tasks none)

-- otherwise the one that owns it in its task
pub owner_at : (all : Tasks) (number place : ℕ) (d : Task) → position (has_number number) all.tasks ≡ Some place
    → owner all number ≡ owner_in (instance_in number (get_or all.tasks place d))
owner_at all number place d found =
    let here = place_found (has_number number) all.tasks place found in
    ap (λ found. owner_in (option_and_then (instance_in number) found)) (here.is d)
