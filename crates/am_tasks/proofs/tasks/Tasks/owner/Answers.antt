use Rattle.std.proofs.Common.{◌≡◌, sym, ◌∙◌, ap, Some, None}
use Rattle.std.specs.List.{position}
use Rattle.am_model.specs.Tasks.{Tasks, Task, owner_in, instance_in}
use Rattle.am_tasks.specs.Finds.{has_number}
use Rattle.am_tasks.proofs.Owners.{owner_none, owner_at}
use Rattle.am_tasks.proofs.Held.{held}
use Rattle.am_tasks.proofs.tasks.Tasks.owner.Goals as goal

pub returns-in_err-place : goal.returns-in_err-place
returns-in_err-place c =
    let none : position (has_number c.args.instance) c.self.inside.tasks.items
    ≡ None = sym (rw c.deref.ensures.value at c.in_err-place.ensures) in
    let all : Tasks = held c.self.inside in
    rw (← c.self.view_is) (c.from_residual.ensures ∙ sym (owner_none all c.args.instance none))

pub returns : goal.returns
returns c =
    let found : position (has_number c.args.instance) c.self.inside.tasks.items
    ≡ Some c.in_ok-place.place = sym (rw c.deref.ensures.value at c.in_ok-place.ensures) in
    let all : Tasks = held c.self.inside in
    rw (← c.self.view_is)
    (c.owner_in.ensures
    ∙ ap (λ (t : Task). owner_in (instance_in c.args.instance t)) c.index.ensures
    ∙ sym (owner_at all c.args.instance c.in_ok-place.place c.index.result.now found))
