use Rattle.std.proofs.Common.{◌≡◌, ℕ, ◌<◌, IfSome, Option, ap, length, sym, ◌∙◌, subst}
use Rattle.std.specs.List.{position}
use Rattle.am_model.specs.Tasks.{Tasks}
use Rattle.am_model.specs.Placement.{source_task}
use Rattle.am_tasks.specs.Finds.{at, has_number}
use Rattle.am_tasks.proofs.Finding.{found_at, found_within}
use Rattle.am_tasks.proofs.Sources.{let_in, needs_new_task, no_source, let_in_from, not_yours}
use Rattle.am_tasks.proofs.tasks.Tasks.source.Goals as goal

pub returns-in-None-clause-allowed : goal.returns-in-None-clause-allowed
returns-in-None-clause-allowed c = let_in c.args.self.now c.args.start.now c.in-None.is c.if-start.true

pub returns-in-None-2-clause-refused : goal.returns-in-None-2-clause-refused
returns-in-None-2-clause-refused c = needs_new_task c.args.self.now c.args.start.now c.in-None.is c.if-start.false

pub returns-in-None-owner-clause-refused : goal.returns-in-None-owner-clause-refused
returns-in-None-owner-clause-refused c = no_source c.args.self.now c.args.start.now c.in-Some.number c.in-Some.is
    (sym c.in-None-owner.ensures)

pub returns-in-Some-owner-clause-found : goal.returns-in-Some-owner-clause-found
returns-in-Some-owner-clause-found c =
    let place : c.task_of.result ≡ position (has_number c.in-Some.number) c.self.inside.tasks.items = rw
    c.deref.ensures.value at c.task_of.ensures in
    ap (at c.args.self.now.tasks) (place ∙ ap (λ (t : Tasks). position (has_number c.in-Some.number) t.tasks)
    c.self.view_is)
    ∙ found_at (has_number c.in-Some.number) c.args.self.now.tasks
    ∙ ap (source_task c.args.self.now.tasks) (sym c.in-Some.is)

pub returns-in-Some-owner-clause-within : goal.returns-in-Some-owner-clause-within
returns-in-Some-owner-clause-within c =
    let place : c.task_of.result ≡ position (has_number c.in-Some.number) c.self.inside.tasks.items = rw
    c.deref.ensures.value at c.task_of.ensures in
    let same = place ∙ ap (λ (t : Tasks). position (has_number c.in-Some.number) t.tasks) c.self.view_is in
    subst (λ (found : Option ℕ). IfSome found (λ place. place < length c.args.self.now.tasks)) (sym same)
    (found_within (has_number c.in-Some.number) c.args.self.now.tasks)

pub returns-in-Some-owner-clause-allowed : goal.returns-in-Some-owner-clause-allowed
returns-in-Some-owner-clause-allowed c =
    let_in_from c.args.self.now c.args.start.now c.in-Some.number c.in-Some-owner.owner c.in-Some.is
    (sym c.in-Some-owner.ensures)
    (sym c.may_end.ensures ∙ c.if-may_end.true)

pub returns-in-Some-2-clause-refused : goal.returns-in-Some-2-clause-refused
returns-in-Some-2-clause-refused c =
    not_yours c.args.self.now c.args.start.now c.in-Some.number c.in-Some-owner.owner c.in-Some.is
    (sym c.in-Some-owner.ensures)
    (sym c.may_end.ensures ∙ c.if-may_end.false)
