use Rattle.std.proofs.Common.{◌<◌, ◌∷◌, List, length, get_or, refl, ap, sym, ◌∙◌, subst}
use Rattle.std.specs.List.{remove}
use Rattle.am_types.specs.declared.intent.Intent.{Intent}
use Rattle.am_model.specs.Tasks.{Instance, Task, Tasks}
use Rattle.am_model.specs.Placement.{with_intent}
use Rattle.am_tasks.specs.Plans.{kept_by, number_at}
use Rattle.am_tasks.proofs.Finding.{at_there}
use Rattle.am_tasks.proofs.Soundness.{instances_stand_once}
use Rattle.am_tasks.proofs.Carrying.{brought, sound_renewed, pair_of}
use Rattle.am_tasks.proofs.Held.{held, within_held}
use Rattle.am_tasks.proofs.tasks.Tasks.renew.Goals as goal

pub renew_in-task-requires-clause-once : goal.renew_in-task-requires-clause-once
renew_in-task-requires-clause-once c =
    let all : Tasks = held c.self.inside in
    let low = within_held c.args.place c.self.view_is c.requires.within in
    λ d n. (instances_stand_once all c.args.place d c.self.invariant low).once n

pub invariant_of-self : goal.invariant_of-self
invariant_of-self c =
    let all : Tasks = held c.self.inside in
    let low = within_held c.args.place c.self.view_is c.requires.within in
    let d : Task = (at_there all.tasks c.args.place low).0 in
    let there : c.args.instance < length (get_or all.tasks c.args.place d).instances =
    subst (λ (t : Tasks). c.args.instance < length (get_or t.tasks c.args.place d).instances) (sym c.self.view_is)
    (c.requires.fits d) in
    rw ((c.renew_in-task.ensures d).2) (sound_renewed all c.args.place d c.args.keeping c.args.instance
    c.renew_in-task.result.1 c.args.intent c.self.invariant low there)

pub returns : goal.returns
returns c =
    λ start same d.
    let all : Tasks = held c.self.inside in
    let low = within_held c.args.place c.self.view_is c.requires.within in
    let task : Task = get_or all.tasks c.args.place d in
    let kept : List Instance = kept_by c.args.keeping c.args.instance task.instances in
    let done = c.renew_in-task.ensures d in
    let made = ap (λ n. let t : Task = record task { instances = with_intent n c.args.intent kept } in t
    ∷ remove all.tasks c.args.place) done.1 in
    let given = ap (λ (i : Intent). let t : Task = record task {
      instances = with_intent
          (number_at task.instances c.args.instance) i kept;
    } in t ∷ remove all.tasks c.args.place) (sym same) in
    let tasks = done.2 ∙ made ∙ given ∙ brought all c.args.place d
    (with_intent (number_at task.instances c.args.instance) start.intent kept) c.self.invariant low in
    rw (← c.self.view_is)
    (pair_of _ _ _ _
    (rw (done.0, done.1) refl)
    (ap (λ l. let t : Tasks = record all { tasks = l } in t) tasks))
