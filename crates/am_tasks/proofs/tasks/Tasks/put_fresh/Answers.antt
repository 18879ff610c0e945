use Rattle.std.proofs.Common.{◌+◌, ◌≤◌, ◌∷◌, [], ◌++◌, List, length, get_or, take, ap, sym, ◌∙◌, subst}
use Rattle.std.specs.List.{remove}
use Rattle.am_types.specs.declared.task.Landed.{Landed}
use Rattle.am_types.specs.declared.task.Placed.TheVariants.{Fresh}
use Rattle.am_model.specs.Tasks.{Instance, Task, Tasks}
use Rattle.am_model.specs.Placement.{fresh}
use Rattle.am_tasks.proofs.Finding.{at_there}
use Rattle.am_tasks.proofs.Carrying.{brought, sound_put, pair_of}
use Rattle.am_tasks.proofs.Held.{held, within_held}
use Rattle.am_tasks.proofs.tasks.Tasks.put_fresh.Goals as goal

pub invariant_of-self-2 : goal.invariant_of-self-2
invariant_of-self-2 c =
    let all : Tasks = held c.self.inside in
    let low = within_held c.args.place c.self.view_is c.requires.within in
    let d : Task = (at_there all.tasks c.args.place low).0 in
    let fits : c.args.kept ≤ length (get_or all.tasks c.args.place d).instances =
    subst (λ (t : Tasks). c.args.kept ≤ length (get_or t.tasks c.args.place d).instances) (sym c.self.view_is)
    (c.requires.fits d) in
    rw ((c.in_ok-task.ensures.ok d).1, c.in_ok-made.ensures) (sound_put all c.args.place c.args.kept d c.args.start
    c.self.invariant low fits c.requires.room)

pub returns-clause-done : goal.returns-clause-done
returns-clause-done c =
    λ d.
    let all : Tasks = held c.self.inside in
    let low = within_held c.args.place c.self.view_is c.requires.within in
    let task : Task = get_or all.tasks c.args.place d in
    let kept : List Instance = take c.args.kept task.instances in
    let ok = c.in_ok-task.ensures.ok d in
    let landed = ap (λ n. let l : Landed = record { how = Fresh; task = n; instance = all.next_instance } in l) ok.0 in
    let made = ap (λ (i : Instance). let t : Task = record task { instances = kept ++ i ∷ [] } in t
    ∷ remove all.tasks c.args.place) c.in_ok-made.ensures in
    let tasks = ok.1 ∙ made ∙ brought all c.args.place d (kept ++ fresh all.next_instance c.args.start ∷ [])
    c.self.invariant low in
    rw (← c.self.view_is) (pair_of _ _ _ _ landed (ap (λ l. let t : Tasks = record all
    { tasks = l; next_instance = all.next_instance + 1 } in t) tasks))
