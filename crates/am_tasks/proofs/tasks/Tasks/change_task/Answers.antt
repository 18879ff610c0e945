use Rattle.std.proofs.Common.{◌≡◌, ◌<◌, length, get_or, take, None, ap, sym, ◌∙◌, subst, arith}
use Rattle.am_model.specs.Tasks.{Task, Tasks}
use Rattle.am_model.specs.Placement.{carried_out, too_full}
use Rattle.am_model.specs.Placement as model
use Rattle.am_tasks.specs.declared.plan.Change.{Change}
use Rattle.am_tasks.specs.Plans.{change_in}
use Rattle.am_tasks.specs.Sound.{IsSound}
use Rattle.am_tasks.proofs.Fullness.{fresh_at, room_on_top}
use Rattle.am_tasks.proofs.Outcomes.{if_ok}
use Rattle.am_tasks.proofs.Soundness.{instances_stand_once, room_at}
use Rattle.am_tasks.proofs.tasks.Tasks.change_task.Goals as goal

pub put_fresh-requires-in-FreshAt-clause-fits : goal.put_fresh-requires-in-FreshAt-clause-fits
put_fresh-requires-in-FreshAt-clause-fits c =
    λ d.
    let within : c.in-FreshAt.kept < length (get_or c.args.self.now.tasks c.args.place d).instances = rw c.in-FreshAt.is
    at (c.requires.fits d) in
    omega arith

pub put_fresh-requires-in-FreshAt-clause-room : goal.put_fresh-requires-in-FreshAt-clause-room
put_fresh-requires-in-FreshAt-clause-room c =
    let d : Task = c.index-task.result.now in
    let within : c.in-FreshAt.kept < length (get_or c.args.self.now.tasks c.args.place d).instances = rw c.in-FreshAt.is
    at (c.requires.fits d) in
    let room = room_at c.args.self.now c.args.place d (subst IsSound c.self.view_is c.self.invariant) c.requires.within
    in
    omega (arith, room.1)

pub put_fresh-requires-in-FreshOnTop-clause-room : goal.put_fresh-requires-in-FreshOnTop-clause-room
put_fresh-requires-in-FreshOnTop-clause-room c =
    let d : Task = c.index-task.result.now in
    let task : Task = get_or c.args.self.now.tasks c.args.place d in
    let free : too_full c.args.self.now (model.FreshOn task task.instances)
    ≡ None = rw c.in-FreshOnTop.is at (c.requires.room d) in
    let room : length task.instances < 64 = room_on_top c.args.self.now task free in
    let here : d ≡ task = subst (λ (t : Tasks). d ≡ get_or t.tasks c.args.place d) c.self.view_is c.index-task.ensures
    in
    let same : length c.task.inside.instances.items ≡ length task.instances = ap (λ (t : Task). length t.instances)
    (c.task.view_is ∙ here) in
    omega (arith, room, same, c.len-all.ensures, c.task.inside.instances.ok.0)

pub renew-requires-clause-fits : goal.renew-requires-clause-fits
renew-requires-clause-fits c = λ d. rw c.in-NewIntent.is at (c.requires.fits d)

pub returns-in-FreshAt-clause-done : goal.returns-in-FreshAt-clause-done
returns-in-FreshAt-clause-done c =
    let sound : IsSound c.args.self.now = subst IsSound c.self.view_is c.self.invariant in
    if_ok c.put_fresh-in-FreshAt.result _ _
    (λ landed done d.
    let task : Task = get_or c.args.self.now.tasks c.args.place d in
    let within : c.in-FreshAt.kept < length task.instances = rw c.in-FreshAt.is at (c.requires.fits d) in
    let plan : change_in task c.args.change ≡ model.FreshOn task (take c.in-FreshAt.kept task.instances) =
    ap (change_in task) c.in-FreshAt.is ∙ fresh_at task c.in-FreshAt.kept
    (instances_stand_once c.args.self.now c.args.place d sound c.requires.within) within in
    done d ∙ ap (carried_out c.args.self.now c.args.start) (sym plan))
    c.put_fresh-in-FreshAt.ensures.done

pub returns-in-OnlyFronted-clause-done : goal.returns-in-OnlyFronted-clause-done
returns-in-OnlyFronted-clause-done c =
    λ d. c.bring_to_front.ensures c.args.start d ∙ ap (λ (change : Change). carried_out c.args.self.now c.args.start
    (change_in (get_or c.args.self.now.tasks c.args.place d) change)) (sym c.in-OnlyFronted.is)
