use Rattle.std.proofs.Common.{◌≡◌, get_or, ap, ◌∙◌}
use Rattle.am_types.specs.declared.task.Landed.{Landed}
use Rattle.am_types.specs.declared.task.Placed.TheVariants.{Fronted}
use Rattle.am_model.specs.Tasks.{Task, Tasks, top_of}
use Rattle.am_model.specs.Placement.{number_of}
use Rattle.am_tasks.proofs.Carrying.{brought, sound_fronted, pair_of, same_at}
use Rattle.am_tasks.proofs.Held.{held, within_held}
use Rattle.am_tasks.proofs.tasks.Tasks.bring_to_front.Goals as goal

pub invariant_of-self : goal.invariant_of-self
invariant_of-self c =
    let all : Tasks = held c.self.inside in
    let low = within_held c.args.place c.self.view_is c.requires.within in
    rw (c.to_front.ensures c.index.result.now) (sound_fronted all c.args.place c.index.result.now c.self.invariant low)

pub returns : goal.returns
returns c =
    λ start d.
    let all : Tasks = held c.self.inside in
    let low = within_held c.args.place c.self.view_is c.requires.within in
    let task : Task = get_or all.tasks c.args.place d in
    let is : c.index.result.now ≡ task = same_at all.tasks c.args.place c.index.result.now d low c.index.ensures in
    let landed = c.fronted-landed.ensures ∙ ap (λ (t : Task). let l : Landed = record
    { how = Fronted; task = t.number; instance = number_of (top_of t) } in l) is in
    let tasks = c.to_front.ensures d ∙ brought all c.args.place d task.instances c.self.invariant low in
    rw (← c.self.view_is) (pair_of _ _ _ _ landed (ap (λ l. let t : Tasks = record all { tasks = l } in t) tasks))
