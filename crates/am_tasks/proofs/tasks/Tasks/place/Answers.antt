use Rattle.std.proofs.Common.{ap, sym, ◌∙◌, Ok}
use Rattle.am_tasks.proofs.NumberLemmas.{place_rises}
use Rattle.am_tasks.proofs.RootLemmas.{place_keeps}
use Rattle.am_tasks.proofs.tasks.Tasks.place.Goals as goal

pub returns-in-Ok-clause-roots : goal.returns-in-Ok-clause-roots
returns-in-Ok-clause-roots c =
    λ component mode. place_keeps component c.args.self.now c.carry_out.new.self c.args.start c.in-Ok.landed
    (c.in_ok-plan.ensures.placed ∙ ap Ok (sym c.in-Ok.ensures.done)) mode

pub returns-in-Ok-clause-next : goal.returns-in-Ok-clause-next
returns-in-Ok-clause-next c = place_rises c.args.self.now c.carry_out.new.self c.args.start c.in-Ok.landed
    (c.in_ok-plan.ensures.placed ∙ ap Ok (sym c.in-Ok.ensures.done))
