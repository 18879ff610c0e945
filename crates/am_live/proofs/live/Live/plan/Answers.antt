use Rattle.std.proofs.Common.{refl}
use Rattle.std.proofs.lemmas.Result.{IfOk-weaker}
use Rattle.am_live_packages.specs.declared.change.Plan.{Plan}
use Rattle.am_live.proofs.KnownLemmas.{planned_for}
use Rattle.am_live.proofs.live.Live.plan.Goals as goal

pub returns : goal.returns
returns c =
    IfOk-weaker c.plan.result _ _
    (λ (plan : Plan) planned. planned_for _ _ c.args.self.now plan c.args.caller c.args.request.now c.self.view_is refl
    c.requires.sound planned)
    c.plan.ensures
