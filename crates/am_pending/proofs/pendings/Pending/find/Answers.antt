use Rattle.std.proofs.Common.{◌∙◌, ap}
use Rattle.am_model.specs.Pendings.{Pendings}
use Rattle.am_pending.specs.Records.{token_in}
use Rattle.am_pending.proofs.pendings.Pending.find.Goals as goal

pub returns-clause-found : goal.returns-clause-found
returns-clause-found g c =
    c.copied.ensures
    ∙ c.get.ensures.value
    ∙ c.self.invariant.found c.args.key.now
    ∙ ap (λ (all : Pendings). token_in c.args.key.now all.records) c.self.view_is
