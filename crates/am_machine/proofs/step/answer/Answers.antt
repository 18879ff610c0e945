use Rattle.std.proofs.Common.{sym, ◌∙◌}
use Rattle.am_machine.proofs.Kept.{leaves_rowless, leaves_unmade, otherwise}
use Rattle.am_machine.proofs.step.answer.Goals as goal

-- a request that keeps no row asks for none
pub returns-in_err-reply-clause-unmade : goal.returns-in_err-reply-clause-unmade
returns-in_err-reply-clause-unmade g c = otherwise c.from_residual.result (leaves_unmade g.K.Keeper c.args.keeper.now)

pub returns-clause-leaves : goal.returns-clause-leaves
returns-clause-leaves g c =
    leaves_rowless g.K.Keeper _ c.args.keeper.now (sym c.keeps_row.ensures ∙ c.if-keeps_row.false)
