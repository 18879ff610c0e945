use Rattle.std.proofs.Common.{◌∙◌, ap, subst, sym}
use Rattle.std.specs.Prelude.{IsOk}
use Rattle.std.specs.Option.{option_copied}
use Rattle.am_model.specs.Intents.{fill_in}
use Rattle.am_pending.specs.Records.{pending_of}
use Rattle.am_pending.proofs.Using.{lent_mutable, ran_out_filling}
use Rattle.am_pending.proofs.pendings.lent.Goals as goal

pub returns-in-Some-clause-ran_out : goal.returns-in-Some-clause-ran_out
returns-in-Some-clause-ran_out c want =
    subst IsOk
    (sym (lent_mutable (pending_of 0 c.args.kept.now) (option_copied c.args.fill) c.in-Some.fill.now
    (ap option_copied c.in-Some.is) (ap (λ key. key.mutable) (sym c.key-key.ensures) ∙ c.if-key.true)))
    (subst (λ key. IsOk (fill_in key.intent c.in-Some.fill.now)) c.key-key.ensures
    (ran_out_filling c.key-key.result.now.intent c.in-Some.fill.now c.fill_in.result want c.fill_in.ensures.full.1))
