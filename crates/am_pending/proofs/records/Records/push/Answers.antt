use Rattle.std.proofs.Common.{◌∙◌, ◌<◌, ◌++◌, ◌∷◌, [], All, List, ap, subst, sym}
use Rattle.std.specs.Result.{is_err}
use Rattle.am_model.specs.Pendings.{Pending}
use Rattle.am_pending.specs.Records.{pending_of, pendings_of}
use Rattle.am_types.proofs.Results.{from_ok}
use Rattle.am_pending.proofs.Changes.{inserted}
use Rattle.am_pending.proofs.records.Records.push.Goals as goal

pub returns-in-Ok-clause-ok : goal.returns-in-Ok-clause-ok
returns-in-Ok-clause-ok c =
    ap pendings_of (from_ok c.insert.result c.insert.ensures.entries (ap is_err c.in-Ok.is))
    ∙ inserted c.args.token c.args.kept c.self.inside.by_token.entries
    (subst (All (λ (kept : Pending). kept.token < c.args.token)) (sym c.self.view_is) c.requires)
    ∙ ap (λ (all : List Pending). all ++ pending_of c.args.token c.args.kept ∷ []) c.self.view_is
