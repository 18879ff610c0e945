use Rattle.std.proofs.Common.{◌∙◌, ◌==◌, ap, filter, not, rules}
use Rattle.std.proofs.lemmas.Map.Made.{filter_same_pairs}
use Rattle.am_model.specs.Pendings.{Pending}
use Rattle.am_pending.specs.Records.{pendings_of}
use Rattle.am_pending.proofs.Changes.{pendings-others}
use Rattle.am_pending.proofs.records.Records.forget_creator.Goals as goal

pub returns : goal.returns
returns c =
    ap pendings_of (filter_same_pairs _ _ _ (λ k v b w f' t. search rules) _ _ c.retain.ensures.filtered)
    ∙ pendings-others c.args.uid c.self.inside.by_token.entries
    ∙ ap (filter (λ (kept : Pending). not (kept.creator == c.args.uid))) c.self.view_is
