use Rattle.std.proofs.Common.{◌∙◌, ap, map, rules}
use Rattle.std.proofs.lemmas.Map.Made.{map_same_pairs}
use Rattle.am_model.specs.Pendings.{without_holder}
use Rattle.am_pending.specs.Records.{pendings_of}
use Rattle.am_pending.proofs.Changes.{pendings-let_go}
use Rattle.am_pending.proofs.records.Records.forget_holder.Goals as goal

pub returns : goal.returns
returns c =
    ap pendings_of (map_same_pairs _ _ _ (λ k v b w f' t. search rules) _ _ c.retain.ensures.filtered)
    ∙ pendings-let_go c.args.uid c.self.inside.by_token.entries
    ∙ ap (map (without_holder c.args.uid)) c.self.view_is
