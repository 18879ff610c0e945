use Rattle.std.proofs.Common.{rules, ap, ◌∙◌}
use Rattle.std.proofs.lemmas.Fn.{filter_same}
use Rattle.am_pending.specs.Records.{Kept, let_go_by}
use Rattle.am_pending.proofs.record.Record.let_go.Goals as goal

pub returns : goal.returns
returns c =
    ap (λ holders. let k : Kept = record { key = c.self.inside.key; holders = holders } in k)
    (filter_same _ _ _ (λ x b f' k. search rules) _ _ c.retain.ensures.filtered)
    ∙ ap (let_go_by c.args.uid) c.self.view_is
