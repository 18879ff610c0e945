use Rattle.std.proofs.Common.{◌∙◌, ap, arith}
use Rattle.am_model.specs.Pendings.{Pendings, count_of, without_token}
use Rattle.am_pending.specs.Records.{count_at, token_at, token_in}
use Rattle.am_pending.proofs.Indexing.{besides}
use Rattle.am_pending.proofs.pendings.Pending.count_besides.Goals as goal

pub returns : goal.returns
returns c =
    let has = ap (λ (all : Pendings). token_in c.args.key.now all.records) c.self.view_is ∙ c.requires in
    let e = besides c.self.inside.records (token_at c.self.inside.tokens.entries)
    (count_at c.self.inside.counts.entries) c.self.inside.next c.args.old c.args.key.now c.self.invariant has in
    let v = ap (λ (all : Pendings). count_of all.records c.args.key.now.creator) c.self.view_is in
    let w = ap (λ (all : Pendings). count_of (without_token all.records c.args.old) c.args.key.now.creator)
    c.self.view_is in
    let k = c.self.invariant.counted c.args.key.now.creator in
    let l = c.count_of.ensures in
    let m = c.saturating_sub.ensures in
    omega (arith, e, v, w, k, l, m)
