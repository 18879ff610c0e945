use Rattle.am_pending.specs.Records.{count_at, pending_of, token_at}
use Rattle.am_pending.proofs.Indexing.{unlisted}
use Rattle.am_pending.proofs.pendings.Pending.cancel.Goals as goal

pub invariant_of-self : goal.invariant_of-self
invariant_of-self g c =
    unlisted c.self.inside.records _ (token_at c.self.inside.tokens.entries) (token_at c.unlist.new.tokens.entries)
    (count_at c.self.inside.counts.entries) (count_at c.unlist.new.counts.entries) c.self.inside.next c.args.token
    (pending_of c.args.token c.in-Ok.gone)
    c.self.invariant c.in-Ok.ensures.found c.in-Ok.ensures.others c.key.ensures c.unlist.ensures.tokens
    c.unlist.ensures.counts
