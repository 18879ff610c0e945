use Rattle.std.proofs.Common.{List, subst, sym}
use Rattle.am_model.specs.Pendings.{Pending, updated}
use Rattle.am_pending.specs.Records.{IsIndexed, count_at, token_at}
use Rattle.am_pending.proofs.Indexing.{mapped, updated-leaves}
use Rattle.am_pending.proofs.pendings.Pending.keep.Goals as goal

pub invariant_of-self : goal.invariant_of-self
invariant_of-self g c =
    subst (λ (all : List Pending). IsIndexed all (token_at c.self.inside.tokens.entries)
    (count_at c.self.inside.counts.entries) c.self.inside.next) (sym c.set_extras.ensures.changed)
    (mapped (updated c.args.token c.into_extras.result) (updated-leaves c.args.token c.into_extras.result)
    c.self.inside.records
    (token_at c.self.inside.tokens.entries) (count_at c.self.inside.counts.entries) c.self.inside.next c.self.invariant)
