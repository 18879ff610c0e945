use Rattle.am_pending.specs.Records.{count_at, token_at}
use Rattle.am_pending.proofs.Using.{given-indexed}
use Rattle.am_pending.proofs.pendings.Pending.give.Goals as goal

pub invariant_of-self : goal.invariant_of-self
invariant_of-self g c =
    given-indexed (token_at c.self.inside.tokens.entries) (count_at c.self.inside.counts.entries) c.self.inside.next
    c.args.token c.args.uid c.args.to
    c.self.inside.records c.give.new.self c.give.result (c.give.ensures.answer c.self.inside.next) c.self.invariant
