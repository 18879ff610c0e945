use Rattle.std.proofs.Common.{◌≡◌, ◌∙◌, List, None, ap, option_map, subst, sym}
use Rattle.am_model.specs.Pendings.{Pending}
use Rattle.am_pending.specs.Records.{IsIndexed, count_at, is_token, pending_of, record_in, token_at}
use Rattle.am_pending.proofs.Lists.{any-none, filter-none}
use Rattle.am_pending.proofs.Indexing.{unlisted}
use Rattle.am_pending.proofs.pendings.Pending.remove.Goals as goal

pub invariant_of-self : goal.invariant_of-self
invariant_of-self g c =
    unlisted c.self.inside.records _ (token_at c.self.inside.tokens.entries) (token_at c.unlist.new.tokens.entries)
    (count_at c.self.inside.counts.entries) (count_at c.unlist.new.counts.entries) c.self.inside.next c.args.token
    (pending_of c.args.token c.in-Some.gone)
    c.self.invariant (sym c.take.ensures.found ∙ ap (option_map (pending_of c.args.token)) c.in-Some.is)
    c.take.ensures.others
    c.key.ensures c.unlist.ensures.tokens c.unlist.ensures.counts

pub invariant_of-self-in_default : goal.invariant_of-self-in_default
invariant_of-self-in_default g c =
    let records = c.self.inside.records in
    let none : record_in c.args.token records ≡ None = sym c.take.ensures.found
    ∙ ap (option_map (pending_of c.args.token)) c.in_default.is in
    subst (λ (all : List Pending). IsIndexed all (token_at c.self.inside.tokens.entries)
    (count_at c.self.inside.counts.entries) c.self.inside.next)
    (sym (c.take.ensures.others ∙ filter-none (is_token c.args.token) records
    (any-none (is_token c.args.token) records none))) c.self.invariant
