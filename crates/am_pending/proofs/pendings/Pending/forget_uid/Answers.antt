use Rattle.std.proofs.Common.{◌∙◌, List, ap, map, subst, sym}
use Rattle.am_model.specs.Pendings.{Pending, without_holder}
use Rattle.am_pending.specs.Records.{IsIndexed, count_at, token_at}
use Rattle.am_pending.proofs.Indexing.{mapped, others_left, same_indexed, without_holder-leaves}
use Rattle.am_pending.proofs.pendings.Pending.forget_uid.Goals as goal

pub invariant_of-self : goal.invariant_of-self
invariant_of-self c =
    let f = token_at c.forget_tokens.new.tokens.entries in
    let g = count_at c.forget_count.new.counts.entries in
    subst (λ (all : List Pending). IsIndexed all f g c.self.inside.next)
    (sym (c.forget_holder.ensures ∙ ap (map (without_holder c.args.uid)) c.forget_creator.ensures))
    (same_indexed _ _ f _ g c.self.inside.next
    (mapped (without_holder c.args.uid) (without_holder-leaves c.args.uid) _ _ _ c.self.inside.next
    (others_left c.self.inside.records (token_at c.self.inside.tokens.entries) (count_at c.self.inside.counts.entries)
    c.self.inside.next c.args.uid c.self.invariant))
    c.forget_tokens.ensures c.forget_count.ensures)
