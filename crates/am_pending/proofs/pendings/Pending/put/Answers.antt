use Rattle.std.proofs.Common.{◌∙◌, ◌==◌, ◌+◌, ◌++◌, ◌∷◌, [], Some, List, ℕ, ap, cond, subst, sym}
use Rattle.am_model.specs.Pendings.{Pending, Pendings}
use Rattle.am_pending.specs.Keys.{is_same_key}
use Rattle.am_pending.specs.Records.{IsIndexed, count_at, pending_of, token_at, token_in}
use Rattle.am_pending.proofs.Indexing.{pushed, same_indexed}
use Rattle.am_pending.proofs.pendings.Pending.put.Goals as goal

pub invariant_of-self-in-Ok : goal.invariant_of-self-in-Ok
invariant_of-self-in-Ok c =
    let records = c.self.inside.records in
    let next = c.self.inside.next in
    let absent = ap (λ (all : Pendings). token_in c.args.key all.records) c.self.view_is ∙ c.requires.absent in
    subst (λ (all : List Pending). IsIndexed all (token_at c.put_token.new.tokens.entries)
    (count_at c.raise.new.counts.entries) (next + 1)) (sym (c.in-Ok.ensures.ok
    ∙ ap (λ kept. records ++ pending_of next kept ∷ []) c.new.ensures))
    (same_indexed _ _ (token_at c.put_token.new.tokens.entries) _ (count_at c.raise.new.counts.entries) (next + 1)
    (pushed records (token_at c.self.inside.tokens.entries) (count_at c.self.inside.counts.entries) next c.args.key
    c.self.invariant absent)
    (λ other. c.put_token.ensures other ∙ (λ i. cond (is_same_key other (c.requires.same i)) (Some next)
    (token_at (c.make_room.ensures.tokens i) other)))
    (λ uid. c.raise.ensures uid ∙ ap (λ (cs : List (ℕ × ℕ)). count_at cs uid + cond (uid == c.args.key.creator) 1 0)
    c.make_room.ensures.counts))
