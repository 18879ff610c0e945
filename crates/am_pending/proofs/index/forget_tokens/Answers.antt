use Rattle.std.proofs.Common.{ℕ, ◌==◌, not, List, None, ap, ◌∙◌, rules}
use Rattle.std.specs.Cmp.{unsigned_Decides}
use Rattle.std.proofs.lemmas.Map.Made.{filter_same_pairs}
use Rattle.std.proofs.lemmas.Map.Entries.{lookup-filter-keys}
use Rattle.am_pending.specs.declared.key.Key.{Key}
use Rattle.am_pending.specs.Keys.{is_same_key}
use Rattle.am_pending.specs.Records.{pending_of, token_at, unheld}
use Rattle.am_pending.proofs.Indexing.{has-creator}
use Rattle.am_pending.proofs.Lists.{cond_not}
use Rattle.am_pending.proofs.index.forget_tokens.Goals as goal

pub returns : goal.returns
returns c other =
    ap (λ (ts : List (Key × ℕ)). token_at ts other) (filter_same_pairs _ _ _ (λ k v b w f' t. search rules) _ _
    c.retain.ensures.filtered)
    ∙ lookup-filter-keys (λ (k : Key). is_same_key k other) (λ (k : Key). not (k.creator == c.args.uid))
    (not (other.creator == c.args.uid))
    (λ k h. ap (λ creator. not (creator == c.args.uid)) ((unsigned_Decides k.creator other.creator).0
    (has-creator other (pending_of 0 (unheld k)) h))) c.args.tokens.now.entries
    ∙ cond_not (other.creator == c.args.uid) (token_at c.args.tokens.now.entries other) None
