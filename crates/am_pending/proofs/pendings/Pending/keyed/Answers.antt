use Rattle.std.proofs.Common.{ℕ, List, ap}
use Rattle.am_pending.specs.declared.key.Key.{Key}
use Rattle.am_pending.specs.Records.{count_at, token_at}
use Rattle.am_pending.proofs.Indexing.{none_indexed}
use Rattle.am_pending.proofs.pendings.Pending.keyed.Goals as goal

pub invariant_of-result : goal.invariant_of-result
invariant_of-result c =
    none_indexed c.new.result (token_at c.with_hasher.result.entries) (count_at c.new-2.result.entries) c.new.ensures
    (λ key. ap (λ (ts : List (Key × ℕ)). token_at ts key) c.with_hasher.ensures.empty)
    (λ uid. ap (λ (cs : List (ℕ × ℕ)). count_at cs uid) c.new-2.ensures.empty)
