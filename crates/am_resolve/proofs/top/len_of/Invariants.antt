use Rattle.std.proofs.Common.{◌≡◌, ◌+◌, drop, length}
use Rattle.std.specs.List.{take_while}
use Rattle.std.specs.Ordering.{int_eq}
use Rattle.am_types.specs.declared.resolve.Hit.{Hit}
use Rattle.am_resolve.proofs.top.len_of.Given as goal

-- all so far have the priority
abbrev pub invariant-loop-place : goal.invariant-loop-place
invariant-loop-place l =
    length (take_while (λ (hit : Hit). int_eq hit.priority l.first.priority) l.hits)
    ≡ l.place + length (take_while (λ (hit : Hit). int_eq hit.priority l.first.priority) (drop l.place l.hits))
