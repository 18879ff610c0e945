use Rattle.std.proofs.Common.{◌≡◌, fold}
use Rattle.std.specs.Option.{option_copied}
use Rattle.am_pending.specs.Orders.{fed_in_order, last_after}
use Rattle.am_pending.proofs.key.hash_in_order.Given as goal

abbrev pub invariant-loop : goal.invariant-loop
invariant-loop g l =
    (option_copied l.last ≡ last_after l.counter l.texts)
    × (l.state ≡ fold g.H.Hasher.write l.initial.state (fed_in_order l.counter l.texts))
