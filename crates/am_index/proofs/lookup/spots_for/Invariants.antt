use Rattle.std.proofs.Common.{◌≡◌, [], drop}
use Rattle.am_index.specs.Lookups.{with_keys}
use Rattle.am_index.proofs.lookup.spots_for.Given as goal

-- the spots so far, with those under the keys that are left, are those under all keys
abbrev pub invariant-loop-key : goal.invariant-loop-key
invariant-loop-key l =
    with_keys l.lists l.spots.items (drop l.key-index l.key-items) ≡ with_keys l.lists [] l.key-items
