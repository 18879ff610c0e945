use Rattle.std.proofs.Common.{◌≡◌, ◌++◌, drop, map}
use Rattle.am_index.specs.Lookups.{key_of, keys_of}
use Rattle.am_index.proofs.lookup.keys_of.Given as goal

-- the keys so far, and those of the groups that are left, are those that the intent asks for
abbrev pub invariant-loop-group : goal.invariant-loop-group
invariant-loop-group l =
    l.keys.items ++ map (key_of l.kind l.owner) (drop l.group-index l.group-items) ≡ keys_of l.kind l.intent
