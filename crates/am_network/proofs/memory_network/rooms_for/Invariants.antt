use Rattle.std.proofs.Common.{◌≡◌, ◌-◌, ◌++◌, drop}
use Rattle.am_network.specs.Memory.{rooms_of}
use Rattle.am_network.proofs.memory_network.rooms_for.Given as goal

-- the rooms so far and those for the plans that are left are all
abbrev pub invariant-loop-number : goal.invariant-loop-number
invariant-loop-number l =
    l.rooms.items ++ rooms_of (l.gates - l.number) (drop l.number l.planned.items) ≡ rooms_of l.gates l.planned.items
