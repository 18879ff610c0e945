use Rattle.std.proofs.Common.{◌≡◌, ◌+◌, ◌≤◌, ◌++◌, drop, length, vec_len, vec_capacity}
use Rattle.am_network.specs.Memory.{ArePlans, gates_of, rooms_of}
use Rattle.am_network.proofs.memory_network.open_gates.Given as goal

-- the gates so far and those of the plans that are left are all
abbrev pub invariant-loop-room : goal.invariant-loop-room
invariant-loop-room l =
    record {
      made : l.made.items ++ gates_of (length l.rooms.items) l.coming.items ≡ l.fn.made.items
          ++ gates_of (length l.fn.rooms.items) l.fn.coming.items;
      rest : drop (length l.rooms.items) l.coming.items ≡ drop (length l.fn.rooms.items) l.fn.coming.items;
      rooms : l.rooms.items ≡ rooms_of (length l.rooms.items) l.coming.items;
      plans : ArePlans l.coming.items;
      capacity : vec_len l.made + length l.rooms.items ≤ vec_capacity l.made;
    }

-- there are fewer rooms left
abbrev pub decreases-loop-room : goal.decreases-loop-room
decreases-loop-room l = length l.rooms.items
