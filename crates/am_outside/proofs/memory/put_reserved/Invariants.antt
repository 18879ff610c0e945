use Rattle.std.proofs.Common.{◌≡◌, ◌+◌, ◌++◌, take, vec_len, vec_capacity}
use Rattle.am_outside.proofs.memory.put_reserved.Given as goal

-- the bytes so far were added, and the capacity is as it was
abbrev pub invariant-loop-byte : goal.invariant-loop-byte
invariant-loop-byte l =
    record {
      items : l.taken.items ≡ l.fn.taken.items ++ take l.byte-index l.bytes;
      count : vec_len l.taken ≡ vec_len l.fn.taken + l.byte-index;
      capacity : vec_capacity l.taken ≡ vec_capacity l.fn.taken;
    }
