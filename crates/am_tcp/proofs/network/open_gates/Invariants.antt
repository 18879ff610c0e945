use Rattle.std.proofs.Common.{◌≡◌, ◌≤◌, vec_len, vec_capacity}
use Rattle.std.specs.Prelude.{All}
use Rattle.am_tcp.proofs.network.open_gates.Given as goal

-- so many gates were made, all of them new, and there is room for the others
abbrev pub invariant-loop-number : goal.invariant-loop-number
invariant-loop-number g l =
    record {
      count : vec_len l.made ≡ l._number;
      room : l.gates ≤ vec_capacity l.made;
      new : All (λ gate. gate.faults ≡ 0) l.made.items;
    }
