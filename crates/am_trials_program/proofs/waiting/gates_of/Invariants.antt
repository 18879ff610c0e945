use Rattle.std.proofs.Common.{◌≡◌, ◌≤◌, vec_len, vec_capacity}
use Rattle.std.specs.Prelude.{None}
use Rattle.std.specs.List.{All}
use Rattle.am_network.specs.Links.{IsNewGate}
use Rattle.am_trials_program.specs.declared.waiting.Gate.{Gate}
use Rattle.am_trials_program.proofs.waiting.gates_of.Given as goal

-- so many gates were made, all of them new, and there is room for the others
abbrev pub invariant-loop-number : goal.invariant-loop-number
invariant-loop-number l =
    record {
      count : vec_len l.made ≡ l._number;
      room : l.gates ≤ vec_capacity l.made;
      new : All (λ (g : Gate). IsNewGate (record { links = None; faults = g.faults })) l.made.items;
    }
