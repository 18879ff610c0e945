use Rattle.std.proofs.Common.{◌≡◌, length}
use Rattle.am_trials_network.specs.Gates.{AreNew}
use Rattle.am_trials_network.proofs.resting_network.next_gates.Given as goal

-- so many gates were made, all of them new, and so are the others
abbrev pub invariant-loop-number : goal.invariant-loop-number
invariant-loop-number l =
    record {
      count : length l.made.items ≡ l._number;
      made : AreNew l.made.items;
      others : AreNew l.coming.items;
    }
