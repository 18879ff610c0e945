use Rattle.std.proofs.Common.{◌≡◌, ◌+◌, ℕ, List, length, slice_get, Some}
use Rattle.std.specs.List.{AllByRecursion}
use Rattle.am_network.specs.Links.{GateView, IsNewGate}
use Rattle.am_workers.specs.Work.{gate_of}
use Rattle.am_workers.specs.Serving.{MayReleaseAll, all_released}
use Rattle.am_workers.proofs.worker.dismiss_unserved.Given as goal

-- the gates so far were new, and were released, and nothing else was done
abbrev pub invariant-loop-unserved : goal.invariant-loop-unserved
invariant-loop-unserved g l =
    record {
      done : List GateView;
      fresh : AllByRecursion IsNewGate done;
      count : length done + length l.left.items ≡ length l.initial.left.items;
      told : g.N.Network.listening l.network ≡ all_released (g.N.Network.listening l.initial.network) done;
      listens : g.N.Network.listens l.network ≡ g.N.Network.listens l.initial.network;
      faults : g.N.Network.faults l.network ≡ g.N.Network.faults l.initial.network;
      gate_faults : g.N.Network.gate_faults l.network ≡ g.N.Network.gate_faults l.initial.network;
      new : (k : ℕ) (gate : g.row.N-Gate.Denot) → slice_get l.left.items k ≡ Some gate
          → IsNewGate (gate_of g.N.Gate.Acceptor gate);
      may : MayReleaseAll (g.N.Network.listening l.network) (length l.left.items);
    }

abbrev pub decreases-loop-unserved : goal.decreases-loop-unserved
decreases-loop-unserved g l = length l.left.items
