use Rattle.std.proofs.Common.{◌≡◌, ◌+◌, ◌≤◌, ◌++◌, length, map, vec_len, vec_capacity}
use Rattle.am_workers.specs.Work.{gate_of}
use Rattle.am_workers.specs.Serving.{MayReleaseAll, all_released, faults_raised}
use Rattle.am_workers.proofs.worker.dismiss.Given as goal

-- the gates so far were released, and their desks stand behind those that were there
abbrev pub invariant-loop-worker : goal.invariant-loop-worker
invariant-loop-worker g l =
    record {
      desks : l.desks.items ++ map (λ w. w.desk) l.workers.items ≡ l.initial.desks.items
          ++ map (λ w. w.desk) l.initial.workers.items;
      told : all_released (g.N.Network.listening l.network) (map (λ w. gate_of g.N.Gate.Acceptor w.gate) l.workers.items)
          ≡ all_released (g.N.Network.listening l.initial.network)
          (map (λ w. gate_of g.N.Gate.Acceptor w.gate) l.initial.workers.items);
      listens : g.N.Network.listens l.network ≡ g.N.Network.listens l.initial.network;
      faults : g.N.Network.faults l.network ≡ g.N.Network.faults l.initial.network;
      gate_faults : faults_raised (g.N.Network.gate_faults l.network)
          (map (λ w. gate_of g.N.Gate.Acceptor w.gate) l.workers.items)
          ≡ faults_raised (g.N.Network.gate_faults l.initial.network)
          (map (λ w. gate_of g.N.Gate.Acceptor w.gate) l.initial.workers.items);
      may : MayReleaseAll (g.N.Network.listening l.network) (length l.workers.items);
      room : vec_len l.desks + length l.workers.items ≤ vec_capacity l.desks;
    }

abbrev pub decreases-loop-worker : goal.decreases-loop-worker
decreases-loop-worker g l = length l.workers.items
