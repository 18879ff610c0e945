use Rattle.std.proofs.Common.{◌≡◌, ◌+◌, ◌≤◌, ◌++◌, ℕ, length, map, vec_len, vec_capacity}
use Rattle.std.specs.Prelude.{All}
use Rattle.am_workers.specs.declared.worker.Worker.{Worker}
use Rattle.am_workers.proofs.worker.hire.Given as goal

-- the workers so far have the first desks and gates, and clocks that tell the same; and there are as many desks left as
-- gates and buffers, and room for them
abbrev pub invariant-loop-desk : goal.invariant-loop-desk
invariant-loop-desk g l =
    record {
      desks : map (λ (w : Worker g.row.D.Denot g.row.A.Denot g.row.C.Denot). w.desk) l.workers.items
          ++ l.free_desks.items ≡ l.initial.free_desks.items;
      gates : map (λ (w : Worker g.row.D.Denot g.row.A.Denot g.row.C.Denot). w.gate) l.workers.items
          ++ l.free_gates.items ≡ l.initial.free_gates.items;
      clocks : All (λ (w : Worker g.row.D.Denot g.row.A.Denot g.row.C.Denot). (calls : ℕ)
          → g.C.Clock.moments w.clock calls ≡ g.C.Clock.moments l.clock calls) l.workers.items;
      count : length l.free_desks.items ≡ length l.free_gates.items;
      buffered : length l.free_desks.items ≡ length l.buffers.items;
      room : vec_len l.workers + length l.free_desks.items ≤ vec_capacity l.workers;
    }

abbrev pub decreases-loop-desk : goal.decreases-loop-desk
decreases-loop-desk g l = length l.free_desks.items
