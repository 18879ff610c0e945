use Rattle.std.proofs.Common.{◌≡◌}
use Rattle.crossbeam_queue.specs.Passes.{view, IsPassOf}
use Rattle.am_baton.proofs.Desks.{HasWaited}
use Rattle.am_baton.proofs.shared.take_filled.Given as goal

-- the pass waits
abbrev pub invariant-loop : goal.invariant-loop
invariant-loop g l =
    record {
      pass : IsPassOf l.stand.queue l.pass;
      table : l.pass.table_id ≡ l.fn.pass.table_id;
      waited : HasWaited (view l.fn.pass) (view l.pass);
    }
