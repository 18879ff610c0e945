use Rattle.std.proofs.Common.{◌≡◌}
use Rattle.crossbeam_queue.specs.Passes.{view, IsPassOf}
use Rattle.am_baton.proofs.shared.take.Given as goal

abbrev pub invariant-loop : goal.invariant-loop
invariant-loop g l =
    record {
      pass : IsPassOf l.stand.queue l.pass;
      table : l.pass.table_id ≡ l.fn.pass.table_id;
      same : view l.pass ≡ view l.fn.pass;
    }
