use Rattle.std.proofs.Common.{◌∙◌}
use Rattle.crossbeam_queue.specs.Passes.{view}
use Rattle.am_baton.proofs.Desks.{waits_more}
use Rattle.am_baton.proofs.shared.take_filled.Goals as goal

-- the manager was put back as it was taken
pub loop-preserved : goal.loop-preserved
loop-preserved g c =
    let inv = c.loop.invariant in
    record {
      pass = c.give.ensures.pass.0;
      table = c.give.ensures.pass.1 ∙ (c.take-baton.ensures.pass.1 ∙ inv.table);
      waited = waits_more (view c.args.pass.now) (view c.loop.pass) _ _ _ inv.waited c.take-baton.ensures.taken
          c.give.ensures.put;
    }
