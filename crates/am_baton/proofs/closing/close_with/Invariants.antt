use Rattle.std.proofs.Common.{◌≡◌, ◌++◌, map, vec_len}
use Rattle.crossbeam_queue.specs.Passes.{view, IsPassOf}
use Rattle.am_baton.specs.Shared.{desk_of, idle}
use Rattle.am_baton.proofs.closing.close_with.Given as goal

abbrev pub invariant-loop-desk : goal.invariant-loop-desk
invariant-loop-desk g l =
    record {
      pass : IsPassOf l.stand.value.queue l.pass;
      own : desk_of l.pass.table_id (view l.pass).mark ≡ l.fn.last;
      idle : view l.pass ≡ idle (view l.pass).makes (view l.pass).mark (view l.pass).ended;
      parts : l.fn.desks.items ≡ l.desks.items ++ map (desk_of l.pass.table_id) (view l.pass).ended;
    }

abbrev pub decreases-loop-desk : goal.decreases-loop-desk
decreases-loop-desk g l = vec_len l.desks
