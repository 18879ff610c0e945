use Rattle.std.proofs.Common.{◌≡◌, ◌<◌, ℕ, true, [], length, slice_index_or}
use Rattle.crossbeam_queue.specs.Passes.{view, IsPassOf}
use Rattle.am_history.specs.Desks.{DeskView}
use Rattle.am_baton.specs.Shared.{idle, new_mark, new_desk, sharing_of}
use Rattle.am_baton.proofs.sharing.all_desks.Given as goal

abbrev pub invariant-loop-number : goal.invariant-loop-number
invariant-loop-number g l =
    record {
      pass : IsPassOf l.stand.value.queue l.pass;
      table : l.pass.table_id ≡ l.fn.pass.table_id;
      turn : view l.pass ≡ idle true (new_mark (view l.fn.pass).mark.start l.number) [];
      count : length l.made.items ≡ l.number;
      each : (k : ℕ) (other : DeskView) → k < length l.made.items → slice_index_or l.made.items k other
          ≡ new_desk (view l.fn.pass).mark.start.origin (sharing_of l.fn.pass.table_id (view l.fn.pass).mark.start) k;
    }
