use Rattle.std.proofs.Common.{◌≡◌, ◌++◌, ◌-◌, ◌≤◌, not, take, drop, vec_len, vec_capacity}
use Rattle.std.specs.List.{filter}
use Rattle.am_model.specs.Broadcasts as broadcasts
use Rattle.am_queue_ordered.specs.Counts.{Covers, Follows, results_of}
use Rattle.am_queue.specs.Taken.{is_taken}
use Rattle.am_queue.proofs.results.take_kept.Given as goal

-- those up to here stay, and of the rest those that aren't taken
abbrev pub invariant-loop-place : goal.invariant-loop-place
invariant-loop-place l = record {
  left : take l.place l.results.items ++ filter (λ (kept : broadcasts.Result). not (is_taken l.taken kept))
      (drop l.place l.results.items) ≡ filter (λ (kept : broadcasts.Result). not (is_taken l.taken kept))
      l.initial.results.items;
  within : l.place ≤ vec_len l.results;
  capacity : vec_capacity l.results ≡ vec_capacity l.initial.results;
  fewer : vec_len l.results ≤ vec_len l.initial.results;
  counted : Covers l.live (results_of l.results.items);
  follows : Follows l.initial.live l.live (results_of l.initial.results.items) (results_of l.results.items);
}

abbrev pub decreases-loop-place : goal.decreases-loop-place
decreases-loop-place l = vec_len l.results - l.place
