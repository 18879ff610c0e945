use Rattle.std.proofs.Common.{◌≡◌, ◌+◌, ◌≤◌}
use Rattle.am_model.specs.Broadcasts.{normals_keeping}
use Rattle.am_queue_ordered.specs.Counts.{Covers, Follows}
use Rattle.am_queue_normal.specs.Kept.{deliveries_in, is_early, normals_of}
use Rattle.am_queue_normal.proofs.normals.Normals.expire.Given as goal

-- what isn't due is the same, and each step but one took a delivery
abbrev pub invariant-loop-number : goal.invariant-loop-number
invariant-loop-number g l = record {
  early : normals_keeping (is_early l.now) l.self.normal ≡ normals_keeping (is_early l.now) l.initial.self.normal;
  end : l.self.end ≡ l.initial.self.end;
  cost : l.steps + deliveries_in l.self.normal ≤ l.initial.steps + deliveries_in l.initial.self.normal;
  counted : Covers l.live (normals_of l.self.normal);
  follows : Follows l.initial.live l.live (normals_of l.initial.self.normal) (normals_of l.self.normal);
}

abbrev pub decreases-loop-number : goal.decreases-loop-number
decreases-loop-number g l = deliveries_in l.self.normal
