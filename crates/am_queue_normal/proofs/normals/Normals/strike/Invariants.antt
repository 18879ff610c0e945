use Rattle.std.proofs.Common.{◌≡◌, not}
use Rattle.am_model.specs.Broadcasts.{Delivery, normals_keeping}
use Rattle.am_queue_ordered.specs.Counts.{Covers, Follows}
use Rattle.am_queue_ordered.specs.Struck.{strikes}
use Rattle.am_queue_normal.specs.Kept.{PassBelow, deliveries_in, normals_of}
use Rattle.am_queue_normal.proofs.normals.Normals.strike.Given as goal

-- what isn't struck is the same, and nothing with a lower number is
abbrev pub invariant-loop-number : goal.invariant-loop-number
invariant-loop-number l = record {
  others : normals_keeping (λ (d : Delivery). not (strikes l.struck d.spot)) l.self.normal
      ≡ normals_keeping (λ (d : Delivery). not (strikes l.struck d.spot)) l.initial.self.normal;
  end : l.self.end ≡ l.initial.self.end;
  below : PassBelow (λ (d : Delivery). not (strikes l.struck d.spot)) l.from l.self.normal;
  counted : Covers l.live (normals_of l.self.normal);
  follows : Follows l.initial.live l.live (normals_of l.initial.self.normal) (normals_of l.self.normal);
}

abbrev pub decreases-loop-number : goal.decreases-loop-number
decreases-loop-number l = deliveries_in l.self.normal
