use Rattle.std.proofs.Common.{◌≡◌, ◌+◌, ◌-◌}
use Rattle.am_queue_normal.specs.Posted.{without}
use Rattle.am_queue_normal.proofs.deliveries.Deliveries.take_back.Given as goal

-- the rest to be removed from the rest is what was to be removed from all
abbrev pub invariant-loop-place : goal.invariant-loop-place
invariant-loop-place l = without (l.first + l.place) (l.count - l.place) l.self ≡ without l.first l.count l.initial.self
