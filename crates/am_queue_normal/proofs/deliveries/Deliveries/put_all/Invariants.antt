use Rattle.std.proofs.Common.{◌≡◌, ◌++◌, take}
use Rattle.am_queue_normal.specs.Posted.{posted_to}
use Rattle.am_queue_normal.proofs.deliveries.Deliveries.put_all.Given as goal

-- the deliveries to the receivers up to here are put
abbrev pub invariant-loop-place : goal.invariant-loop-place
invariant-loop-place l = l.self ≡ l.initial.self ++ posted_to l.sent.value l.deadline l.first (take l.place l.to)
