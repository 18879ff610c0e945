use Rattle.std.proofs.Common.{◌≡◌, take, map}
use Rattle.std.specs.List.{filter}
use Rattle.am_model.specs.Tasks.{may_see, view_of}
use Rattle.am_tasks.proofs.views.instance_views.Given as goal

abbrev pub invariant-loop-instance : goal.invariant-loop-instance
invariant-loop-instance l = l.shown.items ≡ map view_of (filter (may_see l.uid) (take l.instance-index l.instances))
