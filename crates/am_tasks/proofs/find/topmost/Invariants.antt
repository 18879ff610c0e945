use Rattle.std.proofs.Common.{◌≡◌, ◌<◌, length, take, reverse, IfSome}
use Rattle.std.specs.List.{find}
use Rattle.am_model.specs.Placement.{is_of}
use Rattle.am_tasks.specs.Finds.{at}
use Rattle.am_tasks.proofs.find.topmost.Given as goal

abbrev pub invariant-loop-place : goal.invariant-loop-place
invariant-loop-place l =
    (at l.instances l.found ≡ find (is_of l.component) (reverse (take l.place l.instances)))
    × IfSome l.found (λ place. place < length l.instances)
