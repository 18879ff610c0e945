use Rattle.std.proofs.Common.{length}
use Rattle.am_opening.proofs.Moving.{IsMoving}
use Rattle.am_opening.proofs.rights.move_front.Given as goal

abbrev pub invariant-loop-done : goal.invariant-loop-done
invariant-loop-done l = IsMoving (l.uid, l.text) l.initial.done.items l.initial.left.items l.done.items l.left.items

abbrev pub decreases-loop-done : goal.decreases-loop-done
decreases-loop-done l = length l.left.items
