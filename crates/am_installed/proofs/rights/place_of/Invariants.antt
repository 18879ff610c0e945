use Rattle.std.proofs.Common.{◌≡◌, ◌+◌, drop}
use Rattle.am_model.specs.Lists.{place_of}
use Rattle.am_model.specs.Rights.{before_right}
use Rattle.am_installed.proofs.rights.place_of.Given as goal

-- the right belongs before none so far
abbrev pub invariant-loop-place : goal.invariant-loop-place
invariant-loop-place g l =
    place_of (before_right g.T.Right.right_of) l.right l.rights ≡ l.place + place_of (before_right g.T.Right.right_of)
    l.right (drop l.place l.rights)
