use Rattle.std.proofs.Common.{◌≡◌, List, ◌++◌, length}
use Rattle.httparse.specs.Grammar.{LineEnd, print_blank}
use Rattle.am_audit_frames.proofs.target.behind_blank.Given as goal

-- what was passed are empty lines
abbrev pub invariant-loop-more : goal.invariant-loop-more
invariant-loop-more l = (blank : List LineEnd) × (l.text ≡ print_blank blank ++ l.rest)

abbrev pub decreases-loop-more : goal.decreases-loop-more
decreases-loop-more l = length l.rest
