use Rattle.std.proofs.Common.{◌≡◌, drop, pos}
use Rattle.std.specs.Int.{int_max}
use Rattle.am_model.specs.Links.{browsers_of, greatest_of}
use Rattle.am_links.proofs.browsers.greatest_of.Given as goal

-- the greatest so far, which is at least 0, with that of the rest, is the greatest of all
abbrev pub invariant-loop-candidate : goal.invariant-loop-candidate
invariant-loop-candidate l =
    (int_max l.most (greatest_of (browsers_of (drop l.candidate-index l.candidate-items)))
    ≡ greatest_of (browsers_of l.candidate-items))
    × (l.most ≡ int_max l.most (pos 0))
