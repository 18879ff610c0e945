use Rattle.std.proofs.Common.{◌≡◌, drop}
use Rattle.am_model.specs.Links.{browsers_of, first_of_package}
use Rattle.am_links.proofs.browsers.first_of_package.Given as goal

-- the first of the rest is the first of all
abbrev pub invariant-loop-candidate : goal.invariant-loop-candidate
invariant-loop-candidate l =
    first_of_package l.name (browsers_of (drop l.candidate-index l.candidate-items))
    ≡ first_of_package l.name (browsers_of l.candidate-items)
