use Rattle.std.proofs.Common.{◌≡◌, ◌++◌}
use Rattle.am_packed.specs.Numbers.{number}
use Rattle.am_packed.proofs.numbers.U64Pack.pack.Given as goal

-- what is out and what is to come are the whole
abbrev pub invariant-loop-rest : goal.invariant-loop-rest
invariant-loop-rest l = l.out.items ++ number.bytes l.rest ≡ l.fn.out.items ++ number.bytes l.fn.self

abbrev pub decreases-loop-rest : goal.decreases-loop-rest
decreases-loop-rest l = l.rest
