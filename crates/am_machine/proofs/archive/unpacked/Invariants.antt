use Rattle.std.proofs.Common.{◌≡◌, take}
use Rattle.am_machine.proofs.archive.unpacked.Given as goal

-- the entries so far
abbrev pub invariant-loop-one : goal.invariant-loop-one
invariant-loop-one l = l.entries.items ≡ take l.one-index l.stored
