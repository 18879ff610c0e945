use Rattle.std.proofs.Common.{length}
use Rattle.am_packed.proofs.numbers.+number_at.Given as goal

abbrev pub decreases-number_at : goal.decreases-number_at
decreases-number_at l = length l.bytes.now
