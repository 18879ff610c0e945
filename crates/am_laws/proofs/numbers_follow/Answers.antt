use Rattle.am_laws.proofs.Numbers.{replay_has_numbers}
use Rattle.am_laws.proofs.numbers_follow.Goals as goal

pub returns : goal.returns
returns c = replay_has_numbers
