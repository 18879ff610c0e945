use Rattle.am_laws.proofs.Numbers.{enough_numbers}
use Rattle.am_laws.proofs.numbers_suffice.Goals as goal

pub returns : goal.returns
returns c = enough_numbers
