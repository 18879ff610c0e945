use Rattle.am_laws_courses.proofs.Fold.{courses_are_kept as law}
use Rattle.am_laws_courses.proofs.courses_are_kept.Goals as goal

pub returns : goal.returns
returns c = law
