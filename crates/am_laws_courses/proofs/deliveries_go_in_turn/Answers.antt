use Rattle.am_laws_courses.proofs.Turns.{deliveries_go_in_turn as law}
use Rattle.am_laws_courses.proofs.deliveries_go_in_turn.Goals as goal

pub returns : goal.returns
returns c = law
