use Rattle.am_opening.proofs.Soundness.{answered_is_sound}
use Rattle.am_opening.proofs.opening.open.Goals as goal

pub returns-clause-sound : goal.returns-clause-sound
returns-clause-sound c =
    answered_is_sound c.args.device c.args.rows.now c.opened_with.result c.requires.sound c.opened_with.ensures.opens
    c.opened_with.ensures.fits
