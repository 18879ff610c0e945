use Rattle.am_laws_state.proofs.Sound.{replay_is_sound}
use Rattle.am_laws_state.proofs.states_are_sound.Goals as goal

pub returns : goal.returns
returns c = replay_is_sound
