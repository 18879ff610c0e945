use Rattle.am_laws_state.proofs.Keys.{sound_keys}
use Rattle.am_laws_state.proofs.keys_are_exact.Goals as goal

pub returns : goal.returns
returns c = sound_keys
