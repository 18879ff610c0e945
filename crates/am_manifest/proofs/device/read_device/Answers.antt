-- What is read is sound.
use Rattle.toml.specs.View.{view}
use Rattle.am_manifest.proofs.Soundness.{sound_given}
use Rattle.am_manifest.proofs.device.read_device.Goals as goal

pub returns-clause-sound : goal.returns-clause-sound
returns-clause-sound c = sound_given c.device_in.result (view c.in_ok-root.root) c.device_in.ensures
