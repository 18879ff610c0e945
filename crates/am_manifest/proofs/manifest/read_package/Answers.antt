-- What is read is sound.
use Rattle.toml.specs.View.{view}
use Rattle.am_manifest.proofs.Soundness.{manifest_given}
use Rattle.am_manifest.proofs.manifest.read_package.Goals as goal

pub returns-clause-sound : goal.returns-clause-sound
returns-clause-sound c = manifest_given c.manifest_alone.result (view c.in_ok-root.root) c.manifest_alone.ensures
