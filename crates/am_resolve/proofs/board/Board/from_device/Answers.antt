use Rattle.am_installed.specs.Installed.{sound_in_order}
use Rattle.am_resolve.proofs.board.Board.from_device.Goals as goal

pub from_device-installed-requires : goal.from_device-installed-requires
from_device-installed-requires c = sound_in_order _ c.requires
