-- The row that a call has kept.
use Rattle.std.specs.Prelude.{ℕ, true, false, List, [], Option, Some, None, Result, Ok, Err}
use Rattle.std.specs.Option.{option_map}
use Rattle.am_types.specs.declared.device.Package.{Package}
use Rattle.am_types.specs.declared.manifest.Manifest.{Manifest}
use Rattle.am_types.specs.declared.manifest.ManifestFault.{ManifestFault}
use Rattle.am_types.specs.declared.request.Request.{Request}
use Rattle.am_types.specs.declared.request.Request.TheVariants as asks
use Rattle.am_keeper.specs.declared.rows.Row.{Row}
use Rattle.am_keeper.specs.declared.rows.Row.TheVariants as rows
use Rattle.am_model.specs.Boards.{package_named}
use Rattle.am_manifest.specs.Manifests.{manifest_of}
use Rattle.am_history.specs.State.{State}

-- the row of a package that is installed from that text
abbrev pub installed_row : ℕ → List ℕ → List ℕ → Result Manifest ManifestFault → Option Row
installed_row uid text key (Err fault) = None
installed_row uid text key (Ok manifest) =
    Some (rows.Package (record { uid = uid; name = manifest.«package»; key = key; text = text; gone = false }))

-- the row of a package that is gone: its uid and name are kept, so that its uid is never given again
abbrev pub gone_row : Package → Row
gone_row owner = rows.Package (record { uid = owner.uid; name = owner.name; key = []; text = []; gone = true })

-- the row that an installation, a removal, a grant or a link has kept if it is accepted in that state
abbrev pub row_of : State → Request → Option Row
row_of state (asks.Install text key) = installed_row state.next_uid text key (manifest_of text)
row_of state (asks.Uninstall name) = option_map gone_row (package_named state.board.packages name)
row_of state (asks.Grant name permission held) =
    option_map (λ (owner : Package). rows.Grant (record { uid = owner.uid; permission = permission; held = held }))
    (package_named state.board.packages name)
row_of state (asks.Link name host approved) =
    option_map (λ (owner : Package). rows.Link (record { uid = owner.uid; host = host; approved = approved }))
    (package_named state.board.packages name)
row_of state _ = None
