-- The state in which a manager begins: a device, and the rows that were kept.
use Rattle.std.specs.Prelude.{ℕ, Bool, true, not, ◌&&◌, ◌||◌, ◌==◌, nat_lt, nat_le, List, ◌++◌, length, map, filter, if◌then◌else◌, Option, Some, None, Result, Ok, Err}
use Rattle.std.specs.List.{count_by, fold, find}
use Rattle.am_types.specs.declared.device.Device.{Device}
use Rattle.am_types.specs.declared.device.Package.{Package}
use Rattle.am_types.specs.declared.device.Grant.{Grant}
use Rattle.am_types.specs.declared.device.Link.{Link}
use Rattle.am_types.specs.declared.manifest.Manifest.{Manifest}
use Rattle.am_types.specs.declared.manifest.ManifestFault.{ManifestFault}
use Rattle.am_keeper.specs.declared.rows.PackageRow.{PackageRow}
use Rattle.am_keeper.specs.declared.rows.GrantRow.{GrantRow}
use Rattle.am_keeper.specs.declared.rows.LinkRow.{LinkRow}
use Rattle.am_keeper.specs.declared.rows.Rows.{Rows}
use Rattle.am_model.specs.Lists.{inserted}
use Rattle.am_model.specs.Texts.{is_same, lowered}
use Rattle.am_model.specs.Sound.{is_access_key}
use Rattle.am_model.specs.Boards.{Board, is_package_uid, with_grant, with_link}
use Rattle.am_manifest.specs.Manifests.{manifest_of}
use Rattle.am_history.specs.State.{State, opening, uid_after, uids_of, with_packages}
use Rattle.am_history.specs.Packages.{no_uid, is_name_used, is_key_used, removed}

-- a package comes before another
abbrev pub before_package : Package → Package → Bool
before_package owner other = nat_lt owner.uid other.uid

-- the package in its place by uid
abbrev pub place_package : Package → List Package → List Package
place_package owner packages = inserted before_package owner packages

-- a package as it is kept: it is stopped
abbrev pub kept_package : PackageRow → Manifest → Package
kept_package row manifest = record {
  uid = row.uid;
  name = row.name;
  key = row.key;
  stopped = true;
  decls =
      manifest.decls;
}

-- the row's uid, name and key are free and of the right form, and there is room for its package
abbrev pub is_row_good : State → PackageRow → Manifest → Bool
is_row_good state row manifest =
    (((((is_same manifest.«package» row.name
    && nat_le 10000 row.uid)
    && not (is_package_uid state.board.packages row.uid))
    && is_access_key row.key)
    && not (is_name_used state.board.packages row.name))
    && not (is_key_used state row.key))
    && nat_lt (length state.board.packages) 256

-- the state with the package of a row, or the name of the row that is refused
abbrev pub with_read : State → PackageRow → Result Manifest ManifestFault → Result State (List ℕ)
with_read state row (Err fault) = Err row.name
with_read state row (Ok manifest) =
    if is_row_good state row manifest
    then Ok (with_packages state (place_package (kept_package row manifest) state.board.packages))
    else Err row.name

-- the state after a package row: a gone package is removed, with its grants and links; any other one is added
abbrev pub after_row : State → PackageRow → Result State (List ℕ)
after_row state row =
    if row.uid == no_uid then Err row.name
    else if row.gone then Ok (record state { board = removed state.board row.uid })
    else with_read state row (manifest_of row.text)

-- the state after one more package row, unless one before it was refused
abbrev pub and_then_row : Result State (List ℕ) → PackageRow → Result State (List ℕ)
and_then_row (Err name) row = Err name
and_then_row (Ok state) row = after_row state row

-- the state after package rows, one after the other, or the name of the first that is refused
abbrev pub after_rows : State → List PackageRow → Result State (List ℕ)
after_rows state rows = fold and_then_row (Ok state) rows

-- the grants after a grant row; a row of a uid that isn't live is ignored
abbrev pub after_grant : Board → GrantRow → Board
after_grant board row =
    if is_package_uid board.packages row.uid
    then record board { grants = with_grant board.grants row.uid row.permission row.held }
    else board

-- the links after a link row; a row of a uid that isn't live, or whose host isn't in lower case, is ignored
abbrev pub after_link : Board → LinkRow → Board
after_link board row =
    if is_package_uid board.packages row.uid && is_same (lowered row.host) row.host
    then record board { links = with_link board.links row.uid row.host row.approved }
    else board

-- the board after all rows of grants and links
abbrev pub with_rights : Board → Rows → Board
with_rights board rows = fold after_link (fold after_grant board rows.grants) rows.links

-- the package has more than 256 grants, or more than 256 links
abbrev pub has_too_many : Board → Package → Bool
has_too_many board owner =
    nat_lt 256 (count_by (λ (g : Grant). g.uid == owner.uid) board.grants)
    || nat_lt 256 (count_by (λ (l : Link). l.uid == owner.uid) board.links)

-- the state, unless this package has too many grants or links
abbrev pub unless_too_many : State → Option Package → Result State (List ℕ)
unless_too_many state None = Ok state
unless_too_many state (Some owner) = Err owner.name

-- the uids of rows; the greatest uid, which is never given, counts for nothing among grants and links
abbrev pub row_uids : Rows → List ℕ
row_uids rows =
    map (λ (row : PackageRow). row.uid) rows.packages
    ++ filter (λ uid. not (uid == no_uid))
    (map (λ (row : GrantRow). row.uid) rows.grants ++ map (λ (row : LinkRow). row.uid) rows.links)

-- the state with the rights that were kept, and the next uid after all that were ever given
abbrev pub completed : Device → Rows → State → State
completed device rows state = record state {
  board = with_rights state.board rows;
  next_uid = uid_after (uids_of device.packages ++ row_uids rows);
}

-- the state after the packages were opened: complete, unless some package has too many grants or links
abbrev pub opened : Device → Rows → Result State (List ℕ) → Result State (List ℕ)
opened device rows (Err name) = Err name
opened device rows (Ok state) =
    let after = completed device rows state in
    unless_too_many after (find (has_too_many after.board) after.board.packages)

-- the state in which a manager of the device begins with those rows, or the name of the row that is refused
unfoldable pub opening_with : Device → Rows → Result State (List ℕ)
opening_with device rows = opened device rows (after_rows (opening device) rows.packages)
