-- What is opened, as the code represents it: a device and the next uid.
use Rattle.std.specs.Prelude.{◌≡◌, ℕ, ◌+◌, not, ◌&&◌, ◌==◌, List, max, filter, if◌then◌else◌, Result, Ok, Err}
use Rattle.std.specs.List.{fold, find}
use Rattle.am_types.specs.declared.device.Package.{Package}
use Rattle.am_types.specs.declared.device.Grant.{Grant}
use Rattle.am_types.specs.declared.device.Link.{Link}
use Rattle.am_keeper.specs.declared.rows.GrantRow.{GrantRow}
use Rattle.am_keeper.specs.declared.rows.LinkRow.{LinkRow}
use Rattle.am_keeper.specs.declared.rows.Rows.{Rows}
use Rattle.am_model.specs.Texts.{is_same, lowered}
use Rattle.am_model.specs.Boards.{is_package_uid, with_grant, with_link}
use Rattle.am_history.specs.State.{State, opening}
use Rattle.am_history.specs.Packages.{no_uid}
use Rattle.am_history.specs.Opening.{row_uids, has_too_many, unless_too_many, with_rights}
use Rattle.am_opening.specs.declared.opened.Opened.{Opened}
use Rattle.am_opening.specs.declared.opened.BeginFault.{BeginFault}
use Rattle.am_opening.specs.declared.opened.BeginFault.TheVariants as faults

-- the state of an opened device before the first call
abbrev pub state_of : Opened → State
state_of opened = record (opening opened.device) { next_uid = opened.next_uid }

-- the fault names the row that is refused, unless memory ran out
abbrev pub Refuses : BeginFault → Result State (List ℕ) → Type 0
Refuses (faults.Rows name) state = state ≡ Err name
Refuses faults.NoMemory state = Unit {0}

-- the code opens the state, and refuses what is refused here, unless memory ran out
abbrev pub Opens : Result Opened BeginFault → Result State (List ℕ) → Type 0
Opens (Ok opened) state = state ≡ Ok (state_of opened)
Opens (Err fault) state = Refuses fault state

-- the grants after a row; a row of a uid that isn't there is ignored
abbrev pub after_grant_row : List Package → List Grant → GrantRow → List Grant
after_grant_row packages grants row =
    if is_package_uid packages row.uid then with_grant grants row.uid row.permission row.held else grants

-- the grants after all rows
abbrev pub grants_after : List Package → List Grant → List GrantRow → List Grant
grants_after packages grants rows = fold (after_grant_row packages) grants rows

-- the links after a row; a row of a uid that isn't there, or whose host isn't in lower case, is ignored
abbrev pub after_link_row : List Package → List Link → LinkRow → List Link
after_link_row packages links row =
    if is_package_uid packages row.uid && is_same (lowered row.host) row.host
    then with_link links row.uid row.host row.approved
    else links

-- the links after all rows
abbrev pub links_after : List Package → List Link → List LinkRow → List Link
links_after packages links rows = fold (after_link_row packages) links rows

-- the uids among these that may be given: all but the greatest
abbrev pub given_uids : List ℕ → List ℕ
given_uids uids = filter (λ uid. not (uid == no_uid)) uids

-- the state with the rights that were kept and the next uid, if the greatest uid of the device's packages is this
abbrev pub completed_from : ℕ → Rows → State → State
completed_from greatest rows state = record state {
  board = with_rights state.board rows;
  next_uid = fold max greatest (row_uids rows) + 1;
}

-- and if no package has too many rights
abbrev pub opened_from : ℕ → Rows → State → Result State (List ℕ)
opened_from greatest rows state =
    let after = completed_from greatest rows state in
    unless_too_many after (find (has_too_many after.board) after.board.packages)
