-- What holds of a device's own state, whatever is installed and given, holds of the state in which a manager begins.
use Rattle.std.proofs.Common.{◌≡◌, ℕ, Bool, true, false, ◌&&◌, cond, List, [], ◌∷◌, ◌++◌, refl, ◌∙◌}
use Rattle.std.specs.Prelude.{Option, Some, None, Result, Ok, Err}
use Rattle.std.specs.List.{fold, find}
use Rattle.am_types.specs.declared.device.Device.{Device}
use Rattle.am_types.specs.declared.device.Package.{Package}
use Rattle.am_keeper.specs.declared.rows.PackageRow.{PackageRow}
use Rattle.am_keeper.specs.declared.rows.GrantRow.{GrantRow}
use Rattle.am_keeper.specs.declared.rows.LinkRow.{LinkRow}
use Rattle.am_keeper.specs.declared.rows.Rows.{Rows}
use Rattle.am_model.specs.Boards.{Board, is_package_uid, with_grant, with_link}
use Rattle.am_model.specs.Texts.{is_same, lowered}
use Rattle.am_history.specs.State.{State, opening, uid_after, uids_of}
use Rattle.am_history.specs.Packages.{removed}
use Rattle.am_history.specs.Opening.{place_package, kept_package, and_then_row, after_rows, after_grant, after_link, with_rights, has_too_many, unless_too_many, row_uids, completed, opened, opening_with}
use Rattle.am_history.proofs.OpeningLaws.{IfOpened, nothing_asked, rows_leave}
use Rattle.am_history.specs.Desks.{Origin, state_or, opening_of}

-- no row of a grant or of a link changes packages or registered receivers
pub record IsSameElse (board after : Board) : Type 0 where
  pub packages : after.packages ≡ board.packages
  pub registered : after.registered ≡ board.registered

-- so rows that each change neither change neither together
rows_else : {R : Type 0} (after : Board → R → Board) → ((board : Board) (row : R) → IsSameElse board (after board row))
    → (board : Board) (rows : List R) → IsSameElse board (fold after board rows)
rows_else after one board [] = record { packages = refl; registered = refl }
rows_else after one board (row ∷ rows) =
    let rest = rows_else after one (after board row) rows in
    let first = one board row in
    record { packages = rest.packages ∙ first.packages; registered = rest.registered ∙ first.registered }

if_else : (board after : Board) → IsSameElse board after → (b : Bool) → IsSameElse board (cond b after board)
if_else board after same true = same
if_else board after same false = record { packages = refl; registered = refl }

grant_rows_else : (board : Board) (rows : List GrantRow) → IsSameElse board (fold after_grant board rows)
grant_rows_else = rows_else after_grant (λ board row. if_else board (record board
    { grants = with_grant board.grants row.uid row.permission row.held }) (record { packages = refl; registered = refl })
    (is_package_uid board.packages row.uid))

link_rows_else : (board : Board) (rows : List LinkRow) → IsSameElse board (fold after_link board rows)
link_rows_else = rows_else after_link (λ board row. if_else board (record board
    { links = with_link board.links row.uid row.host row.approved }) (record { packages = refl; registered = refl })
    (is_package_uid board.packages row.uid && is_same (lowered row.host) row.host))

-- and so do both
pub rights_else : (board : Board) (rows : Rows) → IsSameElse board (with_rights board rows)
rights_else board rows =
    let first = grant_rows_else board rows.grants in
    let second = link_rows_else (fold after_grant board rows.grants) rows.links in
    record { packages = second.packages ∙ first.packages; registered = second.registered ∙ first.registered }

module _ (P : State → Type 0)
    (stays : (state : State) (board : Board) (uid : ℕ) → board.registered ≡ state.board.registered → P state
    → P (record state { board = board; next_uid = uid })) where
  -- package rows, one after the other
  rows_opened : (before : Result State (List ℕ)) (rows : List PackageRow) → IfOpened P before
      → IfOpened P (fold and_then_row before rows)
  rows_opened before rows here =
      rows_leave P (λ (row : PackageRow). Unit {0}) (λ state row one. stays state (removed state.board row.uid)
      state.next_uid refl one)
      (λ state row manifest asked is good one. stays state (record (state.board)
      { packages = place_package (kept_package row manifest) state.board.packages }) state.next_uid refl one)
      before rows (nothing_asked rows) here

  -- the packages were opened
  all_opened : (device : Device) (rows : Rows) (state : Result State (List ℕ)) → IfOpened P state
      → IfOpened P (opened device rows state)
  all_opened device rows (Err name) here = tt
  all_opened device rows (Ok state) here = by (find (has_too_many (with_rights state.board rows))
      (with_rights state.board rows).packages)
    where
      by : (found : Option Package) → IfOpened P (unless_too_many (completed device rows state) found)
      by None = stays state (with_rights state.board rows) (uid_after (uids_of device.packages ++ row_uids rows))
          (rights_else state.board rows).registered here
      by (Some owner) = tt

  -- a device is opened with rows
  opened_with : (device : Device) (rows : Rows) → P (opening device) → IfOpened P (opening_with device rows)
  unfolding opening_with
  opened_with device rows here = all_opened device rows (after_rows (opening device) rows.packages)
      (rows_opened (Ok (opening device)) rows.packages here)

  -- a manager begins
  pub opening_leaves : (origin : Origin) → P (opening origin.device) → P (opening_of origin)
  opening_leaves origin here = by (opening_with origin.device origin.rows) (opened_with origin.device origin.rows here)
    where
      by : (state : Result State (List ℕ)) → IfOpened P state → P (state_or (opening origin.device) state)
      by (Ok state) one = one
      by (Err name) one = here
