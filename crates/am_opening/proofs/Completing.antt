-- The rights that were kept, list by list, and the state that they complete.
use Rattle.std.proofs.Common.{◌≡◌, ℕ, ◌+◌, Bool, true, false, ◌&&◌, cond, List, [], ◌∷◌, max, refl, ap, ◌∙◌, subst, sym}
use Rattle.std.specs.Prelude.{Result, Ok}
use Rattle.std.specs.List.{fold, find}
use Rattle.std.proofs.lemmas.List.Sums.{fold-append}
use Rattle.am_types.specs.declared.device.Device.{Device}
use Rattle.am_types.specs.declared.device.Grant.{Grant}
use Rattle.am_types.specs.declared.device.Link.{Link}
use Rattle.am_keeper.specs.declared.rows.GrantRow.{GrantRow}
use Rattle.am_keeper.specs.declared.rows.LinkRow.{LinkRow}
use Rattle.am_keeper.specs.declared.rows.Rows.{Rows}
use Rattle.am_model.specs.Texts.{is_same, lowered}
use Rattle.am_model.specs.Boards.{Board, is_package_uid, with_grant, with_link}
use Rattle.am_history.specs.State.{State, opening, uids_of}
use Rattle.am_history.specs.Opening.{after_grant, after_link, after_rows, has_too_many, opened, opening_with, row_uids, unless_too_many, with_rights}
use Rattle.am_opening.specs.declared.opened.Opened.{Opened}
use Rattle.am_opening.specs.declared.opened.BeginFault.{BeginFault}
use Rattle.am_opening.specs.declared.opened.BeginFault.TheVariants as faults
use Rattle.am_opening.specs.Openings.{Opens, Refuses, after_grant_row, after_link_row, completed_from, grants_after, links_after, opened_from, state_of}

-- a field is set to what a test makes or leaves of it
set_if : {A : Type 0} (set : A → Board) (b : Bool) (made own : A) → cond b (set made) (set own) ≡ set (cond b made own)
set_if set true made own = refl
set_if set false made own = refl

-- and by rows to what they make of it one after the other
set_rows : {A R : Type 0} (set : A → Board) (step : Board → R → Board) (own : A → R → A)
    → ((x : A) (row : R) → step (set x) row ≡ set (own x row))
    → (x : A) (rows : List R) → fold step (set x) rows ≡ set (fold own x rows)
set_rows set step own each x [] = refl
set_rows set step own each x (row ∷ rows) = ap (λ (b : Board). fold step b rows) (each x row)
    ∙ set_rows set step own each (own x row) rows

-- grant rows set the grants alone
grant_rows : (board : Board) (rows : List GrantRow) → fold after_grant board rows
    ≡ record board { grants = grants_after board.packages board.grants rows }
grant_rows board rows =
    set_rows (λ (gs : List Grant). record board { grants = gs }) after_grant (after_grant_row board.packages)
    (λ gs row. set_if (λ (made : List Grant). record board { grants = made }) (is_package_uid board.packages row.uid)
    (with_grant gs row.uid row.permission row.held) gs)
    board.grants rows

-- and link rows the links
link_rows : (board : Board) (rows : List LinkRow) → fold after_link board rows
    ≡ record board { links = links_after board.packages board.links rows }
link_rows board rows =
    set_rows (λ (ls : List Link). record board { links = ls }) after_link (after_link_row board.packages)
    (λ ls row. set_if (λ (made : List Link). record board { links = made })
    (is_package_uid board.packages row.uid && is_same (lowered row.host) row.host)
    (with_link ls row.uid row.host row.approved) ls) board.links rows

-- rows of rights change grants and links alone
pub rights_are : (board : Board) (rows : Rows) → with_rights board rows
    ≡ record board {
      grants = grants_after board.packages board.grants rows.grants;
      links = links_after board.packages
          board.links rows.links;
    }
rights_are board rows =
    ap (λ b. fold after_link b rows.links) (grant_rows board rows.grants)
    ∙ link_rows (record board { grants = grants_after board.packages board.grants rows.grants }) rows.links

-- what is opened with these grants, these links and this next uid is the completed state
pub completed_is : (first : Opened) (greatest next : ℕ) (rows : Rows) → next ≡ fold max greatest (row_uids rows) →
    state_of (record {
      device = record (first.device) {
        grants = grants_after first.device.packages first.device.grants rows.grants;
        links = links_after first.device.packages first.device.links rows.links;
      };
      next_uid = next + 1;
    }) ≡ completed_from greatest rows (state_of first)
completed_is first greatest next rows is =
    ap (λ n. record (opening first.device) {
      board = record ((opening first.device).board) {
        grants = grants_after first.device.packages first.device.grants rows.grants;
        links = links_after first.device.packages first.device.links rows.links;
      };
      next_uid = n + 1;
    }) is
    ∙ ap (λ b. record (opening first.device) { board = b; next_uid = fold max greatest (row_uids rows) + 1 })
    (sym (rights_are ((opening first.device).board) rows))

-- the uids of the device's packages count first
opened_is : (device : Device) (rows : Rows) (state : State) → opened device rows (Ok state)
    ≡ opened_from (fold max 9999 (uids_of device.packages)) rows state
opened_is device rows state =
    ap (λ n. let after : State = record state { board = with_rights state.board rows; next_uid = n + 1 } in
    unless_too_many after (find (has_too_many after.board) after.board.packages))
    (fold-append max 9999 (uids_of device.packages) (row_uids rows))

-- the device with its own next uid is its own opening
begins : (device : Device) (greatest : ℕ) → greatest ≡ fold max 9999 (uids_of device.packages) →
    state_of (record { device = device; next_uid = greatest + 1 }) ≡ opening device
begins device greatest is = ap (λ n. record (opening device) { next_uid = n + 1 }) is

-- what package rows open is completed
pub opens_complete : (device : Device) (rows : Rows) (greatest : ℕ) (first : Opened) → greatest
    ≡ fold max 9999 (uids_of device.packages)
    → after_rows (state_of (record { device = device; next_uid = greatest + 1 })) rows.packages ≡ Ok (state_of first)
    → (result : Result Opened BeginFault) → Opens result (opened_from greatest rows (state_of first))
    → Opens result (opening_with device rows)
unfolding opening_with
opens_complete device rows greatest first is opens result gives =
    subst (Opens result)
    (ap (λ n. opened_from n rows (state_of first)) is
    ∙ sym (opened_is device rows (state_of first))
    ∙ ap (opened device rows) (sym opens ∙ ap (λ s. after_rows s rows.packages) (begins device greatest is)))
    gives

-- and what they refuse is refused
pub opens_refuse : (device : Device) (rows : Rows) (greatest : ℕ) (fault : BeginFault) → greatest
    ≡ fold max 9999 (uids_of device.packages)
    → Refuses fault (after_rows (state_of (record { device = device; next_uid = greatest + 1 })) rows.packages)
    → Refuses fault (opening_with device rows)
unfolding opening_with
opens_refuse device rows greatest faults.NoMemory is refuses = tt
opens_refuse device rows greatest (faults.Rows name) is refuses =
    ap (opened device rows) (ap (λ s. after_rows s rows.packages) (sym (begins device greatest is)) ∙ refuses)
