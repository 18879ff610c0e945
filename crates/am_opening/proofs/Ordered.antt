-- Grants and links stay in order while package rows are followed.
use Rattle.std.proofs.Common.{◌≡◌, ℕ, not, List, subst}
use Rattle.std.specs.Prelude.{Result, Ok, ◌==◌}
use Rattle.std.specs.List.{fold}
use Rattle.am_types.specs.declared.device.Device.{Device}
use Rattle.am_types.specs.declared.device.Grant.{Grant}
use Rattle.am_types.specs.declared.device.Link.{Link}
use Rattle.am_keeper.specs.declared.rows.PackageRow.{PackageRow}
use Rattle.am_model.specs.Boards.{Board}
use Rattle.am_model.specs.Sound.{IsSound}
use Rattle.am_installed.specs.Installed.{AreGrantsInOrder, AreLinksInOrder}
use Rattle.am_installed.proofs.Orders.{fewer_grants, fewer_links}
use Rattle.am_history.specs.State.{State}
use Rattle.am_history.specs.Opening.{and_then_row, after_rows}
use Rattle.am_history.proofs.OpeningLaws.{IfOpened, nothing_asked, rows_leave}
use Rattle.am_opening.specs.declared.opened.Opened.{Opened}
use Rattle.am_opening.specs.Openings.{state_of}

-- grants and links stand in order
pub record AreRightsInOrder (board : Board) : Type 0 where
  pub grants : AreGrantsInOrder board.grants
  pub links : AreLinksInOrder board.links

-- and so they do in a state that isn't refused
abbrev InOrder : Result State (List ℕ) → Type 0
InOrder = IfOpened (λ (state : State). AreRightsInOrder state.board)

rows_ordered : (before : Result State (List ℕ)) (rows : List PackageRow) → InOrder before
    → InOrder (fold and_then_row before rows)
rows_ordered before rows order =
    rows_leave (λ (state : State). AreRightsInOrder state.board) (λ (row : PackageRow). Unit {0})
    (λ state row one. record {
      grants = fewer_grants (λ (g : Grant). not (g.uid == row.uid)) state.board.grants one.grants;
      links = fewer_links (λ (l : Link). not (l.uid == row.uid)) state.board.links one.links;
    }) (λ state row manifest asked is good one. record { grants = one.grants; links = one.links }) before rows
    (nothing_asked rows) order

-- the rights of a sound device that package rows opened stand in order
pub opened_ordered : (device : Device) (next : ℕ) (rows : List PackageRow) (first : Opened) → IsSound device
    → after_rows (state_of (record { device = device; next_uid = next })) rows ≡ Ok (state_of first)
    → AreRightsInOrder ((state_of first).board)
opened_ordered device next rows first sound opens =
    subst InOrder opens
    (rows_ordered (Ok (state_of (record { device = device; next_uid = next }))) rows
    (record { grants = sound.grants.order; links = sound.links.order }))
