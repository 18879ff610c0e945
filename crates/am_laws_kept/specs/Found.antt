-- The rows that a history has kept, and what an opening finds again.
use Rattle.std.specs.Prelude.{◌≡◌, ℕ, true, ◌&&◌, List, [], ◌∷◌, ◌++◌, map, Option, Some, None, Ok, if◌then◌else◌}
use Rattle.am_types.specs.declared.device.Device.{Device}
use Rattle.am_types.specs.declared.device.Package.{Package}
use Rattle.am_types.specs.declared.device.Grant.{Grant}
use Rattle.am_types.specs.declared.device.Link.{Link}
use Rattle.am_types.specs.declared.history.Entry.{Entry}
use Rattle.am_keeper.specs.declared.rows.Row.{Row}
use Rattle.am_keeper.specs.declared.rows.Rows.{Rows}
use Rattle.am_keeper.specs.Rows.{with_row}
use Rattle.am_history.specs.State.{State}
use Rattle.am_history.specs.Kept.{row_of}
use Rattle.am_history.specs.Opening.{opening_with}
use Rattle.am_history.specs.Steps.{after_due, asks_keeper, step}

-- the packages, each of them stopped
abbrev pub as_stopped : List Package → List Package
as_stopped packages = map (λ (p : Package). record p { stopped = true }) packages

-- what is kept of a state: its packages, stopped, its grants and its links, the next uid, and the keys of its owners
pub record Kept : Type 0 where
  pub packages : List Package
  pub grants : List Grant
  pub links : List Link
  pub next_uid : ℕ
  pub system_key : List ℕ
  pub root_key : Option (List ℕ)

-- what is kept of that state
abbrev pub kept_of : State → Kept
kept_of state = record {
  packages = as_stopped state.board.packages;
  grants = state.board.grants;
  links = state.board.links;
  next_uid = state.next_uid;
  system_key = state.system_key;
  root_key = state.root_key;
}

-- the device opens with the rows, and finds what is kept of the state
pub record OpensAs (device : Device) (rows : Rows) (state : State) : Type 0 where
  pub found : State
  pub opens : opening_with device rows ≡ Ok found
  pub same : kept_of found ≡ kept_of state

-- the row that an entry has kept after the entries `before`: the row of its request, if it was accepted
abbrev pub row_kept : State → List Entry → Entry → Option Row
row_kept state before entry =
    if entry.kept && asks_keeper (after_due state entry.now) before entry.uid entry.request
    then row_of state entry.request
    else None

-- the rows with one more put, if there is one
abbrev pub with_kept : Rows → Option Row → Rows
with_kept rows None = rows
with_kept rows (Some row) = with_row rows row

-- the rows after those that these entries have kept were put, if the entries `before` came first
abbrev pub rows_after_from : State → List Entry → Rows → List Entry → Rows
rows_after_from state before rows [] = rows
rows_after_from state before rows (first ∷ others) =
    rows_after_from (step state before first).1 (before ++ first ∷ [])
    (with_kept rows (row_kept state before first)) others

-- the rows after those that the entries of a history have kept were put
abbrev pub rows_after : State → Rows → List Entry → Rows
rows_after opening rows history = rows_after_from opening [] rows history
