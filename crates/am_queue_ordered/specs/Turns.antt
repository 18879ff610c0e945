-- An ordered broadcast as the code keeps it: the place of the receiver that set its outcome, and what strikes
-- receivers.
use Rattle.std.specs.Prelude.{◌≡◌, ℕ, ◌+◌, ◌≤◌, Bool, false, not, ◌&&◌, true, List, [], ◌∷◌, length, Option, Some, None, slice_get}
use Rattle.std.specs.List.{list_any}
use Rattle.am_types.specs.declared.broadcast.Outcome.{Outcome}
use Rattle.am_types.specs.declared.broadcast.Spot.{Spot}
use Rattle.am_types.specs.declared.broadcast.Item.{Item}
use Rattle.am_types.specs.declared.broadcast.ItemKind.TheVariants as kinds
use Rattle.am_model.specs.Broadcasts as broadcasts
use Rattle.am_model.specs.Broadcasts.{Doing, Past, InTurn, Current, is_abort, doings, outcome_of, outcome_after}
use Rattle.am_model.specs.Sending.{Held}

-- the outcome set by what a receiver did
abbrev pub set_by : Doing → Option Outcome
set_by (broadcasts.Answered answer) = answer.set
set_by broadcasts.Late = None
set_by broadcasts.Gone = None

-- the outcome that a past receiver set
abbrev pub set_by_past : Option Past → Option Outcome
set_by_past None = None
set_by_past (Some past) = set_by past.doing

-- the outcome that the receiver at a place set, or the initial one
abbrev pub outcome_at : Outcome → List Past → Option ℕ → Outcome
outcome_at initial past None = initial
outcome_at initial past (Some place) = outcome_after initial (set_by_past (slice_get past place))

-- how many receivers there are up to a place
abbrev pub up_to : Option ℕ → ℕ
up_to None = 0
up_to (Some place) = place + 1

-- an abort that counts ended the broadcast
abbrev pub was_aborted : InTurn → Bool
was_aborted broadcast = not broadcast.no_abort && list_any is_abort (doings broadcast)

-- the place is that of the last receiver that set the outcome, and the mark tells whether an abort ended the broadcast
pub record IsMarked (broadcast : InTurn) (last : Option ℕ) (aborted : Bool) : Type 0 where
  pub outcome : outcome_of broadcast ≡ outcome_at broadcast.initial broadcast.past last
  pub within : up_to last ≤ length broadcast.past
  pub ended : aborted ≡ was_aborted broadcast

-- the receiver that has the broadcast's delivery is struck
abbrev pub strikes_current : (Spot → Bool) → List Spot → Option Current → Bool
strikes_current struck rest None = false
strikes_current struck [] (Some current) = false
strikes_current struck (spot ∷ rest) (Some current) = struck spot

-- the uid that holds the delivery of an ordered broadcast
abbrev pub in_order : ℕ → Held
in_order uid = record { uid = uid; ordered = true }

-- a result as an item
abbrev pub final_item : broadcasts.Result → Item
final_item r = record { delivery = r.delivery; broadcast = r.broadcast; what = kinds.Final r.outcome }
