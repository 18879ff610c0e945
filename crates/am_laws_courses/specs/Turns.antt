-- The deliveries of an ordered broadcast go to its receivers in turn.
use Rattle.std.specs.Prelude.{◌≡◌, List, [], ◌∷◌, ◌++◌, map, All, Option, Some, None}
use Rattle.am_types.specs.declared.broadcast.Spot.{Spot}
use Rattle.am_types.specs.declared.history.Entry.{Entry}
use Rattle.am_model.specs.Broadcasts.{Broadcasts, InTurn, Past, Current}
use Rattle.am_history.specs.State.{State}
use Rattle.am_history.specs.History.{replay}
use Rattle.am_laws_courses.specs.Course.{turn_of}

-- the first of these receivers, if it has the delivery
abbrev pub holder_of : Option Current → List Spot → List Spot
holder_of None rest = []
holder_of (Some current) [] = []
holder_of (Some current) (spot ∷ others) = spot ∷ []

-- the receivers that have had a delivery of the broadcast: those that are past, and the first that is left if it has
-- one now
abbrev pub reached : InTurn → List Spot
reached b = map (λ (p : Past). p.spot) b.past ++ holder_of b.current b.rest

-- the later receivers begin with the earlier ones
abbrev pub BeginWith : List Spot → List Spot → Type 0
BeginWith earlier later = (added : List Spot) × (later ≡ earlier ++ added)

-- at each place of the history at which the broadcast was in a queue, those that had had a delivery of it are the
-- first of those that have had one now: since then each is past, or the one that had it has it still
abbrev pub GoesInTurn : State → List Entry → InTurn → Type 0
GoesInTurn opening history b =
    (earlier later : List Entry) (then : InTurn) → history ≡ earlier ++ later
    → turn_of (replay opening earlier).broadcasts b.number ≡ Some then → BeginWith (reached then) (reached b)

-- no other broadcast in a queue has its number, and its deliveries went in turn
pub record IsInTurn (opening : State) (history : List Entry) (b : InTurn) : Type 0 where
  pub own : turn_of (replay opening history).broadcasts b.number ≡ Some b
  pub since : GoesInTurn opening history b

-- this holds for each ordered broadcast
pub record OfTurns (C : InTurn → Type 0) (all : Broadcasts) : Type 0 where
  pub foreground : All C all.foreground
  pub background : All C all.background
