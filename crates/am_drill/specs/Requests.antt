-- The generated requests.
use Rattle.std.specs.Prelude.{ℕ, ◌==◌, pos, true, false, List, [], Some, None, if◌then◌else◌}
use Rattle.am_types.specs.declared.broadcast.Ordered.{Ordered}
use Rattle.am_types.specs.declared.intent.Flags.{Flags}
use Rattle.am_types.specs.declared.intent.Intent.{Intent}
use Rattle.am_types.specs.declared.manifest.Kind.TheVariants.{Activity}
use Rattle.am_types.specs.declared.request.Request.{Request}
use Rattle.am_types.specs.declared.request.Request.TheVariants as asks
use Rattle.am_types.specs.Intents.{no_flags, no_intent}
use Rattle.am_drill.specs.Draws.{draw}
use Rattle.am_drill.specs.Devices.{activity_action, broadcast_action}

-- only NEW_TASK
abbrev pub new_task : Flags
new_task = record no_flags { new_task = true }

-- an intent with only an action and flags
abbrev pub acting : List ℕ → Flags → Intent
acting action flags = record no_intent { action = Some action; flags = flags }

-- in order, with the outcome that a broadcast has if none is named, and with a result that nobody asks for
abbrev pub in_order : Ordered
in_order = record { initial = record { code = pos 0; text = None; extras = [] }; wanted = false }

-- the request of a case: a query, a start, an ordered broadcast, or a tick; each except the tick takes a draw for its
-- action
unfoldable pub request_of : ℕ → ℕ → Request
request_of case state =
    if case == 0 then asks.Query Activity (acting (activity_action (draw 0 8 state)) no_flags) false
    else if case == 1 then asks.Start (acting (activity_action (draw 0 8 state)) new_task) None
    else if case == 2 then asks.Send (acting (broadcast_action (draw 0 4 state)) no_flags) None (Some in_order)
    else asks.Tick

-- the draws of a case
abbrev pub draws_of : ℕ → ℕ
draws_of case = if case == 3 then 0 else 1
