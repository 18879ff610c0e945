-- One turn of a connection: what became of its next frame.
use Rattle.std.specs.Prelude.{Bool, true, false, ⊤}
use Rattle.am_http.specs.declared.connection.Turn.{Turn}
use Rattle.am_http.specs.declared.connection.Turn.TheVariants as turn
use Rattle.am_http.specs.Links.{Link, Midway}
use Rattle.am_http.specs.Sessions.{Replies, Stops, HasFault}

-- the frame was answered and the connection goes on, or was closed, or it ended
abbrev pub Turns : Bool → Turn → Midway → Midway → Type 0
Turns waits turn.Went old new = Replies waits false old new
Turns waits turn.Closed old new = Replies waits true old new
Turns waits (turn.Stopped end) old new = Stops waits end old new

-- an end by a fault has its cause
abbrev pub HasFaultAt : Turn → Link → Link → Type 0
HasFaultAt turn.Went old new = ⊤
HasFaultAt turn.Closed old new = ⊤
HasFaultAt (turn.Stopped end) old new = HasFault end old new
