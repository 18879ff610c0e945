-- The lines that tell on the errors how a run went, and the statuses.
use Rattle.std.specs.Prelude.{ℕ, codes, List, [], ◌++◌, Result, Ok, Err}
use Rattle.am_http.specs.declared.end.End.{End}
use Rattle.am_http.specs.declared.end.End.TheVariants.{Input, Close, Refused, Cut, Limit, Idle, ReadFault, WriteFault}
use Rattle.am_console.specs.declared.setback.Setback.TheVariants as setbacks
use Rattle.am_console.specs.Setbacks.{setback_status}
use Rattle.am_shell.specs.declared.undone.Undone.{Undone}
use Rattle.am_shell.specs.declared.undone.Undone.TheVariants as undone

-- the line for an output that failed
abbrev pub write_line : List ℕ
write_line = codes "am: write fault\n"

-- the line for words that aren't a command, and the line that memory ran out
abbrev pub usage_line : List ℕ
usage_line = codes "am: usage\n"

abbrev pub no_memory_line : List ℕ
no_memory_line = codes "am: out of memory\n"

-- the line for a kept row that is refused, with the name of its package
abbrev pub rows_line : List ℕ → List ℕ
rows_line name = codes "am: kept rows refused: " ++ name ++ codes "\n"

-- the line for a network that failed
abbrev pub network_line : List ℕ
network_line = codes "am: network fault\n"

-- the line for what wasn't done
abbrev pub line_of : Undone → List ℕ
line_of (undone.Setback (setbacks.DeviceRefused line)) = line
line_of (undone.Setback setbacks.FileFault) = codes "am: file fault\n"
line_of (undone.Setback setbacks.NoMemory) = no_memory_line
line_of undone.StoreFault = codes "am: store fault\n"
line_of (undone.RowsRefused line) = line
line_of undone.NetworkFault = network_line
line_of undone.NoPackage = codes "am: no package\n"
line_of undone.InputFault = codes "am: read fault\n"
line_of (undone.QueryRefused line) = line

-- the status for what wasn't done
abbrev pub status_of : Undone → ℕ
status_of (undone.Setback setback) = setback_status setback
status_of undone.StoreFault = 7
status_of (undone.RowsRefused line) = 10
status_of undone.NetworkFault = 9
status_of undone.NoPackage = 12
status_of undone.InputFault = 5
status_of (undone.QueryRefused line) = 11

-- the line for a session's end; none if it ended well. A session never rests
abbrev pub end_line : End → List ℕ
end_line Input = []
end_line Close = []
end_line Refused = codes "am: session ended: refused\n"
end_line Cut = codes "am: session ended: cut\n"
end_line Limit = codes "am: session ended: limit\n"
end_line Idle = []
end_line ReadFault = codes "am: read fault\n"
end_line WriteFault = write_line

-- the status for a session's end
abbrev pub end_status : End → ℕ
end_status Input = 0
end_status Close = 0
end_status Refused = 1
end_status Cut = 1
end_status Limit = 1
end_status Idle = 0
end_status ReadFault = 5
end_status WriteFault = 6

-- the line and the status of a session that ended so, or didn't begin
abbrev pub session_line : Result End Undone → List ℕ
session_line (Ok end) = end_line end
session_line (Err why) = line_of why

abbrev pub session_status : Result End Undone → ℕ
session_status (Ok end) = end_status end
session_status (Err why) = status_of why
