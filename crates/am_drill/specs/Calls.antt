-- The calls of the generated requests.
use Rattle.std.specs.Prelude.{ℕ, zero, suc, ◌*◌, ◌==◌, codes, List, map, if◌then◌else◌}
use Rattle.std.specs.List.{range_with_len}
use Rattle.am_types.specs.declared.request.Request.{Request}
use Rattle.am_history.specs.Steps.{Call}
use Rattle.am_drill.specs.Bodies.{weight_of}
use Rattle.am_drill.specs.Draws.{after, draw}
use Rattle.am_drill.specs.Devices.{key_of}
use Rattle.am_drill.specs.Requests.{draws_of, request_of}

-- the key of the caller of a case: the key of the package with this number, except the system's for a tick
abbrev pub caller_of : ℕ → ℕ → List ℕ
caller_of case i = if case == 3 then codes "sys" else key_of i

-- the case of a request, which is its second draw
abbrev pub case_of : ℕ → ℕ
case_of state = draw 1 4 state

-- the state after the draws of a request
unfoldable pub behind : ℕ → ℕ
behind state = after (draws_of (case_of state)) (after 2 state)

-- the call of a request at a moment
abbrev pub call_of : List ℕ → ℕ → Request → Call
call_of key now request = record { desk = 0; key = key; now = now; weight = weight_of request; request = request }

-- call number j on a device of so many packages: its first draw is for its caller, and its moment is 1000 * j
unfoldable pub call_at : ℕ → ℕ → ℕ → Call
call_at packages j state =
    call_of (caller_of (case_of state) (draw 0 packages state)) (1000 * j) (request_of (case_of state) (after 2 state))

-- the state before the draws of request number j
abbrev pub before : ℕ → ℕ → ℕ
before zero state = state
before (suc j) state = behind (before j state)

-- so many calls, each with the draws that follow those of the calls before it
abbrev pub calls_of : ℕ → ℕ → ℕ → List Call
calls_of packages requests state = map (λ j. call_at packages j (before j state)) (range_with_len 0 requests)
