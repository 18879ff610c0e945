-- What a call comes to that may be refused.
use Rattle.std.specs.Prelude.{Option, Some, None, Result, Ok, Err}

-- a refusal, if there is a reason for one; otherwise what is done
abbrev pub unless_refused : {X F : Type 0} → Option F → X → Result X F
unless_refused None done = Ok done
unless_refused (Some fault) done = Err fault
