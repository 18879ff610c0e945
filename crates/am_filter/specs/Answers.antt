-- The definitions' answers as results.
use Rattle.std.specs.Prelude.{Option, Some, None, Result, Ok, Err}
use Rattle.am_types.specs.declared.filter.Why.{Why}

-- Ok if there is no reason against it
abbrev pub answer_of : Option Why → Result (Unit {0}) Why
answer_of None = Ok tt
answer_of (Some reason) = Err reason
