-- Counted calls, of which some fail.
use Rattle.std.specs.Prelude.{ℕ, List, Bool, true, false}
use Rattle.am_outside.specs.declared.calls.Calls.{Calls}
use Rattle.am_outside.specs.Memory.{one_more}

-- no calls yet, of which those with these numbers are to fail
abbrev pub no_calls : List ℕ → Calls
no_calls failing = record { failing = failing; made = 0; faults = 0 }

-- one call more, which failed or didn't
abbrev pub after_call : Calls → Bool → Calls
after_call calls true = record calls { made = one_more calls.made; faults = one_more calls.faults }
after_call calls false = record calls { made = one_more calls.made }
