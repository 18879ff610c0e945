-- What the code decides about a caller, as the verdict that it is.
use Rattle.std.specs.Prelude.{ℕ, List}
use Rattle.am_model.specs.Gates as gates
use Rattle.am_gates.specs.declared.gate.Ruling.{Ruling}
use Rattle.am_gates.specs.declared.gate.Ruling.TheVariants.{Admit, NotExported, NeedsPermission}

abbrev pub verdict_of : Ruling → gates.Verdict
verdict_of Admit = gates.Admit
verdict_of NotExported = gates.NotExported
verdict_of (NeedsPermission permission) = gates.NeedsPermission permission.now
