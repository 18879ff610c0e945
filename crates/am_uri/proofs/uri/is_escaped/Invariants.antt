use Rattle.std.proofs.Common.{◌≡◌, drop}
use Rattle.am_model.specs.Uris.{is_escaped}
use Rattle.am_uri.proofs.uri.is_escaped.Given as goal

abbrev pub invariant-loop-i : goal.invariant-loop-i
invariant-loop-i l = is_escaped (drop l.i l.path) ≡ is_escaped l.path
