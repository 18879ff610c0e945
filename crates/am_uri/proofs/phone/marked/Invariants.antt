use Rattle.std.proofs.Common.{◌≡◌, ◌++◌, false, drop}
use Rattle.am_model.specs.Uris.{marked_from}
use Rattle.am_uri.proofs.phone.marked.Given as goal

abbrev pub invariant-loop-i : goal.invariant-loop-i
invariant-loop-i l = l.bytes.items ++ marked_from l.bad (drop l.i l.text) ≡ marked_from false l.text
