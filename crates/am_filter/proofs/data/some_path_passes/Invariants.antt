use Rattle.std.proofs.Common.{◌≡◌, false, take}
use Rattle.std.specs.List.{list_any}
use Rattle.am_model.specs.Paths.{passes_path}
use Rattle.am_filter.proofs.data.some_path_passes.Given as goal

abbrev pub invariant-loop-i : goal.invariant-loop-i
invariant-loop-i l = list_any (λ rule. passes_path l.rules rule l.path) (take l.i l.listed) ≡ false
