use Rattle.std.proofs.Common.{◌≡◌, drop}
use Rattle.am_model.specs.Visibility.{queries_of}
use Rattle.am_visible.proofs.seeing.queries_of.Given as goal

-- the packages that are left have what all of them have
abbrev pub invariant-loop-i : goal.invariant-loop-i
invariant-loop-i l =
    queries_of (drop l.i l.package-items) (drop l.i l.queries) l.uid ≡ queries_of l.packages l.queries-2 l.uid
