use Rattle.std.proofs.Common.{◌≡◌, drop}
use Rattle.am_keeper.specs.Rows.{with_all}
use Rattle.am_keeper.proofs.logged.replay.Given as goal

abbrev pub invariant-loop-row : goal.invariant-loop-row
invariant-loop-row l = with_all l.made (drop l.row-index l.puts) ≡ with_all l.fn.made l.puts
