use Rattle.std.proofs.Common.{◌≡◌, ◌≤◌, ◌+◌, length, take}
use Rattle.am_model.specs.Intents.{united_extras}
use Rattle.am_filter.proofs.fill.added_count.Given as goal

abbrev pub invariant-loop-i : goal.invariant-loop-i
invariant-loop-i l = record {
  within : l.added ≤ l.i;
  counted : length l.kept + l.added ≡ length (united_extras l.kept (take l.i l.other));
}
