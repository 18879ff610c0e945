use Rattle.std.proofs.Common.{◌≡◌, take}
use Rattle.am_model.specs.Intents.{united_extras}
use Rattle.am_filter.proofs.fill.united_extras.Given as goal

abbrev pub invariant-loop-extra : goal.invariant-loop-extra
invariant-loop-extra l = l.extras.items ≡ united_extras l.fn.kept (take l.extra-index l.fn.other)
