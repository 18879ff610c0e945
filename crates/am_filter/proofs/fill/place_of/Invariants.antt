use Rattle.std.proofs.Common.{◌≡◌, ◌++◌, take, drop}
use Rattle.am_model.specs.Intents.{place_extra}
use Rattle.am_filter.proofs.fill.place_of.Given as goal

abbrev pub invariant-loop-i : goal.invariant-loop-i
invariant-loop-i l = take l.i l.extras ++ place_extra l.extra (drop l.i l.extras) ≡ place_extra l.extra l.extras
