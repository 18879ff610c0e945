use Rattle.std.proofs.Common.{◌≡◌, length}
use Rattle.am_model.specs.Paths.{past_run}
use Rattle.am_uri.specs.PathPieces.{IsText, units_of}
use Rattle.am_uri.proofs.units.Units.skip_all.Given as goal

-- the units so far are of the run
abbrev pub invariant-loop-self : goal.invariant-loop-self
invariant-loop-self l = record {
  text : IsText l.self;
  so_far : past_run l.unit (units_of l.self) ≡ past_run l.unit (units_of l.initial.self);
}

abbrev pub decreases-loop-self : goal.decreases-loop-self
decreases-loop-self l = length (units_of l.self)
