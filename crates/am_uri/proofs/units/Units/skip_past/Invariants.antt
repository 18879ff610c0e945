use Rattle.std.proofs.Common.{◌≡◌, List, ◌∷◌, length}
use Rattle.am_model.specs.Paths.{Piece, UpTo, fits}
use Rattle.am_uri.specs.PathPieces.{IsText, units_of}
use Rattle.am_uri.proofs.units.Units.skip_past.Given as goal

-- none of the units so far is the one that is looked for
abbrev pub invariant-loop-next : goal.invariant-loop-next
invariant-loop-next l = record {
  text : IsText l.self;
  so_far : (others : List Piece) → fits (UpTo l.unit ∷ others) (units_of l.self)
      ≡ fits (UpTo l.unit ∷ others) (units_of l.initial.self);
}

abbrev pub decreases-loop-next : goal.decreases-loop-next
decreases-loop-next l = length (units_of l.self)
