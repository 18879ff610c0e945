use Rattle.std.proofs.Common.{◌≡◌, length}
use Rattle.am_model.specs.Paths.{fits, phone_passes_pattern}
use Rattle.am_uri.specs.PathPieces.{IsText, pieces_ahead, units_of}
use Rattle.am_uri.proofs.pieces.phone_passes_pattern.Given as goal

-- what is left of the pattern and of the path decides
abbrev pub invariant-loop-piece : goal.invariant-loop-piece
invariant-loop-piece l = record {
  pattern_text : IsText l.pieces;
  path_text : IsText l.rest;
  so_far : fits (pieces_ahead l.pieces) (units_of l.rest) ≡ phone_passes_pattern l.fn.pattern l.fn.path;
}

abbrev pub decreases-loop-piece : goal.decreases-loop-piece
decreases-loop-piece l = length (units_of l.pieces)
