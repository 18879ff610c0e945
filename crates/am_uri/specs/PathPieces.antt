-- A phone's pattern and a path as the code reads them, off their front.
use Rattle.std.specs.Prelude.{ℕ, Bool, false, ◌==◌, List, [], ◌∷◌, ◌++◌, Option, Some, None, IsUtf8}
use Rattle.std.specs.declared.str.EncodeUtf16.{EncodeUtf16}
use Rattle.std.specs.Str.Iter.{encode_utf16_pending, encode_utf16_rest}
use Rattle.am_model.specs.Paths.{Mark, Piece, Rest, UpTo, Run, One, phone_marks_of, pieces_of, units}
use Rattle.am_uri.specs.declared.units.Units.{Units}
use Rattle.am_uri.specs.declared.pieces.UnitMark.{UnitMark}
use Rattle.am_uri.specs.declared.pieces.PatternPiece.{PatternPiece}
use Rattle.am_uri.specs.declared.pieces.PatternPiece.TheVariants as kept

-- the units that std's iterator still gives
abbrev pub units_in : EncodeUtf16 → List ℕ
units_in others = encode_utf16_pending others ++ units (encode_utf16_rest others)

-- the units from the first on, if there is one
abbrev pub units_from : Option ℕ → EncodeUtf16 → List ℕ
units_from None others = []
units_from (Some first) others = first ∷ units_in others

-- the units that are left
abbrev pub units_of : Units → List ℕ
units_of left = units_from left.first left.others

-- they are of a text
abbrev pub IsText : Units → Type 0
IsText left = IsUtf8 (encode_utf16_rest left.others)

-- the unit comes first
abbrev pub starts_with : ℕ → List ℕ → Bool
starts_with unit [] = false
starts_with unit (first ∷ others) = first == unit

-- a mark that the code keeps
abbrev pub unit_mark : UnitMark → Mark
unit_mark mark = record { character = mark.unit; plain = mark.plain }

-- a piece that the code keeps
abbrev pub piece_of : PatternPiece → Piece
piece_of kept.Rest = Rest
piece_of (kept.UpTo unit) = UpTo unit
piece_of (kept.Run unit) = Run unit
piece_of (kept.One unit) = One unit

-- the marks of a pattern that are left
abbrev pub marks_ahead : Units → List Mark
marks_ahead left = phone_marks_of (units_of left)

-- the pieces of a pattern that are left
abbrev pub pieces_ahead : Units → List Piece
pieces_ahead left = pieces_of (marks_ahead left)
