use Rattle.std.proofs.Common.{◌∷◌, ◌∙◌, sym, ap}
use Rattle.am_model.specs.Paths.{Rest, phone_marks_of, pieces_of}
use Rattle.am_uri.specs.PathPieces.{unit_mark, units_of}
use Rattle.am_uri.proofs.PathPieces.{piece_one, piece_run, piece_rest, piece_up_to}
use Rattle.am_uri.proofs.PathUnits.{first_off}
use Rattle.am_uri.proofs.pieces.next_piece.Goals as goal

pub returns-then-not-starts_with-clause-piece : goal.returns-then-not-starts_with-clause-piece
returns-then-not-starts_with-clause-piece c =
    ap pieces_of c.in_ok-mark.ensures.mark
    ∙ piece_one (unit_mark c.in_ok-mark.mark) (units_of c.next_mark.new.pattern)
    (sym c.starts_with.ensures ∙ c.if-not-starts_with.true)

pub returns-then-not-is_plain_dot-clause-piece : goal.returns-then-not-is_plain_dot-clause-piece
returns-then-not-is_plain_dot-clause-piece c =
    let star = first_off 42 _ _ c.next.result (sym c.starts_with.ensures ∙ c.if-not-starts_with.false)
    c.next.ensures.unit in
    ap pieces_of c.in_ok-mark.ensures.mark
    ∙ ap (λ l. pieces_of (unit_mark c.in_ok-mark.mark ∷ phone_marks_of l)) star
    ∙ piece_run (unit_mark c.in_ok-mark.mark) (units_of c.next.new.self)
    (sym c.is_plain_dot.ensures ∙ c.if-not-is_plain_dot.true)

pub returns-in-Some-clause-piece : goal.returns-in-Some-clause-piece
returns-in-Some-clause-piece c =
    let star = first_off 42 _ _ c.next.result (sym c.starts_with.ensures ∙ c.if-not-starts_with.false)
    c.next.ensures.unit in
    ap pieces_of c.in_ok-mark.ensures.mark
    ∙ ap (λ l. pieces_of (unit_mark c.in_ok-mark.mark ∷ phone_marks_of l)) star
    ∙ piece_up_to (unit_mark c.in_ok-mark.mark) (unit_mark c.in-Some.after) (units_of c.next.new.self)
    (phone_marks_of (units_of c.next_mark-2.new.pattern))
    (sym c.is_plain_dot.ensures ∙ c.if-not-is_plain_dot.false) c.in-Some.ensures.mark

pub returns-in-None-clause-piece : goal.returns-in-None-clause-piece
returns-in-None-clause-piece c =
    let star = first_off 42 _ _ c.next.result (sym c.starts_with.ensures ∙ c.if-not-starts_with.false)
    c.next.ensures.unit in
    ap pieces_of c.in_ok-mark.ensures.mark
    ∙ ap (λ l. pieces_of (unit_mark c.in_ok-mark.mark ∷ phone_marks_of l)) star
    ∙ piece_rest (unit_mark c.in_ok-mark.mark) (units_of c.next.new.self)
    (sym c.is_plain_dot.ensures ∙ c.if-not-is_plain_dot.false) c.in-None.ensures.mark.0
    ∙ ap (λ m. Rest ∷ pieces_of m) (sym c.in-None.ensures.mark.1)
