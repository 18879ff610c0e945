use Rattle.std.proofs.lemmas.Result.{err_from_is_err_and}
use Rattle.am_http.specs.Links.{source_of}
use Rattle.am_shell.proofs.QuestionLemmas.{failed_behind}
use Rattle.am_shell.proofs.question.read_input.Goals as goal

-- the input wasn't read on
pub returns-in_err-read_piece-clause-failed : goal.returns-in_err-read_piece-clause-failed
returns-in_err-read_piece-clause-failed g c =
    let view = source_of g.S.Source in
    let so_far = c.loop-input.invariant in
    let p = err_from_is_err_and c.from_residual.result c.from_residual.ensures.1 in
    rw (p.1, p.2) (failed_behind c.in_err-read_piece.field-0.0 (view c.args.input.now) (view c.loop-input.input)
    (view c.read_piece.new.input)
    c.loop-input.bytes.items so_far.taken so_far.within so_far.never_falls c.in_err-read_piece.ensures.failed)
