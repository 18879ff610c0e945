use Rattle.std.proofs.Common.{◌≡◌, ◌<◌, None, Some, length, sym, subst, arith}
use Rattle.std.specs.Prelude.{slice_get}
use Rattle.am_audit_history.specs.Lines.{IsWhole}
use Rattle.am_audit_history.specs.Replays.{Advances}
use Rattle.am_audit_history.proofs.Formed.{read_again_is_formed}
use Rattle.am_audit_answers.proofs.Going.{next_is_legal, next_there}
use Rattle.am_audit_answers.proofs.places.go_on.Goals as goal

pub advance-requires-clause-formed : goal.advance-requires-clause-formed
advance-requires-clause-formed c =
    let within : c.length-at.result < length c.args.history.now = omega arith in
    let whole : IsWhole c.index-history-at.result =
    subst IsWhole (sym c.index-history-at.is) (c.requires.record.whole c.length-at.result c.index-history-at.result
    within) in
    read_again_is_formed c.index-history-at.result.request whole.request

pub unreachable-requires : goal.unreachable-requires
unreachable-requires c =
    let stops : Advances c.args.replayed c.index-history-at.result None = rw c.in-None.is at c.in_ok-after.ensures in
    let there : slice_get c.args.history.now (length c.args.replayed.history) ≡ Some c.index-history-at.result =
    next_there c.args.history.now (length c.args.replayed.history) c.length-at.result c.index-history-at.result
    c.length-at.ensures.count
    (omega arith) c.index-history-at.is in
    stops (next_is_legal c.args.history.now c.args.replayed c.index-history-at.result c.requires.record.legal
    c.requires.first there)
