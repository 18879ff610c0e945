use Rattle.am_audit_history.specs.Lines.{IsWritten}
use Rattle.am_audit_history.proofs.Formed.{read_again_is_formed}
use Rattle.am_audit_history.proofs.Unique.{isnt_taken, no_entry}
use Rattle.am_audit_history.proofs.history.take_line.Goals as goal

pub returns-in-Ok-None : goal.returns-in-Ok-None
returns-in-Ok-None c =
    no_entry c.args.replayed c.args.line.now c.length.result c.length.ensures.count
    (rw c.in-Ok-None.field-0-is at c.in-Ok-None.ensures)

pub advance-requires-clause-formed : goal.advance-requires-clause-formed
advance-requires-clause-formed c =
    let written : IsWritten c.length.result c.in-Ok-Some.entry c.args.line.now = rw c.in-Ok-Some.field-0-is at
    c.in-Ok-Some.ensures in
    read_again_is_formed c.in-Ok-Some.entry.request written.whole.request

pub returns-in-Ok-None-advance : goal.returns-in-Ok-None-advance
returns-in-Ok-None-advance c =
    let written : IsWritten c.length.result c.in-Ok-Some.entry c.args.line.now = rw c.in-Ok-Some.field-0-is at
    c.in-Ok-Some.ensures in
    isnt_taken c.args.replayed c.args.line.now c.in-Ok-Some.entry c.length.result c.length.ensures.count written
    (rw c.in-Ok-None-advance.field-0-is at c.in-Ok-None-advance.ensures)
