use Rattle.am_audit_shell.proofs.Outcomes.{judged_of, record_of}
use Rattle.am_audit_shell.proofs.program.audit_held.Goals as goal

pub judge_held-requires : goal.judge_held-requires
judge_held-requires c =
    record {
      «record» = record_of c.args.text.now c.deref.result.now c.args.device c.in_ok-history.field-0 c.in-Ok.history
          c.as_slice.result.now
          c.requires.described c.in_ok-history.ensures.read c.in-Ok.is c.as_slice.ensures;
    }

pub returns-in-Ok : goal.returns-in-Ok
returns-in-Ok c =
    judged_of c.judge_held.result c.args.text.now c.deref.result.now c.args.device _ c.in_ok-history.field-0
    c.in-Ok.history c.as_slice.result.now
    c.requires.described c.in_default.ensures c.deref.ensures.value c.in_ok-history.ensures.read c.in-Ok.is
    c.as_slice.ensures c.judge_held.ensures
