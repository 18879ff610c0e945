use Rattle.std.proofs.Common.{◌≡◌, ◌<◌, List, [], ◌∷◌, ◌++◌, Some, None, length, sym, ap, ◌∙◌, arith}
use Rattle.std.proofs.lemmas.Bool.Decides.{nat_tests}
use Rattle.am_types.specs.declared.history.Entry.{Entry}
use Rattle.am_history.specs.State.{opening}
use Rattle.am_audit_history.specs.Reading.{TakesLine}
use Rattle.am_audit_history.proofs.Taken.{ends_history, goes_on_reading, is_refused}
use Rattle.am_audit_history.proofs.history.read_history.Goals as goal

pub returns-in-Ok-None : goal.returns-in-Ok-None
returns-in-Ok-None c =
    let more : 0 < length c.loop-rest.rest.now = grind (arith, nat_tests, c.is_empty.ensures, c.loop-rest-test.true) in
    let refused : TakesLine c.loop-rest.replayed c.split_line.result.0.now None = rw c.in-Ok-None.field-0-is at
    c.in-Ok-None.ensures in
    record {
      read = is_refused (opening c.args.device) c.args.bytes.now c.loop-rest.replayed c.loop-rest.rest.now
          c.split_line.result.0.now c.length-number.result
          c.loop-rest.invariant.start c.loop-rest.invariant.reads more c.length-number.ensures.count
          c.split_line.ensures.line refused;
    }

pub loop-rest-preserved : goal.loop-rest-preserved
loop-rest-preserved c =
    let more : 0 < length c.loop-rest.rest.now = grind (arith, nat_tests, c.is_empty.ensures, c.loop-rest-test.true) in
    let taken : TakesLine c.loop-rest.replayed c.split_line.result.0.now (Some (c.in-Ok-Some.after, c.in-Ok-Some.entry))
    =
    rw c.in-Ok-Some.field-0-is at c.in-Ok-Some.ensures in
    let pushed : c.push.new.self.items ≡ c.loop-rest.entries.items ++ c.in-Ok-Some.entry
    ∷ [] = rw c.in_default.is at c.push.ensures.items in
    let read = goes_on_reading (opening c.args.device) c.args.bytes.now c.loop-rest.replayed c.in-Ok-Some.after
    c.loop-rest.rest.now
    c.split_line.result.0.now c.split_line.result.1.now c.in-Ok-Some.entry
    c.loop-rest.invariant.start c.loop-rest.invariant.reads more c.split_line.ensures.line c.split_line.ensures.rest
    taken in
    record {
      start = read.0;
      reads = read.1;
      entries = pushed ∙ ap (λ (h : List Entry). h ++ c.in-Ok-Some.entry ∷ []) c.loop-rest.invariant.entries
          ∙ sym taken.1.history;
    }

pub returns : goal.returns
returns c =
    let none : length c.loop-rest.rest.now ≡ 0 = grind (arith, nat_tests, c.is_empty.ensures, c.loop-rest-test.false) in
    record {
      read = ends_history (opening c.args.device) c.args.bytes.now c.loop-rest.replayed.history c.loop-rest.rest.now
          c.new.result
          c.loop-rest.invariant.reads none (c.new.ensures ∙ c.loop-rest.invariant.entries);
    }
