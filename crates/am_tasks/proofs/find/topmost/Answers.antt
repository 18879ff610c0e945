use Rattle.std.proofs.Common.{◌∙◌, sym}
use Rattle.am_model.specs.Placement.{is_of}
use Rattle.am_tasks.proofs.Finding.{last_found_yes, last_found_no}
use Rattle.am_tasks.proofs.find.topmost.Goals as goal
use Rattle.am_tasks.proofs.find.topmost.Goals.{then-is_of, else-is_of}

pub loop-place-preserved : goal.loop-place-preserved
loop-place-preserved c =
    let x = c.index-instances-place.result in
    elim c.if-is_of.branch [
      | then-is_of w ↦
          let yes = last_found_yes (is_of c.args.component.now) c.args.instances.now c.loop-place.place x
          c.loop-place-test.true c.index-instances-place.is (sym c.is_of.ensures ∙ w.if-is_of.true) in
          rw w.found-is (yes, c.loop-place-test.true)
      | else-is_of w ↦
          let no = last_found_no (is_of c.args.component.now) c.args.instances.now c.loop-place.place x
          c.loop-place.found c.loop-place-test.true c.index-instances-place.is
          (sym c.is_of.ensures ∙ w.if-is_of.false) c.loop-place.invariant.0 in
          rw w.found-is (no, c.loop-place.invariant.1)
    ]
