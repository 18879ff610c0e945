use Rattle.std.proofs.Common.{sym, ◌∙◌}
use Rattle.am_filter.proofs.Repeats.{none_more, repeated_fails}
use Rattle.am_filter.proofs.data.some_path_passes.Goals as goal
use Rattle.am_filter.proofs.data.some_path_passes.Goals.{else-not-repeats-via-then-not-repeats+else-passes_path, else-not-repeats-via-else-not-repeats}

pub loop-i-preserved : goal.loop-i-preserved
loop-i-preserved c =
    let rules = c.args.rules in
    let listed = c.as_slice-listed.result.now in
    let path = c.args.path.now in
    let rule = c.index-listed-i in
    elim c.else-not-repeats.branch [
      | else-not-repeats-via-then-not-repeats+else-passes_path w ↦
          none_more rules listed c.loop-i.i rule.result path c.loop-i-test.true rule.is c.loop-i.invariant
          (sym w.passes_path.ensures ∙ w.if-passes_path.false)
      | else-not-repeats-via-else-not-repeats w ↦
          none_more rules listed c.loop-i.i rule.result path c.loop-i-test.true rule.is c.loop-i.invariant
          (repeated_fails rules _ rule.result path c.loop-i.invariant (sym c.repeats.ensures ∙ w.if-not-repeats.false))
    ]
