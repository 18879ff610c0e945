use Rattle.std.proofs.Common.{sym, arith}
use Rattle.am_filter.proofs.Unions.{length-there, length-new}
use Rattle.am_filter.proofs.fill.added_count.Goals as goal
use Rattle.am_filter.proofs.fill.added_count.Goals.{then-not-is_known, else-not-is_known}

pub loop-i-preserved : goal.loop-i-preserved
loop-i-preserved c =
    let l = c.loop-i in
    let extra = c.index-other-i in
    elim c.if-not-is_known.branch [
      | then-not-is_known w ↦
          let longer = length-new c.args.kept.now c.args.other.now l.i extra.result c.loop-i-test.true extra.is
          (sym w.if-not-is_known.ensures) in
          record { within = omega arith; counted = omega (arith, longer) }
      | else-not-is_known w ↦
          let same = length-there c.args.kept.now c.args.other.now l.i extra.result c.loop-i-test.true extra.is
          (sym w.if-not-is_known.ensures) in
          record { within = omega arith; counted = omega (arith, same) }
    ]
