use Rattle.std.proofs.Common.{◌-◌, ◌+◌, ◌++◌, ◌∙◌, ap, string_bytes}
use Rattle.std.specs.List.{range_with_len}
use Rattle.am_drill.specs.Tallies.{all_statuses, lines_of}
use Rattle.am_drill.proofs.Lines.{lines_begin, lines_go_on}
use Rattle.am_drill.proofs.tally.lines.Goals as goal

pub loop-status-init : goal.loop-status-init
loop-status-init c =
    ap (λ bytes. bytes ++ lines_of c.args.statuses.now (range_with_len 100 (600 - 100))) c.new-lines.ensures.bytes
    ∙ lines_begin c.args.statuses.now

pub loop-status-preserved : goal.loop-status-preserved
loop-status-preserved c =
    let statuses = c.args.statuses.now in
    let status = c.loop-status.status in
    ap (λ bytes. bytes ++ lines_of statuses (range_with_len (status + 1) (600 - (status + 1))))
    c.in_ok-push_str.ensures.bytes
    ∙ lines_go_on (string_bytes c.loop-status.lines) c.as_str.result.now statuses (lines_of statuses all_statuses)
    status
    c.loop-status-test.true (c.as_str.ensures.value ∙ c.in_ok-line.ensures) c.loop-status.invariant
