-- A text that was read fits a pattern.
use Rattle.std.proofs.Common.{◌≤◌, length, codes}
use Rattle.serde_json.specs.View.{view}
use Rattle.am_uri.specs.declared.text.Form.TheVariants.{Filled}
use Rattle.am_wire_intents.proofs.ShortTexts.{short_if_said}
use Rattle.am_wire_intents.proofs.rows.pattern_at.Goals as goal

pub unreachable-requires : goal.unreachable-requires
unreachable-requires c =
    let read = rw c.in-Some.is at c.in_ok-text.ensures in
    let short : length c.in-Some.text ≤ 1024 = short_if_said Filled 1024 (codes "pathPattern") (view c.args.row.now)
    c.in-Some.text read in
    let made = c.in-Err.ensures.short short in
    absurd cc

pub returns : goal.returns
returns c =
    let read = rw c.in-Some.is at c.in_ok-text.ensures in
    let short : length c.in-Some.text ≤ 1024 = short_if_said Filled 1024 (codes "pathPattern") (view c.args.row.now)
    c.in-Some.text read in
    let made = c.in-Ok.ensures.short short in
    cc
