use Rattle.std.proofs.Common.{ap, ◌∙◌}
use Rattle.am_wire_values.specs.Replies.{status_of}
use Rattle.am_drill.proofs.OneCall.{plain_shows}
use Rattle.am_drill.proofs.calls.make.Goals as goal

pub call-requires : goal.call-requires
call-requires g c = record { formed = c.requires.plain.formed }

pub returns-clause-status : goal.returns-clause-status
returns-clause-status g c =
    c.reply_status-status.ensures
    ∙ ap status_of
    (plain_shows (g.D.Desk.view c.args.desk.now) (g.D.Desk.view c.call.new.self) c.args.key.now c.args.now
    c.in-Ok.weight
    c.args.request c.in_ok-shown.shown c.requires.alone c.requires.plain c.in-Ok.ensures
    c.in_ok-shown.ensures.legal c.in_ok-shown.ensures.same c.in_ok-shown.ensures.shown).0

pub returns-clause-seen : goal.returns-clause-seen
returns-clause-seen g c =
    (plain_shows (g.D.Desk.view c.args.desk.now) (g.D.Desk.view c.call.new.self) c.args.key.now c.args.now
    c.in-Ok.weight
    c.args.request c.in_ok-shown.shown c.requires.alone c.requires.plain c.in-Ok.ensures
    c.in_ok-shown.ensures.legal c.in_ok-shown.ensures.same c.in_ok-shown.ensures.shown).1
