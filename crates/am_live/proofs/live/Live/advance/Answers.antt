use Rattle.std.proofs.Common.{◌∙◌, sym}
use Rattle.am_live.proofs.Advances.{advance_refused, advance_too_far, advance_moves}
use Rattle.am_live.proofs.live.Live.advance.Goals as goal

pub returns-then-not-is_privileged : goal.returns-then-not-is_privileged
returns-then-not-is_privileged g c =
    advance_refused c.args.self.now c.settle.new.self c.args.by.uid c.args.by.moment c.args.more c.settle.ensures
    (sym c.is_privileged.ensures ∙ c.if-not-is_privileged.true)

pub returns-in-None : goal.returns-in-None
returns-in-None g c =
    advance_too_far c.args.self.now c.settle.new.self c.args.by.uid c.args.by.moment c.args.more c.settle.ensures
    (sym c.is_privileged.ensures ∙ c.if-not-is_privileged.false)
    c.in-None.ensures

pub returns-in-Some : goal.returns-in-Some
returns-in-Some g c =
    advance_moves c.args.self.now c.settle.new.self c.args.by.uid c.args.by.moment c.args.more c.settle.ensures
    c.in-Some.moment c.advance_to.result c.advance_to.new.self
    (sym c.is_privileged.ensures ∙ c.if-not-is_privileged.false) c.in-Some.ensures.0 c.in-Some.ensures.1
    c.advance_to.ensures
