use Rattle.std.proofs.Common.{◌∙◌, ap, sym}
use Rattle.std.specs.Option.{option_copied}
use Rattle.am_history.specs.State.{State}
use Rattle.am_live_packages.specs.Changes.{with_known}
use Rattle.am_live_packages.proofs.PackageLemmas.{gives, none_given, one_too_many}
use Rattle.am_live_packages.proofs.known.Known.plan_right.Goals as goal

pub returns-in_default : goal.returns-in_default
returns-in_default c = λ (state : State).
    none_given (with_known state c.args.self.now) c.args.caller c.requires c.args.kind c.args.name.now c.args.text.now
    c.args.held
    (sym c.package_named.ensures ∙ ap option_copied c.in_default.is)

pub returns-then-is_right_too_many : goal.returns-then-is_right_too_many
returns-then-is_right_too_many c = λ (state : State).
    one_too_many (with_known state c.args.self.now) c.args.caller c.requires c.args.kind c.args.name.now c.args.text.now
    c.args.held c.in-Some.owner.now c.is_new_right-is_new.result c.is_right_too_many.result
    (sym c.package_named.ensures ∙ ap option_copied c.in-Some.is)
    c.is_new_right-is_new.ensures c.is_right_too_many.ensures c.right_limit.result c.if-is_right_too_many.true
    c.right_limit.ensures

pub returns : goal.returns
returns c = λ (state : State).
    gives (with_known state c.args.self.now) c.args.caller c.requires c.args.kind c.args.name.now c.args.text.now
    c.args.held c.in-Some.owner.now c.is_new_right-is_new.result c.is_right_too_many.result
    (sym c.package_named.ensures ∙ ap option_copied c.in-Some.is)
    c.is_new_right-is_new.ensures c.is_right_too_many.ensures c.in_ok-row.row c.in_ok-text.text
    c.if-is_right_too_many.false c.in_ok-text.ensures.cases c.in_ok-row.ensures
