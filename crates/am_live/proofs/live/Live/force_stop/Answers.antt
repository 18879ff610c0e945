use Rattle.std.proofs.Common.{◌∙◌, ap, sym}
use Rattle.std.specs.Option.{option_copied}
use Rattle.am_model.specs.Boards.{package_named}
use Rattle.am_history.specs.State.{State}
use Rattle.am_live_packages.proofs.PackageLemmas.{none_stopped, stop_refused, stops}
use Rattle.am_live.proofs.live.Live.force_stop.Goals as goal

pub returns-then-not-is_privileged : goal.returns-then-not-is_privileged
returns-then-not-is_privileged g c = stop_refused _ _ c.args.by.uid c.args.name.now c.settle.ensures
    (sym c.is_privileged.ensures ∙ c.if-not-is_privileged.true)

pub returns-in_default : goal.returns-in_default
returns-in_default g c =
    none_stopped _ c.settle.new.self c.args.by.uid c.args.name.now c.settle.ensures
    (sym c.is_privileged.ensures ∙ c.if-not-is_privileged.false)
    (ap (λ (s : State). package_named s.board.packages c.args.name.now) (sym c.self.view_is)
    ∙ sym c.package_named.ensures ∙ ap option_copied c.in_default.is)

pub returns : goal.returns
returns g c =
    stops _ c.settle.new.self c.args.by.uid c.args.name.now c.settle.ensures c.in-Some.owner.now c.stop.new.self
    (sym c.is_privileged.ensures ∙ c.if-not-is_privileged.false)
    (ap (λ (s : State). package_named s.board.packages c.args.name.now) (sym c.self.view_is)
    ∙ sym c.package_named.ensures ∙ ap option_copied c.in-Some.is) c.stop.ensures
