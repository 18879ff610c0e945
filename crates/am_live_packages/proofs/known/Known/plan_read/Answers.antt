use Rattle.std.proofs.Common.{◌∙◌, sym, arith}
use Rattle.am_history.specs.State.{State}
use Rattle.am_laws_state.specs.Sound.{IsSoundState}
use Rattle.am_live_packages.specs.Changes.{with_known}
use Rattle.am_live_packages.proofs.PackageLemmas.{in_use, installs, too_many}
use Rattle.am_live_packages.proofs.known.Known.plan_read.Goals as goal

pub returns-then-is_used : goal.returns-then-is_used
returns-then-is_used c = λ (state : State) (sound : IsSoundState (with_known state c.args.self.now)).
    in_use (with_known state c.args.self.now) c.args.caller c.requires.admin c.args.text.now c.args.key.now
    c.args.manifest c.requires.read
    (sym (c.is_used.ensures state) ∙ c.if-is_used.true)

pub returns-then-is_full : goal.returns-then-is_full
returns-then-is_full c = λ (state : State) (sound : IsSoundState (with_known state c.args.self.now)).
    too_many (with_known state c.args.self.now) c.args.caller c.requires.admin c.args.text.now c.args.key.now
    c.args.manifest c.requires.read
    (sym (c.is_used.ensures state) ∙ c.if-is_used.false) (sym (c.is_full.ensures state) ∙ c.if-is_full.true)

pub returns : goal.returns
returns c = λ (state : State) (sound : IsSoundState (with_known state c.args.self.now)).
    installs (with_known state c.args.self.now) c.args.caller c.requires.admin c.args.text.now c.args.key.now
    c.args.manifest c.requires.read
    c.in_ok-package.package c.in_ok-row.row sound
    (omega arith)
    (sym (c.is_used.ensures state) ∙ c.if-is_used.false) (sym (c.is_full.ensures state) ∙ c.if-is_full.false)
    c.in_ok-package.ensures c.in_ok-row.ensures
