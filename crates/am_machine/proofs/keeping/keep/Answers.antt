use Rattle.std.proofs.Common.{◌≡◌, List, subst}
use Rattle.am_types.specs.declared.history.Entry.{Entry}
use Rattle.am_types.specs.declared.rule.Rule.{Rule}
use Rattle.am_keeper.specs.declared.rows.Row.{Row}
use Rattle.am_history.specs.State.{State}
use Rattle.am_live_packages.specs.declared.change.Change.{Change}
use Rattle.am_live_packages.specs.declared.change.Plan.{Plan}
use Rattle.am_live_packages.specs.declared.change.Plan.TheVariants as plans
use Rattle.am_live_packages.specs.Changes.{IsPlanOf, IsAccepted, IsRefusedBy}
use Rattle.am_machine.proofs.Kept.{leaves_refused, leaves_unmade, made_asked, made_done, made_leaves, otherwise, refused_step, unmade_leaves}
use Rattle.am_machine.proofs.keeping.keep.Goals as goal

-- what was planned for a call is known of its case
refuses : (rule : Rule) (plan : Plan) (state : State) (call : Entry) → plan ≡ plans.Refused rule
    → IsPlanOf plan state call.uid call.request → IsRefusedBy rule state call.uid call.request
refuses rule plan state call is planned = subst (λ (p : Plan). IsPlanOf p state call.uid call.request) is planned

accepts : (change : Change) (row : Row) (plan : Plan) (state : State) (call : Entry)
    → plan ≡ plans.Accepted change row → IsPlanOf plan state call.uid call.request
    → IsAccepted change row state call.uid call.request
accepts change row plan state call is planned =
    subst (λ (p : Plan). IsPlanOf p state call.uid call.request) is planned

pub returns-in-Refused-clause-done : goal.returns-in-Refused-clause-done
returns-in-Refused-clause-done g c = λ (before : List Entry).
    refused_step c.in-Refused.rule c.args.live.now c.settle.new.self before c.args.call.now c.moment_after-moment.result
    (refuses c.in-Refused.rule _ c.args.live.now c.args.call.now c.in-Refused.is c.in_ok-planned.ensures)
    c.moment_after-moment.ensures.moment c.settle.ensures

pub returns-in-Accepted-clause-done : goal.returns-in-Accepted-clause-done
returns-in-Accepted-clause-done g c =
    made_done c.in-Accepted.change c.in-Accepted.row c.args.live.now c.make.new.live c.args.call.now
    c.moment_after-moment.result c.make.result
    (accepts c.in-Accepted.change c.in-Accepted.row _ c.args.live.now c.args.call.now c.in-Accepted.is
    c.in_ok-planned.ensures)
    c.moment_after-moment.ensures.moment c.make.ensures.done

pub returns-in-Accepted-clause-asked : goal.returns-in-Accepted-clause-asked
returns-in-Accepted-clause-asked g c =
    made_asked c.in-Accepted.change c.in-Accepted.row c.args.live.now c.args.call.now c.make.result
    (accepts c.in-Accepted.change c.in-Accepted.row _ c.args.live.now c.args.call.now c.in-Accepted.is
    c.in_ok-planned.ensures) c.requires.keeps

pub returns-in-Accepted-clause-leaves : goal.returns-in-Accepted-clause-leaves
returns-in-Accepted-clause-leaves g c =
    made_leaves g.K.Keeper c.in-Accepted.change c.in-Accepted.row c.args.live.now c.make.new.live c.args.call.now
    c.moment_after-moment.result c.make.result c.args.keeper.now c.make.new.keeper
    (accepts c.in-Accepted.change c.in-Accepted.row _ c.args.live.now c.args.call.now c.in-Accepted.is
    c.in_ok-planned.ensures)
    c.requires.keeps c.make.ensures.done c.make.ensures.put c.make.ensures.counts c.make.ensures.asks

pub returns-in-Accepted-clause-unmade : goal.returns-in-Accepted-clause-unmade
returns-in-Accepted-clause-unmade g c =
    unmade_leaves g.K.Keeper c.make.result c.args.keeper.now c.make.new.keeper c.make.ensures.refused
    c.make.ensures.uncounted c.make.ensures.at_most

pub returns-in-Refused-clause-leaves : goal.returns-in-Refused-clause-leaves
returns-in-Refused-clause-leaves g c =
    leaves_refused g.K.Keeper c.in-Refused.rule c.args.live.now c.args.call.now.uid c.args.call.now.request
    c.args.keeper.now
    (refuses c.in-Refused.rule _ c.args.live.now c.args.call.now c.in-Refused.is c.in_ok-planned.ensures)

pub returns-in_err-planned-clause-unmade : goal.returns-in_err-planned-clause-unmade
returns-in_err-planned-clause-unmade g c = otherwise c.from_residual.result (leaves_unmade g.K.Keeper c.args.keeper.now)
