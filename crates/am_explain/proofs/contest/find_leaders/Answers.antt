use Rattle.std.proofs.Common.{List, sym, ap, ◌∙◌, subst}
use Rattle.am_types.specs.declared.device.Link.{Link}
use Rattle.am_types.specs.declared.device.Rules.{Rules}
use Rattle.am_types.specs.declared.resolve.Target.{Target}
use Rattle.am_model.specs.Starts.{choice_by, left_by}
use Rattle.am_model.specs.Targets.{host_to_view}
use Rattle.am_explain.specs.Contests.{IsLed, leaders_of}
use Rattle.am_explain.specs.declared.contest.Leaders.{Leaders}
use Rattle.am_explain.proofs.Leading.{led}
use Rattle.am_explain.proofs.contest.find_leaders.Goals as goal

pub returns-clause-led : goal.returns-clause-led
returns-clause-led g c =
    let board = c.args.board.now in
    let intent = c.args.intent.now in
    let host = host_to_view intent in
    subst (λ (l : Leaders). IsLed board intent l)
    (sym (c.leaders_of-leaders.ensures
    ∙ ap (λ (links : List Link). leaders_of links host c.in_ok-reached.reached) c.links.ensures.links
    ∙ ap (leaders_of board.links host) c.in_ok-reached.ensures.target
    ∙ ap (λ (rules : Rules). leaders_of board.links host
    (choice_by rules board c.args.caller (left_by rules board intent))) c.requires))
    (led board intent)
