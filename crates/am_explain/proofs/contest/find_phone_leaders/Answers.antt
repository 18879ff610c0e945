use Rattle.std.proofs.Common.{List, Bool, Option, true, sym, ap, ◌∙◌, subst}
use Rattle.std.specs.Option.{option_map}
use Rattle.am_types.specs.declared.device.Rules.{Rules}
use Rattle.am_types.specs.declared.manifest.Kind.TheVariants.{Activity}
use Rattle.am_types.specs.declared.resolve.Hit.{Hit}
use Rattle.am_types.specs.declared.resolve.Target.{Target}
use Rattle.am_model.specs.Accounts.{is_choice}
use Rattle.am_model.specs.Boards.{Board}
use Rattle.am_model.specs.Candidates.{found_by, hits_of}
use Rattle.am_model.specs.Links.{leading_of, phone_choice, phone_narrowed}
use Rattle.am_model.specs.Starts.{phone_left}
use Rattle.am_model.specs.Targets.{choice, top}
use Rattle.am_explain.specs.Contests.{IsPhoneLed}
use Rattle.am_explain.specs.declared.contest.PhoneLeaders.{PhoneLeaders}
use Rattle.am_explain.proofs.PhoneLeading.{phone_led, shown_by}
use Rattle.am_explain.proofs.contest.find_phone_leaders.Goals as goal

pub returns-clause-led : goal.returns-clause-led
returns-clause-led g c =
    let board = c.args.board.now in
    let caller = c.args.caller in
    let intent = c.args.intent.now in
    let leading = c.in_ok-leading.field-0.leading in
    let left = phone_left board intent true in
    let left_is = c.in_ok-leading.ensures.left
    ∙ ap (λ (rules : Rules). hits_of (phone_narrowed board intent true
    (found_by rules board.packages Activity intent true))) c.requires in
    let reached_is = c.phone_choice-reached.ensures
    ∙ ap (λ (b : Board). phone_choice b caller c.in_ok-leading.field-0.left) c.installed.ensures
    ∙ ap (phone_choice board caller) left_is in
    subst (λ (l : PhoneLeaders). IsPhoneLed board caller intent l)
    (sym (c.phone_leaders_of-leaders.ensures
    ∙ ap (λ (b : Bool). shown_by leading b c.phone_choice-reached.result)
    (c.is_tied-contested.ensures ∙ ap (λ (hits : List Hit). is_choice (choice (top hits))) left_is)
    ∙ ap (λ (t : Target). shown_by leading (is_choice (choice (top left))) t) reached_is))
    (phone_led board caller intent leading (c.in_ok-leading.ensures.leading
    ∙ ap (λ (rules : Rules). leading_of board intent true (found_by rules board.packages Activity intent true))
    c.requires))
