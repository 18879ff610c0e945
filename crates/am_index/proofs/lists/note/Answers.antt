use Rattle.std.proofs.Common.{◌++◌, cond, Some, ◌∷◌, [], ap, ◌∙◌, rules}
use Rattle.std.specs.HashMap.{get}
use Rattle.am_index.specs.Keys.{same_key}
use Rattle.am_index.specs.Lists.{spots_in}
use Rattle.am_index.specs.Members.{spots_without}
use Rattle.am_index.proofs.Noting.{same_written, noted_written, noted_keeps}
use Rattle.am_index.proofs.lists.note.Goals as goal

pub returns-in_err-push-in-Some-clause-others : goal.returns-in_err-push-in-Some-clause-others
returns-in_err-push-in-Some-clause-others c =
    let u = (c.get_mut.follows.holds c.push.new.self).3 (search rules) in
    λ k. ap (λ l. spots_without l c.args.spot.uid)
    (same_written c.args.lists.now (c.get_mut.follows.lender c.push.new.self) c.args.key c.push.new.self u.0
    (c.in_err-push-in-Some.ensures.items ∙ ap spots_in c.in-Some.ensures.value) k)

pub returns-in_ok-push-in-Some-clause-noted : goal.returns-in_ok-push-in-Some-clause-noted
returns-in_ok-push-in-Some-clause-noted c =
    let u = (c.get_mut.follows.holds c.push.new.self).3 (search rules) in
    noted_written c.args.lists.now (c.get_mut.follows.lender c.push.new.self) c.args.key c.push.new.self u.0 c.args.spot
    (c.in_ok-push-in-Some.ensures.items ∙ ap (λ l. l ++ c.args.spot ∷ []) (ap spots_in c.in-Some.ensures.value))

pub returns-in_ok-push-in-Some-clause-others : goal.returns-in_ok-push-in-Some-clause-others
returns-in_ok-push-in-Some-clause-others c =
    λ k. ap (λ l. spots_without l c.args.spot.uid) (returns-in_ok-push-in-Some-clause-noted c k)
    ∙ noted_keeps _ c.args.spot _

pub returns-in_ok-insert-in-None-clause-noted : goal.returns-in_ok-insert-in-None-clause-noted
returns-in_ok-insert-in-None-clause-noted c =
    let w = c.push-in-None.new.self in
    noted_written c.args.lists.now c.insert.new.self c.args.key w
    (λ q. c.in_ok-insert-in-None.ensures.updates.0 q ∙ ap (λ m. cond (same_key c.args.key q) (Some w)
    (get same_key m q)) c.get_mut.follows.holds-at-none)
    c.args.spot
    (c.in_ok-push-in-None.ensures.items ∙ ap (λ l. l ++ c.args.spot ∷ [])
    (c.new-spots.ensures.items ∙ ap spots_in c.in-None.ensures.value))

pub returns-in_ok-insert-in-None-clause-others : goal.returns-in_ok-insert-in-None-clause-others
returns-in_ok-insert-in-None-clause-others c =
    λ k. ap (λ l. spots_without l c.args.spot.uid) (returns-in_ok-insert-in-None-clause-noted c k)
    ∙ noted_keeps _ c.args.spot _
