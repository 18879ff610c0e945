use Rattle.std.proofs.Common.{◌≡◌, ◌∙◌, ℕ, List, None, Ok, Some, ap, option_map, refl, sym, eq-eqb, ne_eqb}
use Rattle.std.specs.Option.{option_copied}
use Rattle.am_model.specs.Pendings.{Pending}
use Rattle.am_pending.specs.Records.{before, pending_of, record_in}
use Rattle.am_pending.proofs.Changes.{lookup-records, taken_away}
use Rattle.am_pending.proofs.Using.{cancel_none, cancel_other, cancel_own, there}
use Rattle.am_pending.proofs.records.Records.take_own.Goals as goal
use Rattle.am_pending.proofs.records.Records.take_own.Given.{Over}
use Rattle.am_pending.proofs.records.Records.take_own.Goals.{In-Some}

-- the record that was looked up
is_there : (g : Over) (c : In-Some g) (next : ℕ) → record_in c.args.token (before c.args.self.now next).records
    ≡ Some (pending_of c.args.token c.in-Some.kept.now)
is_there g c next = there c.args.token _ (before c.args.self.now next) _ (Some c.in-Some.kept.now)
    (lookup-records c.args.token c.self.inside.by_token.entries)
    (sym c.get.ensures.value ∙ ap option_copied c.in-Some.is) c.self.view_is

pub returns-in_default-clause-answer : goal.returns-in_default-clause-answer
returns-in_default-clause-answer g c next =
    let none = there c.args.token _ (before c.args.self.now next) _ None
    (lookup-records c.args.token c.self.inside.by_token.entries)
    (sym c.get.ensures.value ∙ ap option_copied c.in_default.is) c.self.view_is in
    (cancel_none (before c.args.self.now next) c.args.token c.args.uid none, refl)

pub returns-then-creator-uid-clause-answer : goal.returns-then-creator-uid-clause-answer
returns-then-creator-uid-clause-answer g c next = (
  cancel_other (before c.args.self.now next) c.args.token c.args.uid _
      (is_there g (goal.at.returns-then-creator-uid-clause-answer g c).In-Some next)
      (ne_eqb c.in-Some.kept.now.key.creator c.args.uid (λ e. c.if-creator-uid.true (c.creator.ensures ∙ e))),
  refl,
)

pub returns-clause-found : goal.returns-clause-found
returns-clause-found g c =
    sym (ap (record_in c.args.token) c.self.view_is)
    ∙ sym (lookup-records c.args.token c.self.inside.by_token.entries)
    ∙ ap (option_map (pending_of c.args.token)) (sym c.remove.ensures.value ∙ c.in-Some-remove.is)

pub returns-clause-others : goal.returns-clause-others
returns-clause-others g c = taken_away c.args.token c.self.inside.by_token.entries _ _ c.remove.ensures.entries
    c.remove.ensures.updates.1 c.self.view_is

pub returns-clause-answer : goal.returns-clause-answer
returns-clause-answer g c next =
    cancel_own (before c.args.self.now next) c.args.token c.args.uid _
    (is_there g (goal.at.returns-clause-answer g c).In-Some next)
    (eq-eqb c.in-Some.kept.now.key.creator c.args.uid (sym c.creator.ensures ∙ c.if-creator-uid.false))
    ∙ ap (λ (all : List Pending). Ok (before all next)) (sym (taken_away c.args.token
    c.self.inside.by_token.entries _ _ c.remove.ensures.entries c.remove.ensures.updates.1 c.self.view_is))
