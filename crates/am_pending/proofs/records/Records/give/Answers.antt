use Rattle.std.proofs.Common.{◌≡◌, ◌∙◌, ℕ, List, None, Some, Ok, ap, map, refl, subst, sym, eq-eqb, ne_eqb}
use Rattle.std.specs.Prelude.{IsOk}
use Rattle.std.specs.Map.{lookup, set_value}
use Rattle.std.specs.BTreeMap.{is_at}
use Rattle.std.specs.Ordering.{nat_cmp}
use Rattle.std.specs.Option.{option_copied_mut}
use Rattle.am_model.specs.Pendings.{Pending, give, with_holder}
use Rattle.am_pending.specs.Records.{Kept, before, held_by, pending_of, pendings_of, record_in}
use Rattle.am_types.proofs.Results.{from_err, from_ok}
use Rattle.am_pending.proofs.Changes.{changed, holder-change, left_alone, lookup-records}
use Rattle.am_pending.proofs.Using.{give_again, give_full, give_new, give_none, give_other, there}
use Rattle.am_pending.proofs.records.Records.give.Goals as goal
use Rattle.am_pending.proofs.records.Records.give.Goals.{After-hold, In-Some}

-- the entry that was looked up
looked_up : (c : In-Some) → lookup (is_at (nat_cmp c.args.token)) c.self.inside.by_token.entries
    ≡ Some c.in-Some.kept.now
looked_up c = sym c.get_mut.ensures.value ∙ ap option_copied_mut c.in-Some.is

-- and its record
is_there : (c : In-Some) (next : ℕ) → record_in c.args.token (before c.args.self.now next).records
    ≡ Some (pending_of c.args.token c.in-Some.kept.now)
is_there c next = there c.args.token _ (before c.args.self.now next) _ (Some c.in-Some.kept.now)
    (lookup-records c.args.token c.self.inside.by_token.entries) (looked_up c) c.self.view_is

-- all stays if that record stays
stays : (c : In-Some) (after : List (ℕ × Kept)) (next : ℕ)
    → after ≡ set_value (is_at (nat_cmp c.args.token)) c.self.inside.by_token.entries c.in-Some.kept.now
    → before (pendings_of after) next ≡ before c.args.self.now next
stays c after next is = ap (λ (all : List Pending). before all next)
    (left_alone c.args.token c.self.inside.by_token.entries after c.in-Some.kept.now c.args.self.now is (looked_up c)
    c.self.view_is)

-- a gift to a further holder
is_given : (c : After-hold) (next : ℕ)
    → record_in c.args.token (before c.args.self.now next).records ≡ Some (pending_of c.args.token c.in-Some.kept.now)
    → give (before c.args.self.now next) c.args.token c.args.uid c.args.to
    ≡ Ok (before (map (with_holder c.args.token c.args.to) c.args.self.now) next)
is_given c next is =
    give_new (before c.args.self.now next) c.args.token c.args.uid c.args.to _ is
    (eq-eqb c.in-Some.kept.now.key.creator c.args.uid (sym (c.if-uid-creator.false ∙ c.creator.ensures)))
    (sym c.is_holder.ensures ∙ c.if-is_holder.false) (sym c.is_full.ensures ∙ c.if-is_full.false)

pub returns-in_default-clause-answer : goal.returns-in_default-clause-answer
returns-in_default-clause-answer c next =
    let none = there c.args.token _ (before c.args.self.now next) _ None
    (lookup-records c.args.token c.self.inside.by_token.entries)
    (sym c.get_mut.ensures.value ∙ ap option_copied_mut c.in_default.is) c.self.view_is in (
      give_none (before c.args.self.now next) c.args.token c.args.uid c.args.to none,
      ap (λ (all : List Pending). before all next) (ap (λ m. pendings_of m.entries) c.get_mut.follows.holds-at-none
          ∙ c.self.view_is),
    )

pub returns-then-uid-creator-clause-answer : goal.returns-then-uid-creator-clause-answer
returns-then-uid-creator-clause-answer c next =
    let some = (goal.at.returns-then-uid-creator-clause-answer c).In-Some in (
      give_other (before c.args.self.now next) c.args.token c.args.uid c.args.to _ (is_there some next)
          (ne_eqb c.in-Some.kept.now.key.creator c.args.uid
          (λ e. c.if-uid-creator.true (sym e ∙ sym c.creator.ensures))),
      stays some _ next (c.get_mut.follows.holds c.in-Some.kept.now).0,
    )

pub returns-then-is_holder-clause-answer : goal.returns-then-is_holder-clause-answer
returns-then-is_holder-clause-answer c next =
    let some = (goal.at.returns-then-is_holder-clause-answer c).In-Some in
    give_again (before c.args.self.now next) c.args.token c.args.uid c.args.to _ (is_there some next)
    (eq-eqb c.in-Some.kept.now.key.creator c.args.uid (sym (c.if-uid-creator.false ∙ c.creator.ensures)))
    (sym c.is_holder.ensures ∙ c.if-is_holder.true)
    ∙ ap Ok (sym (stays some _ next (c.get_mut.follows.holds c.in-Some.kept.now).0))

pub returns-then-is_full-clause-answer : goal.returns-then-is_full-clause-answer
returns-then-is_full-clause-answer c next =
    let some = (goal.at.returns-then-is_full-clause-answer c).In-Some in (
      give_full (before c.args.self.now next) c.args.token c.args.uid c.args.to _ (is_there some next)
          (eq-eqb c.in-Some.kept.now.key.creator c.args.uid (sym (c.if-uid-creator.false ∙ c.creator.ensures)))
          (sym c.is_holder.ensures ∙ c.if-is_holder.false) (sym c.is_full.ensures ∙ c.if-is_full.true),
      stays some _ next (c.get_mut.follows.holds c.in-Some.kept.now).0,
    )

pub returns-then-is_err-clause-answer : goal.returns-then-is_err-clause-answer
returns-then-is_err-clause-answer c next =
    let kept = from_err c.hold.result c.hold.ensures.err (sym c.is_err.ensures.value ∙ c.if-is_err.true) in (
      tt,
      stays (goal.at.returns-then-is_err-clause-answer c).In-Some _ next ((c.get_mut.follows.holds c.hold.new.self).0
          ∙ ap (set_value (is_at (nat_cmp c.args.token)) c.self.inside.by_token.entries) kept),
    )

pub returns-then-is_err-clause-ran_out : goal.returns-then-is_err-clause-ran_out
returns-then-is_err-clause-ran_out c want next =
    let at = goal.at.returns-then-is_err-clause-ran_out c in
    subst IsOk (sym (is_given at.After-hold next (is_there at.In-Some next))) refl

pub returns-clause-answer : goal.returns-clause-answer
returns-clause-answer c next =
    let at = goal.at.returns-clause-answer c in
    let held = from_ok c.hold.result c.hold.ensures.ok (sym c.is_err.ensures.value ∙ c.if-is_err.false) in
    let new =
    ap pendings_of ((c.get_mut.follows.holds c.hold.new.self).0 ∙ ap
    (set_value (is_at (nat_cmp c.args.token)) c.self.inside.by_token.entries) held)
    ∙ changed c.args.token (held_by c.args.to) (with_holder c.args.token c.args.to)
    (holder-change c.args.token c.args.to) c.in-Some.kept.now c.self.inside.by_token.entries
    c.get_mut.ensures.ordered (looked_up at.In-Some)
    ∙ ap (map (with_holder c.args.token c.args.to)) c.self.view_is in
    is_given at.After-hold next (is_there at.In-Some next)
    ∙ ap (λ (all : List Pending). Ok (before all next)) (sym new)
