use Rattle.std.proofs.Common.{ℕ, ◌==◌, ◌||◌, Bool, true, false, cond, Result, Some, None, Ok, Err, subst, sym, ap, ◌∙◌, refl}
use Rattle.std.specs.Prelude.{IsOk, nat_le}
use Rattle.std.specs.Option.{option_copied}
use Rattle.am_types.specs.declared.filter.FillFault.TheVariants as fill
use Rattle.am_types.specs.declared.pending.Used.{Used}
use Rattle.am_types.specs.declared.pending.PendingFault.{PendingFault}
use Rattle.am_types.specs.declared.pending.PendingFault.TheVariants.{NoToken, Canceled}
use Rattle.am_model.specs.Pendings.{Pending, Pendings, lent, no_record, use_token}
use Rattle.am_pending.specs.Answers.{IsRefusal}
use Rattle.am_pending.specs.Records.{pending_of}
use Rattle.am_pending.proofs.Using.{use_none, use_other, use_own, used_ok, there}
use Rattle.am_pending.proofs.pendings.Pending.use_token.Goals as goal

refused_by : (b : Bool) → let said : Result Used PendingFault = Err (cond b NoToken Canceled) in IsRefusal
    (cond b NoToken Canceled) said
refused_by true = refl
refused_by false = refl

refused : (all : Pendings) (token : ℕ) → let said : Result Used PendingFault = Err (no_record all token) in IsRefusal
    (no_record all token) said
refused all token = refused_by ((token == 0) || nat_le all.next token)

pub returns-in_default-clause-answer : goal.returns-in_default-clause-answer
returns-in_default-clause-answer g c =
    let none = there c.args.token _ c.args.self.now _ None c.read.ensures.found (ap option_copied c.in_default.is)
    (ap (λ (all : Pendings). all.records) c.self.view_is) in
    let said = use_none c.args.self.now c.args.token c.args.uid (option_copied c.args.fill) none in
    subst (λ (fault : PendingFault). IsRefusal fault (use_token c.args.self.now c.args.token c.args.uid
    (option_copied c.args.fill))) (sym c.no_record.ensures)
    (subst (IsRefusal (no_record c.args.self.now c.args.token)) (sym said) (refused c.args.self.now c.args.token))

pub returns-then-not-is_holder-clause-answer : goal.returns-then-not-is_holder-clause-answer
returns-then-not-is_holder-clause-answer g c =
    let kept : Pending = pending_of c.args.token c.in-Some.kept.now in
    let is = there c.args.token _ c.args.self.now _ (Some c.in-Some.kept.now) c.read.ensures.found
    (ap option_copied c.in-Some.is) (ap (λ (all : Pendings). all.records) c.self.view_is) in
    use_other c.args.self.now c.args.token c.args.uid (option_copied c.args.fill) kept is
    (sym c.is_holder.ensures ∙ c.if-not-is_holder.true)

pub returns-in-Err-ExtrasFull-clause-answer : goal.returns-in-Err-ExtrasFull-clause-answer
returns-in-Err-ExtrasFull-clause-answer g c =
    let kept : Pending = pending_of c.args.token c.in-Some.kept.now in
    let is = there c.args.token _ c.args.self.now _ (Some c.in-Some.kept.now) c.read.ensures.found
    (ap option_copied c.in-Some.is) (ap (λ (all : Pendings). all.records) c.self.view_is) in
    use_own c.args.self.now c.args.token c.args.uid (option_copied c.args.fill) kept is (Err fill.ExtrasFull)
    (sym c.is_holder.ensures ∙ c.if-not-is_holder.false)
    (c.lent.ensures.full (c.in-Err-ExtrasFull.is ∙ ap Err c.in-Err-ExtrasFull.field-0-is))

pub returns-clause-answer : goal.returns-clause-answer
returns-clause-answer g c =
    let kept : Pending = pending_of c.args.token c.in-Some.kept.now in
    let is = there c.args.token _ c.args.self.now _ (Some c.in-Some.kept.now) c.read.ensures.found
    (ap option_copied c.in-Some.is) (ap (λ (all : Pendings). all.records) c.self.view_is) in
    use_own c.args.self.now c.args.token c.args.uid (option_copied c.args.fill) kept is (Ok c.in-Ok.intent)
    (sym c.is_holder.ensures ∙ c.if-not-is_holder.false) c.in-Ok.ensures.ok
    ∙ (λ i. let used : Used = record {
      creator = sym c.creator.ensures i;
      kind = (sym c.key.ensures i).kind;
      intent =
          c.in-Ok.intent;
      one_shot = (sym c.key-2.ensures i).one_shot;
    } in Ok used)

pub returns-in-Err-NoMemory-clause-ran_out : goal.returns-in-Err-NoMemory-clause-ran_out
returns-in-Err-NoMemory-clause-ran_out g c want =
    let kept : Pending = pending_of c.args.token c.in-Some.kept.now in
    let is = there c.args.token _ c.args.self.now _ (Some c.in-Some.kept.now) c.read.ensures.found
    (ap option_copied c.in-Some.is) (ap (λ (all : Pendings). all.records) c.self.view_is) in
    subst IsOk
    (sym (use_own c.args.self.now c.args.token c.args.uid (option_copied c.args.fill) kept is
    (lent kept (option_copied c.args.fill)) (sym c.is_holder.ensures ∙ c.if-not-is_holder.false) refl))
    (used_ok kept (lent kept (option_copied c.args.fill)) (c.lent.ensures.ran_out
    (c.in-Err-NoMemory.is ∙ ap Err c.in-Err-NoMemory.field-0-is)))
