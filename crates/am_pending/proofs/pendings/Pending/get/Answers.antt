use Rattle.std.proofs.Common.{◌≡◌, ◌∙◌, ℕ, None, Some, ap, refl, subst, sym, true, w64}
use Rattle.std.proofs.lemmas.Int.{to_z-of_z}
use Rattle.std.specs.Prelude.{IsOk}
use Rattle.am_model.specs.Pendings.{Asked, get, is_clear}
use Rattle.am_pending.specs.Keys.{key_for, key_with}
use Rattle.am_pending.specs.Answers.{IsAnswer}
use Rattle.am_pending.specs.Records.{made_for, renewed_for}
use Rattle.am_pending.proofs.Asking.{asked_kept, asked_made, asked_renewed, unclear_get}
use Rattle.am_pending.proofs.pendings.Pending.get.Goals as goal
use Rattle.am_pending.proofs.pendings.Pending.get.Given.{Over}
use Rattle.am_pending.proofs.pendings.Pending.get.Goals.{After-find}

-- what is asked for
abbrev asked : (g : Over) → After-find g → Asked
asked g c = record {
  creator = c.args.creator;
  kind = c.args.kind;
  code = c.args.code;
  intent = c.args.intent;
  flags = c.args.flags;
}

module _ (g : Over) (c : After-find g) where
  -- the key is the one that is asked for
  is : c.asked-key.result ≡ key_for (asked g c)
  is = c.asked-key.ensures
      ∙ ap (λ code. key_with c.args.creator c.args.kind code c.args.intent c.args.flags)
      (to_z-of_z w64 c.args.code c.ranges.code)

  clear : is_clear c.args.flags ≡ true
  clear = sym c.is_clear.ensures ∙ c.if-not-is_clear.false

  -- no record has it
  made : c.find.result ≡ None
      → made_for c.args.self.now c.args.flags.no_create c.asked-key.result ≡ get c.args.self.now (asked g c)
  made none = asked_made c.args.self.now (asked g c) c.asked-key.result is clear (sym c.find.ensures.found ∙ none)

  -- or one does, which is canceled
  renewed : (token : ℕ) → c.find.result ≡ Some token → c.args.flags.cancel_current ≡ true
      → renewed_for c.args.self.now token c.args.flags.no_create c.asked-key.result ≡ get c.args.self.now (asked g c)
  renewed token some = asked_renewed c.args.self.now (asked g c) c.asked-key.result is clear token
      (sym c.find.ensures.found ∙ some)

pub returns-then-not-is_clear-clause-answer : goal.returns-then-not-is_clear-clause-answer
returns-then-not-is_clear-clause-answer g c =
    (unclear_get c.args.self.now _ (sym c.is_clear.ensures ∙ c.if-not-is_clear.true), refl)

pub returns-in-None-clause-answer : goal.returns-in-None-clause-answer
returns-in-None-clause-answer g c =
    subst (IsAnswer c.make.result c.args.self.now c.make.new.self)
    (made g (goal.at.returns-in-None-clause-answer g c).After-find c.in-None.is) c.make.ensures.answer

pub returns-in-None-clause-ran_out : goal.returns-in-None-clause-ran_out
returns-in-None-clause-ran_out g c want =
    subst IsOk (made g (goal.at.returns-in-None-clause-ran_out g c).After-find c.in-None.is) (c.make.ensures.ran_out want)

pub returns-in-Some-clause-answer : goal.returns-in-Some-clause-answer
returns-in-Some-clause-answer g c =
    subst (IsAnswer c.renew.result c.args.self.now c.renew.new.self)
    (renewed g (goal.at.returns-in-Some-clause-answer g c).After-find c.in-Some.token c.in-Some.is c.if-flags.true)
    c.renew.ensures.answer

pub returns-in-Some-clause-ran_out : goal.returns-in-Some-clause-ran_out
returns-in-Some-clause-ran_out g c want =
    subst IsOk
    (renewed g (goal.at.returns-in-Some-clause-ran_out g c).After-find c.in-Some.token c.in-Some.is c.if-flags.true)
    (c.renew.ensures.ran_out want)

pub returns-in-Some-2-clause-answer : goal.returns-in-Some-2-clause-answer
returns-in-Some-2-clause-answer g c =
    let found = (goal.at.returns-in-Some-2-clause-answer g c).After-find in
    asked_kept c.args.self.now (asked g found) c.asked-key.result (is g found) (clear g found) c.in-Some.token
    (sym c.find.ensures.found ∙ c.in-Some.is) c.if-flags.false c.keep.new.self c.keep.ensures.kept
