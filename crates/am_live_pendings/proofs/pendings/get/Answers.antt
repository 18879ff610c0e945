use Rattle.std.proofs.Common.{◌∙◌, ℕ, ℤ, w64, ap, refl, subst, sym}
use Rattle.std.proofs.lemmas.Int.{to_z-of_z}
use Rattle.am_types.specs.declared.intent.Intent.{Intent}
use Rattle.am_types.specs.declared.manifest.Kind.{Kind}
use Rattle.am_types.specs.declared.pending.PendingFlags.{PendingFlags}
use Rattle.am_model.specs.Pendings.{Asked, Pendings, get}
use Rattle.am_history.specs.PendingCalls.{after_get, pending_get}
use Rattle.am_history.specs.State.{State}
use Rattle.am_pending.specs.Answers.{IsRefusal}
use Rattle.am_live_pendings.proofs.PendingLemmas.{refused_is}
use Rattle.am_live_pendings.proofs.pendings.get.Goals as goal

-- what is asked for, with this code
abbrev asked_by : ℕ → Kind → Intent → PendingFlags → ℤ → Asked
asked_by caller kind intent flags code = record {
  creator = caller;
  kind = kind;
  code = code;
  intent = intent;
  flags = flags;
}

pub returns-in-Ok-clause-done : goal.returns-in-Ok-clause-done
unfolding pending_get
returns-in-Ok-clause-done g c = λ (state : State).
    let asked = asked_by c.args.caller c.args.kind c.args.intent c.args.flags in
    ap (after_get (record state { pendings = c.args.pending.now }))
    (ap (λ (code : ℤ). get c.args.pending.now (asked code)) (sym (to_z-of_z w64 c.args.code c.ranges.code))
    ∙ c.in-Ok.ensures.answer)

pub returns-in-Err-clause-done : goal.returns-in-Err-clause-done
unfolding pending_get
returns-in-Err-clause-done g c =
    let asked = asked_by c.args.caller c.args.kind c.args.intent c.args.flags in
    refused_is (λ (state : State). after_get (record state { pendings = c.args.pending.now }))
    (λ (state : State) (left : Pendings). record state { pendings = left })
    (get c.args.pending.now (asked c.args.code)) c.in-Err.fault c.args.pending.now c.get.new.self c.refused.result
    (λ (state : State). refl) (
      subst (λ (code : ℤ). IsRefusal c.in-Err.fault (get c.args.pending.now (asked code)))
          (to_z-of_z w64 c.args.code c.ranges.code) c.in-Err.ensures.answer.0,
      c.in-Err.ensures.answer.1,
    )
    c.refused.ensures.rule c.refused.ensures.known
