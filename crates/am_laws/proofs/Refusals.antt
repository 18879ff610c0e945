-- A refusal leaves the state as it was, except for a one-shot pending intent that was used.
use Rattle.std.proofs.Common.{◌≡◌, ℕ, Bool, true, false, cond, eqb, List, refl, sym, ap, ◌∙◌}
use Rattle.std.specs.Prelude.{Option, Some, None, Result, Ok, Err}
use Rattle.std.proofs.lemmas.Bool.{false≢true, eqb-true, eq-eqb}
use Rattle.am_types.specs.declared.intent.Intent.{Intent}
use Rattle.am_types.specs.declared.filter.FillFault.{FillFault}
use Rattle.am_types.specs.declared.pending.Used.{Used}
use Rattle.am_types.specs.declared.pending.PendingFault.{PendingFault}
use Rattle.am_types.specs.declared.pending.PendingFault.TheVariants.{NotCreator, NotHolder}
use Rattle.am_types.specs.declared.history.Entry.{Entry}
use Rattle.am_types.specs.declared.request.Request.{Request}
use Rattle.am_types.specs.declared.reply.Reply.{Reply}
use Rattle.am_types.specs.declared.reply.Reply.TheVariants.{Refused}
use Rattle.am_types.specs.declared.rule.Rule.TheVariants.{KeeperFault}
use Rattle.am_model.specs.Pendings as pendings
use Rattle.am_model.specs.Pendings.{Pending, Pendings, without_token, record_of, canceled, cancel, is_holder, lent, used_as, use_token}
use Rattle.am_model.proofs.Parts.{found_passes}
use Rattle.am_history.specs.State.{State}
use Rattle.am_history.specs.PendingCalls.{left_of, used_up}
use Rattle.am_history.specs.Steps.{act, after_due, is_refusal, step}
use Rattle.am_history.specs.Desks.{Origin, opening_of}
use Rattle.am_history.proofs.Places.{replay_more}
use Rattle.am_laws.specs.Access.{Deed}
use Rattle.am_laws.specs.Laws.{state_after, answer_after}
use Rattle.am_laws.specs.Refusals.{without_record, after_use_refused, after_refused, after_refused_entry}
use Rattle.am_laws.proofs.Outcomes.{is_other, Comes, refuses, lands, tells, ActComes, acts, uses, act_comes}

-- another answer is no refusal
no_refusal : (reply : Reply) → is_other reply ≡ true → is_refusal reply ≡ true → ⊥
no_refusal (Refused rule) other refusal = false≢true other
no_refusal _ other refusal = false≢true refusal

-- a deed that is refused leaves the state as it was
deed_stays : (state : State) (deed : Option Deed) (next : Reply × State) → Comes state deed next → is_refusal next.0
    ≡ true → next.1 ≡ state
deed_stays state deed next (refuses rule other) refusal = refl
deed_stays state deed next (lands uid intent source component found landed did is admits placed) refusal = absurd
    (false≢true refusal)
deed_stays state deed next (tells reply after other) refusal = absurd (no_refusal reply other refusal)

-- the token of a record that could be used is its creator's, who can cancel it: then it is gone
used_is_gone : (all : Pendings) (token uid : ℕ) (fill : Option Intent) (used : Used) → use_token all token uid fill
    ≡ Ok used
    → left_of all (cancel all token used.creator) ≡ record all { records = without_token all.records token }
unfolding use_token cancel
used_is_gone all token uid fill used is = by (record_of all token) refl is
  where
    made_by : (kept : Pending) (intent : Result Intent FillFault) → used_as kept intent ≡ Ok used → kept.creator
        ≡ used.creator
    made_by kept (Err full) made = absurd cc
    made_by kept (Ok intent) made =
        let e : record { creator = kept.creator; kind = kept.kind; intent = intent; one_shot = kept.one_shot }
        ≡ used = cc in
        ap (λ (u : Used). u.creator) e

    held : (kept : Pending) (holds : Bool) → cond {A = Result Used PendingFault} holds (used_as kept (lent kept fill))
        (Err NotHolder) ≡ Ok used → kept.creator ≡ used.creator
    held kept true made = made_by kept (lent kept fill) made
    held kept false made = absurd cc

    gone : (kept : Pending) → kept.token ≡ token → (test : Bool) → test ≡ true
        → left_of all (cond {A = Result Pendings PendingFault} test
        (Ok (record all { records = without_token all.records kept.token })) (Err NotCreator))
        ≡ record all { records = without_token all.records token }
    gone kept same true test = ap (λ (t : ℕ). record all { records = without_token all.records t }) same
    gone kept same false test = absurd (false≢true test)

    by : (found : Option Pending) → record_of all token ≡ found → pendings.used all token uid fill found ≡ Ok used
        → left_of all (canceled all used.creator found) ≡ record all { records = without_token all.records token }
    by None none made = absurd cc
    by (Some kept) one made =
        gone kept (eqb-true kept.token token (found_passes (λ (k : Pending). eqb k.token token) all.records kept one))
        (eqb kept.creator used.creator) (eq-eqb kept.creator used.creator (held kept (is_holder kept uid) made))

-- a request that is refused
request_stays : (state : State) (caller : ℕ) (request : Request) (next : Reply × State)
    → ActComes state caller request next → is_refusal next.0 ≡ true
    → next.1 ≡ after_refused state caller request
request_stays state caller request next (acts after stays comes) refusal = deed_stays state _ after comes refusal
    ∙ sym stays
request_stays state caller request next (uses token fill used after asked is once comes) refusal =
    ap (λ (s : State). (used_up token used.creator (after.0, s)).1) (deed_stays state _ after comes refusal)
    ∙ ap (λ (all : Pendings). record state { pendings = all }) (used_is_gone state.pendings token caller fill used is)
    ∙ sym (ap (λ (r : Request). after_refused state caller r) asked
    ∙ ap (λ result. after_use_refused state token result) is
    ∙ ap (λ (b : Bool). cond b (without_record state token) state) once)

-- an entry that is refused
step_stays : (state : State) (before : List Entry) (entry : Entry) → is_refusal (step state before entry).0 ≡ true
    → (step state before entry).1 ≡ after_refused_entry (after_due state entry.now) entry
step_stays state before entry = by entry.kept
  where
    due : State
    due = after_due state entry.now

    by : (kept : Bool) → is_refusal (cond kept (act due before entry.uid entry.request) (Refused KeeperFault, due)).0
        ≡ true
        → (cond kept (act due before entry.uid entry.request) (Refused KeeperFault, due)).1
        ≡ cond kept (after_refused due entry.uid entry.request) due
    by true refusal = request_stays due entry.uid entry.request (act due before entry.uid entry.request)
        (act_comes due before entry.uid entry.request) refusal
    by false refusal = refl

-- after every history
pub refusals_change_nothing : (origin : Origin) (history : List Entry) (entry : Entry)
    → is_refusal (answer_after origin history entry).0 ≡ true
    → (answer_after origin history entry).1 ≡ after_refused_entry (after_due (state_after origin history) entry.now)
    entry
refusals_change_nothing origin history entry refusal =
    replay_more (opening_of origin) history entry ∙ step_stays (state_after origin history) history entry refusal
