-- No request is itself answered that its row couldn't be kept: that answer is the keeper's alone.
use Rattle.std.proofs.Common.{◌≡◌, ◌≢◌, ℕ, Bool, true, false, List, refl, sym, ap, ◌∙◌}
use Rattle.std.proofs.lemmas.Bool.{false≢true}
use Rattle.am_types.specs.declared.history.Entry.{Entry}
use Rattle.am_types.specs.declared.request.Request.{Request}
use Rattle.am_types.specs.declared.reply.Reply.{Reply}
use Rattle.am_types.specs.declared.reply.Reply.TheVariants as replies
use Rattle.am_types.specs.declared.rule.Rule.TheVariants as rules
use Rattle.am_history.specs.State.{State}
use Rattle.am_history.specs.Steps.{act}
use Rattle.am_history.proofs.OnlyReads.{is_fault}
use Rattle.am_laws.specs.Access.{Deed}
use Rattle.am_laws.proofs.Outcomes.{is_other, Comes, refuses, lands, tells, ActComes, acts, uses, act_comes}
use Rattle.std.specs.Prelude.{Option}

-- the reply is refused by that rule
abbrev faults : Reply → Bool
faults (replies.Refused rule) = is_fault rule
faults _ = false

-- another answer isn't
other_answers : (reply : Reply) → is_other reply ≡ true → faults reply ≡ false
other_answers (replies.Refused rule) other = absurd (false≢true other)
other_answers _ other = refl

-- nor is any that comes of a deed
deed_answers : (state : State) (deed : Option Deed) (next : Reply × State) → Comes state deed next → faults next.0
    ≡ false
deed_answers state deed next (refuses rule other) = other
deed_answers state deed next (lands uid intent source component found landed did is admits placed) = refl
deed_answers state deed next (tells reply after other) = other_answers reply other

-- nor any that comes of a request
request_answers : (state : State) (caller : ℕ) (request : Request) (next : Reply × State)
    → ActComes state caller request next → faults next.0 ≡ false
request_answers state caller request next (acts after stays comes) = deed_answers state _ after comes
request_answers state caller request next (uses token fill used after asked is once comes) = deed_answers state _ after
    comes

-- a reply that is that one fails the test
no_fault : (reply : Reply) → faults reply ≡ false → reply ≢ replies.Refused rules.KeeperFault
no_fault reply other is = false≢true (sym other ∙ ap (λ (r : Reply). faults r) is)

-- no request is answered that its row couldn't be kept
pub act_never_faults : (state : State) (before : List Entry) (caller : ℕ) (request : Request)
    → (act state before caller request).0 ≢ replies.Refused rules.KeeperFault
act_never_faults state before caller request =
    no_fault (act state before caller request).0 (request_answers state caller request (act state before caller request)
    (act_comes state before caller request))
