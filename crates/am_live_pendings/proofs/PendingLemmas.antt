-- What the calls on pending intents answer and leave is what the definitions do.
use Rattle.std.proofs.Common.{◌≡◌, ◌∙◌, ℕ, List, Option, Result, Ok, Err, ap, refl, sym}
use Rattle.std.specs.Prelude.{IfOk, OnOk}
use Rattle.am_types.specs.declared.device.Package.{Package}
use Rattle.am_types.specs.declared.failure.NoMemory.{NoMemory}
use Rattle.am_types.specs.declared.intent.Intent.{Intent}
use Rattle.am_types.specs.declared.pending.PendingFault.{PendingFault}
use Rattle.am_types.specs.declared.pending.PendingFault.TheVariants as faults
use Rattle.am_types.specs.declared.pending.Used.{Used}
use Rattle.am_types.specs.declared.reply.Reply.{Reply}
use Rattle.am_types.specs.declared.reply.Reply.TheVariants.{Refused}
use Rattle.am_model.specs.Boards.{package_named}
use Rattle.am_model.specs.Pendings.{Pendings, give, use_token}
use Rattle.am_history.specs.Answers.{for_found}
use Rattle.am_history.specs.PendingCalls.{after_change, after_use, pending_give, pending_rule, pending_send}
use Rattle.am_history.specs.State.{State}
use Rattle.am_pending.specs.Answers.{IsRefusal}

-- a fault other than running out of memory is the definitions'
pub fault_is : {X : Type 0} (fault : PendingFault) (said : Result X PendingFault)
    → (fault ≡ faults.NoMemory → ⊥) → IsRefusal fault said → said ≡ Err fault
fault_is faults.NoMemory said known is = absurd (known refl)
fault_is _ said known is = is

-- a call that is refused is refused by the definitions, and leaves what was there
pub refused_is : {X : Type 0} (after : State → Result X PendingFault → Reply × State) (left : State → Pendings → State)
    (said : Result X PendingFault) (fault : PendingFault) (old new : Pendings) (result : Result Reply NoMemory)
    → ((state : State) → after state (Err fault) ≡ (Refused (pending_rule fault), left state old))
    → IsRefusal fault said × (new ≡ old)
    → IfOk result (λ reply. reply ≡ Refused (pending_rule fault))
    → OnOk result (fault ≡ faults.NoMemory → ⊥)
    → IfOk result (λ reply. (state : State) → after state said ≡ (reply, left state new))
refused_is after left said fault old new (Err error) refuses answer rule known = tt
refused_is after left said fault old new (Ok reply) refuses answer rule known = λ (state : State).
    ap (after state) (fault_is fault said known answer.0)
    ∙ refuses state
    ∙ (λ i. (sym rule i, left state (sym answer.1 i)))

-- a token is given to the package of the name, where that is known to be there or not
pub given_to : (state : State) (caller token : ℕ) (name : List ℕ) (to : Option Package)
    → package_named state.board.packages name ≡ to
    → pending_give state caller token name
    ≡ for_found state to (λ (to : Package). after_change state (give state.pendings token caller to.uid))
unfolding pending_give
given_to state caller token name to is =
    ap (λ (found : Option Package). for_found state found (λ (to : Package). after_change state
    (give state.pendings token caller to.uid))) is

-- a token is used, where that is known to be granted or refused
pub sent_as : (state : State) (caller token : ℕ) (fill : Option Intent) (used : Result Used PendingFault)
    → use_token state.pendings token caller fill ≡ used
    → pending_send state caller token fill ≡ after_use state token used
unfolding pending_send
sent_as state caller token fill used is = ap (after_use state token) is
