-- What starts, sendings, uses of tokens and ends of deliveries leave, by cases: the state as it was, or what was
-- admitted.
use Rattle.std.proofs.Common.{◌≡◌, ℕ, Bool, true, false, not, ◌&&◌, cond, List, refl}
use Rattle.std.specs.Prelude.{Option, Some, None, Result, Ok, Err, ◌==◌, nat_le, nat_lt, length}
use Rattle.std.proofs.lemmas.Bool.{eqb-true}
use Rattle.am_types.specs.declared.intent.Intent.{Intent}
use Rattle.am_types.specs.declared.intent.Component.{Component}
use Rattle.am_types.specs.declared.manifest.Decl.{Decl}
use Rattle.am_types.specs.declared.manifest.Kind.TheVariants as kinds
use Rattle.am_types.specs.declared.broadcast.Answer.{Answer}
use Rattle.am_types.specs.declared.broadcast.FinishFault.{FinishFault}
use Rattle.am_types.specs.declared.broadcast.FinishFault.TheVariants as ends
use Rattle.am_types.specs.declared.broadcast.Ordered.{Ordered}
use Rattle.am_types.specs.declared.broadcast.Receiving.{Receiving}
use Rattle.am_types.specs.declared.broadcast.Sending.{Sending}
use Rattle.am_types.specs.declared.broadcast.SendFault.{SendFault}
use Rattle.am_types.specs.declared.broadcast.SendFault.TheVariants.{Full, TooMany}
use Rattle.am_types.specs.declared.pending.PendingFault.{PendingFault}
use Rattle.am_types.specs.declared.pending.Used.{Used}
use Rattle.am_types.specs.declared.reply.Reply.{Reply}
use Rattle.am_types.specs.declared.rule.Rule.{Rule}
use Rattle.am_types.specs.declared.rule.Rule.TheVariants as rules
use Rattle.am_types.specs.declared.task.Landed.{Landed}
use Rattle.am_model.specs.Boards.{with_stopped}
use Rattle.am_model.specs.Gates.{Admit, verdict, is_privileged}
use Rattle.am_model.specs.Receivers.{declared, receivers, is_protected}
use Rattle.am_model.specs.Tasks.{Tasks}
use Rattle.am_model.specs.Placement.{place}
use Rattle.am_model.specs.Broadcasts.{Broadcasts}
use Rattle.am_model.specs.Sending as sending
use Rattle.am_model.specs.Sending.{Held, held, live, with_sent, finished, finish_held, is_for_ordered}
use Rattle.am_model.specs.Pendings as pendings
use Rattle.am_model.specs.Pendings.{Pendings}
use Rattle.am_history.specs.State.{State, with_packages}
use Rattle.am_history.specs.Answers.{refused, done}
use Rattle.am_history.specs.Activities.{start_call, start}
use Rattle.am_history.specs.Services.{running, with_start, start_service}
use Rattle.am_history.specs.BroadcastCalls.{sending_of, after_send, send_to, send, after_finish, finish}
use Rattle.am_history.specs.PendingCalls.{lend, left_of, used_up, after_use, pending_send}
use Rattle.am_laws.proofs.Answered.{either_leaves}
use Rattle.am_laws.proofs.Tokens.{AreLeft, cancel_keeps, used_up_keeps}
use Rattle.am_laws.proofs.Starts.{StartComes, start_refused, start_left, start_lands, start_comes, ServiceComes, service_refused, service_runs, service_comes}

module _ (P : State → Type 0) (state : State) (caller : ℕ) (intent : Intent) (here : P state) where
  -- what holds after every placement that the gate admits holds after a start
  pub start_cases : (source : Option ℕ)
      → ((component : Component) (found : ℕ × Decl) (landed : Landed × Tasks)
      → declared state.board.packages kinds.Activity component ≡ Some found
      → verdict state.board.grants caller found.0 found.1.exported found.1.permission ≡ Admit
      → place state.tasks (start_call caller intent source component found) ≡ Ok landed
      → P (record (with_packages state (with_stopped state.board.packages found.0 false)) { tasks = landed.1 }))
      → P (start state caller intent source).1
  start_cases source after = by (start state caller intent source) (start_comes state caller intent source)
    where
      by : (next : Reply × State) → StartComes state caller intent source next → P next.1
      by next (start_refused rule other) = here
      by next (start_left choice) = here
      by next (start_lands component found landed is admits lands) = after component found landed is admits lands

  -- and so for services
  pub service_cases : ((component : Component) (found : ℕ × Decl) → declared state.board.packages kinds.Service
      component ≡ Some found
      → verdict state.board.grants caller found.0 found.1.exported found.1.permission ≡ Admit
      → P (record (with_packages state (with_stopped state.board.packages found.0 false)) {
        services = with_start state.services component found.0 intent (running state.services component);
      }))
      → P (start_service state caller intent).1
  service_cases after = by (start_service state caller intent) (service_comes state caller intent)
    where
      by : (next : Reply × State) → ServiceComes state caller intent next → P next.1
      by next (service_refused rule other) = here
      by next (service_runs component found is admits) = after component found is admits

  -- what holds after every broadcast whose action isn't kept from its sender holds after a sending
  pub send_cases : (permission : Option (List ℕ)) (ordered : Option Ordered)
      → (is_protected state.board.protected intent.action && not (is_privileged caller) ≡ false
      → P (record state {
        broadcasts = with_sent state.broadcasts (sending_of state caller intent ordered
            (receivers state.board intent caller permission)) ordered;
      }))
      → P (send state caller intent permission ordered).1
  unfolding send sending.send
  send_cases permission ordered after = by (is_protected state.board.protected intent.action && not
      (is_privileged caller)) refl
    where
      offered : List Receiving
      offered = receivers state.board intent caller permission

      sent : Sending
      sent = sending_of state caller intent ordered offered

      given : ℕ × Broadcasts
      given = (state.broadcasts.next_broadcast, with_sent state.broadcasts sent ordered)

      room : (full many : Bool) → P (record state { broadcasts = given.1 })
          → P (after_send state offered (cond {A = Result (ℕ × Broadcasts) SendFault} full (Err Full)
          (cond many (Err TooMany) (Ok given)))).1
      room true many done = here
      room false true done = here
      room false false done = done

      by : (b : Bool) → is_protected state.board.protected intent.action && not (is_privileged caller) ≡ b
          → P (cond b (refused state rules.ProtectedAction) (send_to state caller intent ordered offered)).1
      by true is = here
      by false is = room (nat_le 64 (live state.broadcasts caller)) (nat_lt 1024 (length sent.to)) (after is)

-- what holds after all that is done for a creator holds after the use of a token
pub use_cases : (P : State → Type 0) (state : State) (caller token : ℕ) (fill : Option Intent) → P state
    → ((after : State) (left : Pendings) → AreLeft after.pendings left → P after
    → P (record after { pendings = left }))
    → ((used : Used) → pendings.use_token state.pendings token caller fill ≡ Ok used
    → P (lend state used.creator used.intent used.kind).1)
    → P (pending_send state caller token fill).1
unfolding pending_send
use_cases P state caller token fill here keeps after = by (pendings.use_token state.pendings token caller fill) refl
  where
    by : (used : Result Used PendingFault) → pendings.use_token state.pendings token caller fill ≡ used
        → P (after_use state token used).1
    by (Err fault) is = here
    by (Ok used) is =
        let lent = lend state used.creator used.intent used.kind in
        either_leaves P used.one_shot (used_up token used.creator lent) lent
        (keeps lent.1 (left_of lent.1.pendings (pendings.cancel lent.1.pendings token used.creator))
        (used_up_keeps lent.1.pendings (pendings.cancel lent.1.pendings token used.creator)
        (cancel_keeps lent.1.pendings token used.creator)) (after used is)) (after used is)

-- what holds of every refusal, and of the holder's finished delivery, holds of what the end of a delivery is answered
-- and leaves
pub finish_cases : (Q : Reply × State → Type 0) (state : State) (caller number : ℕ) (answer : Answer)
    → ((rule : Rule) → Q (refused state rule))
    → ((holder : Held) → held state.broadcasts number ≡ Some holder → holder.uid ≡ caller
    → Q (done (record state { broadcasts = finished state.broadcasts number answer state.moment })))
    → Q (finish state caller number answer)
unfolding finish sending.finish
finish_cases Q state caller number answer refuses after = by (held state.broadcasts number) refl
  where
    left : Broadcasts
    left = finished state.broadcasts number answer state.moment

    tests : (holder : Held) → held state.broadcasts number ≡ Some holder → (same unfit : Bool) → (holder.uid == caller)
        ≡ same
        → Q (after_finish state (cond {A = Result Broadcasts FinishFault} (not same) (Err ends.NotYours)
        (cond unfit (Err ends.NotOrdered) (Ok left))))
    tests holder is false unfit same = refuses rules.NotYours
    tests holder is true true same = refuses rules.NotOrdered
    tests holder is true false same = after holder is (eqb-true holder.uid caller same)

    by : (found : Option Held) → held state.broadcasts number ≡ found
        → Q (after_finish state (finish_held state.broadcasts number caller answer state.moment found))
    by None is = refuses rules.NoDelivery
    by (Some holder) is = tests holder is (holder.uid == caller) (is_for_ordered answer && not holder.ordered) refl
