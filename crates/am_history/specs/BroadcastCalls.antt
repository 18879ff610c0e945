-- Broadcasts, registered receivers and deliveries, as callers ask for them.
use Rattle.std.specs.Prelude.{ℕ, ◌+◌, Bool, false, not, ◌&&◌, ◌==◌, nat_le, List, [], ◌∷◌, ◌++◌, filter, if◌then◌else◌, Option, Some, None, Result, Ok, Err}
use Rattle.std.specs.List.{count_by, find}
use Rattle.am_types.specs.declared.intent.Intent.{Intent}
use Rattle.am_types.specs.declared.filter.Filter.{Filter}
use Rattle.am_types.specs.declared.resolve.Registration.{Registration}
use Rattle.am_types.specs.declared.broadcast.Answer.{Answer}
use Rattle.am_types.specs.declared.broadcast.Ordered.{Ordered}
use Rattle.am_types.specs.declared.broadcast.Receiving.{Receiving}
use Rattle.am_types.specs.declared.broadcast.Sending.{Sending}
use Rattle.am_types.specs.declared.broadcast.SendFault.{SendFault}
use Rattle.am_types.specs.declared.broadcast.SendFault.TheVariants as sends
use Rattle.am_types.specs.declared.broadcast.FinishFault.{FinishFault}
use Rattle.am_types.specs.declared.broadcast.FinishFault.TheVariants as ends
use Rattle.am_types.specs.declared.reply.Reply.{Reply}
use Rattle.am_types.specs.declared.reply.Reply.TheVariants as replies
use Rattle.am_types.specs.declared.rule.Rule.{Rule}
use Rattle.am_types.specs.declared.rule.Rule.TheVariants as rules
use Rattle.am_types.specs.declared.rule.Limit.TheVariants as limits
use Rattle.am_model.specs.Gates.{is_privileged}
use Rattle.am_model.specs.Receivers.{is_protected, receivers, admitted}
use Rattle.am_model.specs.Broadcasts.{Broadcasts}
use Rattle.am_model.specs.Sending as sending
use Rattle.am_history.specs.State.{State}
use Rattle.am_history.specs.Answers.{refused, done, done_or}

-- the rule by which a broadcast isn't sent (out of memory, which a sending never returns, falls under the last case)
abbrev pub send_rule : SendFault → Rule
send_rule sends.Full = rules.OverLimit limits.Broadcasts
send_rule _ = rules.OverLimit limits.Receivers

-- the broadcast of a caller to those of the receivers who are admitted
abbrev pub sending_of : State → ℕ → Intent → Option Ordered → List Receiving → Sending
sending_of state caller intent ordered offered = record {
  sender = caller;
  now = state.moment;
  foreground = intent.flags.foreground;
  no_abort = intent.flags.no_abort;
  intent = intent;
  to = admitted offered;
  ordered = ordered;
}

-- the broadcast was sent, or it wasn't
abbrev pub after_send : State → List Receiving → Result (ℕ × Broadcasts) SendFault → Reply × State
after_send state offered (Err fault) = refused state (send_rule fault)
after_send state offered (Ok sent) = (replies.Sent sent.0 offered, record state { broadcasts = sent.1 })

-- the broadcast is sent to the receivers that it was offered to
abbrev pub send_to : State → ℕ → Intent → Option Ordered → List Receiving → Reply × State
send_to state caller intent ordered offered =
    after_send state offered (sending.send state.broadcasts (sending_of state caller intent ordered offered))

-- an intent is broadcast; a protected action only by the system and the root
unfoldable pub send : State → ℕ → Intent → Option (List ℕ) → Option Ordered → Reply × State
send state caller intent permission ordered =
    if is_protected state.board.protected intent.action && not (is_privileged caller)
    then refused state rules.ProtectedAction
    else send_to state caller intent ordered (receivers state.board intent caller permission)

-- the state with other registered receivers
abbrev pub with_registered : State → List Registration → State
with_registered state registered = record state { board = record (state.board) { registered = registered } }

-- how many receivers a uid has registered
abbrev pub count_of : List Registration → ℕ → ℕ
count_of registered uid = count_by (λ (r : Registration). r.uid == uid) registered

-- a receiver is registered, unless its uid has 64
unfoldable pub register : State → ℕ → Filter → Option (List ℕ) → Reply × State
register state caller filter permission =
    if nat_le 64 (count_of state.board.registered caller) then refused state (rules.OverLimit limits.Registered)
    else (
      replies.Registered state.next_registration,
      record (with_registered state (state.board.registered ++
          record { number = state.next_registration; uid = caller; filter = filter; permission = permission } ∷ [])) {
            next_registration = state.next_registration + 1;
          },
    )

-- the registered receiver is taken back, and no broadcast goes to it any longer
abbrev pub taken_back : State → Registration → State
taken_back state found =
    record (with_registered state (filter (λ (r : Registration). not (r.number == found.number))
    state.board.registered)) {
      broadcasts = sending.forget_registered state.broadcasts found.number state.moment;
    }

-- a registered receiver, if there is one, is taken back by its uid
abbrev pub unregister_found : State → ℕ → Option Registration → Reply × State
unregister_found state caller None = refused state rules.NoReceiver
unregister_found state caller (Some found) =
    if found.uid == caller then done (taken_back state found) else refused state rules.NotYours

-- a registered receiver is taken back by its uid
unfoldable pub unregister : State → ℕ → ℕ → Reply × State
unregister state caller number =
    unregister_found state caller (find (λ (r : Registration). r.number == number) state.board.registered)

-- the rule by which a delivery isn't finished
abbrev pub finish_rule : FinishFault → Rule
finish_rule ends.NoDelivery = rules.NoDelivery
finish_rule ends.NotYours = rules.NotYours
finish_rule ends.NotOrdered = rules.NotOrdered

-- the delivery was finished, or it wasn't
abbrev pub after_finish : State → Result Broadcasts FinishFault → Reply × State
after_finish state left = done_or state finish_rule (λ (all : Broadcasts). record state { broadcasts = all }) left

-- a delivery is finished
unfoldable pub finish : State → ℕ → ℕ → Answer → Reply × State
finish state caller delivery answer =
    after_finish state (sending.finish state.broadcasts delivery caller answer state.moment)
