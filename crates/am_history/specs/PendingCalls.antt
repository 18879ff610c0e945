-- Pending intents, as callers ask for them.
use Rattle.std.specs.Prelude.{ℕ, true, ℤ, if◌then◌else◌, List, Option, None, Result, Ok, Err}
use Rattle.am_types.specs.declared.intent.Intent.{Intent}
use Rattle.am_types.specs.declared.device.Package.{Package}
use Rattle.am_types.specs.declared.manifest.Kind.{Kind}
use Rattle.am_types.specs.declared.manifest.Kind.TheVariants as kinds
use Rattle.am_types.specs.declared.pending.PendingFlags.{PendingFlags}
use Rattle.am_types.specs.declared.pending.PendingFault.{PendingFault}
use Rattle.am_types.specs.declared.pending.PendingFault.TheVariants as faults
use Rattle.am_types.specs.declared.pending.Used.{Used}
use Rattle.am_types.specs.declared.reply.Reply.{Reply}
use Rattle.am_types.specs.declared.reply.Reply.TheVariants as replies
use Rattle.am_types.specs.declared.rule.Rule.{Rule}
use Rattle.am_types.specs.declared.rule.Rule.TheVariants as rules
use Rattle.am_types.specs.declared.rule.Limit.TheVariants as limits
use Rattle.am_model.specs.Pendings as pendings
use Rattle.am_model.specs.Pendings.{Pendings, Asked}
use Rattle.am_history.specs.State.{State}
use Rattle.am_history.specs.Answers.{refused, done_or, for_package}
use Rattle.am_history.specs.Activities.{start}
use Rattle.am_history.specs.Services.{start_service}
use Rattle.am_history.specs.BroadcastCalls.{send}

-- the rule by which a pending-intent call is refused (out of memory, which no call returns, falls under the last case)
abbrev pub pending_rule : PendingFault → Rule
pending_rule faults.Mutability = rules.Mutability
pending_rule faults.Full = rules.OverLimit limits.Pending
pending_rule faults.NoToken = rules.NoToken
pending_rule faults.NotCreator = rules.NotCreator
pending_rule faults.NotHolder = rules.NotHolder
pending_rule faults.Canceled = rules.Canceled
pending_rule faults.ExtrasFull = rules.OverLimit limits.Extras
pending_rule _ = rules.OverLimit limits.Holders

-- a token was asked for
abbrev pub after_get : State → Result (Option ℕ × Pendings) PendingFault → Reply × State
after_get state (Err fault) = refused state (pending_rule fault)
after_get state (Ok got) = (replies.Token got.0, record state { pendings = got.1 })

-- a token is asked for by a caller
unfoldable pub pending_get : State → ℕ → Kind → ℤ → Intent → PendingFlags → Reply × State
pending_get state caller kind code intent flags =
    after_get state (pendings.get state.pendings (record {
      creator = caller;
      kind = kind;
      code = code;
      intent = intent;
      flags = flags;
    }))

-- the records after a call, or the rule that refuses it
abbrev pub after_change : State → Result Pendings PendingFault → Reply × State
after_change state left = done_or state pending_rule (λ (all : Pendings). record state { pendings = all }) left

-- a token is canceled by its creator
unfoldable pub pending_cancel : State → ℕ → ℕ → Reply × State
pending_cancel state caller token = after_change state (pendings.cancel state.pendings token caller)

-- a token is given to a package by its creator
unfoldable pub pending_give : State → ℕ → ℕ → List ℕ → Reply × State
pending_give state caller token name =
    for_package state name (λ (to : Package). after_change state (pendings.give state.pendings token caller to.uid))

-- the intent with NEW_TASK added
abbrev pub in_new_task : Intent → Intent
in_new_task intent = record intent { flags = record (intent.flags) { new_task = true } }

-- what a token stands for is done as its creator: a start in a new task, the start of a service, or a broadcast
abbrev pub lend : State → ℕ → Intent → Kind → Reply × State
lend state creator intent kinds.Activity = start state creator (in_new_task intent) None
lend state creator intent kinds.Service = start_service state creator intent
lend state creator intent kinds.Receiver = send state creator intent None None

-- the records after a canceling that can't be refused
abbrev pub left_of : Pendings → Result Pendings PendingFault → Pendings
left_of all (Ok left) = left
left_of all (Err fault) = all

-- the token is used up, whatever the answer was
abbrev pub used_up : ℕ → ℕ → Reply × State → Reply × State
used_up token creator after =
    (after.0, record (after.1) { pendings = left_of after.1.pendings (pendings.cancel after.1.pendings token creator) })

-- a token that may be used: what it stands for is done, and a one-shot one is used up
abbrev pub after_use : State → ℕ → Result Used PendingFault → Reply × State
after_use state token (Err fault) = refused state (pending_rule fault)
after_use state token (Ok used) =
    if used.one_shot
    then used_up token used.creator (lend state used.creator used.intent used.kind)
    else lend state used.creator used.intent used.kind

-- a token is used by one who holds it
unfoldable pub pending_send : State → ℕ → ℕ → Option Intent → Reply × State
pending_send state caller token fill = after_use state token (pendings.use_token state.pendings token caller fill)
