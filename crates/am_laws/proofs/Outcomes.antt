-- What a request is answered and what it leaves, by cases: it is refused, a start that the gate admitted lands, or it
-- is
-- answered otherwise.
use Rattle.std.proofs.Common.{◌≡◌, ℕ, ℤ, Bool, true, false, not, ◌&&◌, ◌||◌, cond, List, refl, ap, ◌∙◌}
use Rattle.std.specs.Prelude.{Option, Some, None, Result, Ok, Err, nat_le, ◌+◌, ◌==◌}
use Rattle.std.specs.List.{find}
use Rattle.am_types.specs.Bounds.{latest_moment}
use Rattle.am_types.specs.declared.intent.Intent.{Intent}
use Rattle.am_types.specs.declared.intent.Component.{Component}
use Rattle.am_types.specs.declared.device.Package.{Package}
use Rattle.am_types.specs.declared.manifest.Decl.{Decl}
use Rattle.am_types.specs.declared.manifest.Kind.{Kind}
use Rattle.am_types.specs.declared.manifest.Kind.TheVariants as kinds
use Rattle.am_types.specs.declared.manifest.Manifest.{Manifest}
use Rattle.am_types.specs.declared.manifest.ManifestFault.{ManifestFault}
use Rattle.am_types.specs.declared.filter.Filter.{Filter}
use Rattle.am_types.specs.declared.broadcast.Answer.{Answer}
use Rattle.am_types.specs.declared.pending.PendingFlags.{PendingFlags}
use Rattle.am_types.specs.declared.resolve.Registration.{Registration}
use Rattle.am_types.specs.declared.broadcast.Ordered.{Ordered}
use Rattle.am_types.specs.declared.broadcast.Receiving.{Receiving}
use Rattle.am_types.specs.declared.broadcast.SendFault.{SendFault}
use Rattle.am_types.specs.declared.broadcast.SendFault.TheVariants as sends
use Rattle.am_types.specs.declared.broadcast.FinishFault.{FinishFault}
use Rattle.am_types.specs.declared.broadcast.FinishFault.TheVariants as ends
use Rattle.am_types.specs.declared.pending.PendingFault.{PendingFault}
use Rattle.am_types.specs.declared.pending.PendingFault.TheVariants as pends
use Rattle.am_types.specs.declared.pending.Used.{Used}
use Rattle.am_types.specs.declared.task.Landed.{Landed}
use Rattle.am_types.specs.declared.task.TaskFault.{TaskFault}
use Rattle.am_types.specs.declared.task.TaskFault.TheVariants as leaves
use Rattle.am_types.specs.declared.history.Entry.{Entry}
use Rattle.am_types.specs.declared.request.Request.{Request}
use Rattle.am_types.specs.declared.request.Request.TheVariants as asks
use Rattle.am_types.specs.declared.reply.Reply.{Reply}
use Rattle.am_types.specs.declared.reply.Reply.TheVariants as replies
use Rattle.am_types.specs.declared.rule.Rule.{Rule}
use Rattle.am_types.specs.declared.rule.Rule.TheVariants as rules
use Rattle.am_types.specs.declared.rule.Limit.{Limit}
use Rattle.am_types.specs.declared.rule.Limit.TheVariants as limits
use Rattle.am_model.specs.Boards.{package_named, with_stopped}
use Rattle.am_model.specs.Gates.{Admit, verdict, is_privileged}
use Rattle.am_model.specs.Receivers.{declared, receivers, is_protected}
use Rattle.am_model.specs.Tasks as tasks
use Rattle.am_model.specs.Tasks.{Tasks, owner, may_end}
use Rattle.am_model.specs.Placement.{place}
use Rattle.am_model.specs.Broadcasts.{Broadcasts}
use Rattle.am_model.specs.Sending as sending
use Rattle.am_model.specs.Pendings as pendings
use Rattle.am_model.specs.Pendings.{Pendings, use_token}
use Rattle.am_manifest.specs.Manifests.{manifest_of}
use Rattle.am_history.specs.State.{State, Service, with_packages}
use Rattle.am_history.specs.Answers.{refused, done, unless_refused, for_admin, for_found, for_package}
use Rattle.am_history.specs.Activities.{start_call, start, end_rule, after_end, finish_activity, back}
use Rattle.am_history.specs.Services.{running, gate_rule, start_service, stopped_rule, stop_maybe, stop_service}
use Rattle.am_history.specs.BroadcastCalls.{sending_of, send_rule, after_send, send, count_of, register, unregister_found, unregister, finish_rule, after_finish, finish}
use Rattle.am_history.specs.PendingCalls.{pending_rule, after_get, pending_get, after_change, pending_cancel, pending_give, in_new_task, lend, after_use, used_up, pending_send}
use Rattle.am_history.specs.Packages.{is_name_used, is_key_used, is_full, install_read, install, uninstall, force_stop, too_many_grants, grant, too_many_links, link}
use Rattle.am_history.specs.Steps.{act, advance}
use Rattle.am_history.proofs.OnlyReads.{is_fault, says_done, Read, says, act_reads}
use Rattle.am_laws.specs.Access.{Deed, Starts, Serves, Sends, lent_deed, deed_of, used_deed}
use Rattle.am_laws.specs.Refusals.{without_record, after_use_refused, after_refused}
use Rattle.am_laws.proofs.Starts as starts
use Rattle.am_laws.proofs.Starts.{IsOther, gate_other, unless_other, StartComes, start_refused, start_left, start_lands, ServiceComes, service_refused, service_runs}
use Rattle.am_laws.proofs.Tests.{either_holds}

-- the reply neither refuses nor says where a start landed
abbrev pub is_other : Reply → Bool
is_other (replies.Refused rule) = false
is_other (replies.Placed landed) = false
is_other _ = true

-- what comes of a request that does a deed, if it does one: it is refused and the state stays, by a rule that isn't the
-- keeper's; its start lands, which the gate admitted; or it is answered otherwise
pub data Comes (state : State) (deed : Option Deed) : Reply × State → Type 0 where
  refuses : (rule : Rule) → is_fault rule ≡ false → Comes state deed (refused state rule)
  lands : (uid : ℕ) (intent : Intent) (source : Option ℕ) (component : Component) (found : ℕ × Decl)
      (landed : Landed × Tasks)
      → deed ≡ Some (Starts uid intent) → declared state.board.packages kinds.Activity component ≡ Some found
      → verdict state.board.grants uid found.0 found.1.exported found.1.permission ≡ Admit
      → place state.tasks (start_call uid intent source component found) ≡ Ok landed
      → Comes state deed (
        replies.Placed landed.0,
        record (with_packages state
            (with_stopped state.board.packages found.0 false)) { tasks = landed.1 },
      )
  tells : (reply : Reply) (after : State) → is_other reply ≡ true → Comes state deed (reply, after)

-- the rule of a sending
send_other : (fault : SendFault) → is_fault (send_rule fault) ≡ false
send_other sends.Full = refl
send_other _ = refl

-- the rule of a pending intent
pending_other : (fault : PendingFault) → is_fault (pending_rule fault) ≡ false
pending_other pends.Mutability = refl
pending_other _ = refl

-- the rule of an end
end_other : (fault : TaskFault) → is_fault (end_rule fault) ≡ false
end_other leaves.NoSource = refl
end_other leaves.NotYours = refl

-- the rule of the end of a delivery
finish_other : (fault : FinishFault) → is_fault (finish_rule fault) ≡ false
finish_other ends.NoDelivery = refl
finish_other ends.NotYours = refl
finish_other ends.NotOrdered = refl

-- the rule of a service that doesn't run
stopped_other : (service : Option Service) → IsOther (stopped_rule service)
stopped_other None = refl
stopped_other (Some service) = tt

module _ (state : State) (deed : Option Deed) where
  -- an answer that a rule may refuse
  unless : (rule : Option Rule) (next : Reply × State) → IsOther rule → (rule ≡ None → Comes state deed next)
      → Comes state deed (unless_refused state rule next)
  unless rule next = unless_other (Comes state deed) state rule next refuses

  -- an answer where something may be over its limit
  limited : (many : Bool) (limit : Limit) (next : Reply × State) → Comes state deed next
      → Comes state deed (cond many (refused state (rules.OverLimit limit)) next)
  limited many limit next after = either_holds (Comes state deed) many (refused state (rules.OverLimit limit)) next
      (refuses (rules.OverLimit limit) refl) after

  -- an answer for the system and the root alone
  by_admin : (caller : ℕ) (next : Reply × State) → Comes state deed next
      → Comes state deed (for_admin state caller next)
  by_admin caller next after = either_holds (Comes state deed) (is_privileged caller) next
      (refused state rules.AdminOnly) after (refuses rules.AdminOnly refl)

  -- an answer for the package of a name, if there is one
  of_package : (name : List ℕ) (next : Package → Reply × State) → ((owner : Package) → Comes state deed (next owner))
      → Comes state deed (for_package state name next)
  of_package name next after = by (package_named state.board.packages name)
    where
      by : (found : Option Package) → Comes state deed (for_found state found next)
      by None = refuses rules.NoPackage refl
      by (Some owner) = after owner

  module _ (caller : ℕ) (intent : Intent) where
    -- a start of an activity
    start_comes : (source : Option ℕ) → deed ≡ Some (Starts caller intent)
        → Comes state deed (start state caller intent source)
    start_comes source did = by (start state caller intent source) (starts.start_comes state caller intent source)
      where
        by : (next : Reply × State) → StartComes state caller intent source next → Comes state deed next
        by next (start_refused rule other) = refuses rule other
        by next (start_left choice) = tells (replies.Choose choice) state refl
        by next (start_lands component found landed is admits lands_so) = lands caller intent source component found
            landed did is admits lands_so

    -- a start of a service
    service_comes : Comes state deed (start_service state caller intent)
    service_comes = by (start_service state caller intent) (starts.service_comes state caller intent)
      where
        by : (next : Reply × State) → ServiceComes state caller intent next → Comes state deed next
        by next (service_refused rule other) = refuses rule other
        by next (service_runs component found is admits) = tells (replies.Started component _) _ refl

    -- a broadcast
    send_comes : (permission : Option (List ℕ)) (ordered : Option Ordered)
        → Comes state deed (send state caller intent permission ordered)
    unfolding send
    send_comes permission ordered =
        either_holds (Comes state deed) (is_protected state.board.protected intent.action && not (is_privileged caller))
        (refused state rules.ProtectedAction) _ (refuses rules.ProtectedAction refl)
        (by (sending.send state.broadcasts (sending_of state caller intent ordered offered)))
      where
        offered : List Receiving
        offered = receivers state.board intent caller permission

        by : (result : Result (ℕ × Broadcasts) SendFault) → Comes state deed (after_send state offered result)
        by (Err fault) = refuses (send_rule fault) (send_other fault)
        by (Ok sent) = tells (replies.Sent sent.0 offered) _ refl

  -- an instance that is ended
  finish_activity_comes : (caller number : ℕ) → Comes state deed (finish_activity state caller number)
  unfolding finish_activity
  finish_activity_comes caller number = by (tasks.finish state.tasks number caller)
    where
      by : (left : Result Tasks TaskFault) → Comes state deed (after_end state left)
      by (Err fault) = refuses (end_rule fault) (end_other fault)
      by (Ok left) = tells replies.Plain _ refl

  -- going back
  back_comes : Comes state deed (back state)
  unfolding back
  back_comes = tells (replies.Finished (tasks.back state.tasks).0) _ refl

  -- a stop of a service
  stop_service_comes : (caller : ℕ) (component : Component) → Comes state deed (stop_service state caller component)
  unfolding stop_service
  stop_service_comes caller component = by (declared state.board.packages kinds.Service component)
    where
      by : (found : Option (ℕ × Decl)) → Comes state deed (stop_maybe state caller component found)
      by None = refuses rules.NoComponent refl
      by (Some found) =
          unless (stopped_rule (running state.services component)) _ (stopped_other (running state.services component))
          (λ runs. unless (gate_rule state caller found) _ (gate_other
          (verdict state.board.grants caller found.0 found.1.exported found.1.permission))
          (λ none. tells replies.Plain _ refl))

  -- a receiver that is registered
  register_comes : (caller : ℕ) (filter : Filter) (permission : Option (List ℕ))
      → Comes state deed (register state caller filter permission)
  unfolding register
  register_comes caller filter permission =
      limited (nat_le 64 (count_of state.board.registered caller)) limits.Registered _
      (tells (replies.Registered state.next_registration) _ refl)

  -- a registered receiver that is taken back
  unregister_comes : (caller number : ℕ) → Comes state deed (unregister state caller number)
  unfolding unregister
  unregister_comes caller number = by (find (λ (r : Registration). r.number == number) state.board.registered)
    where
      by : (found : Option Registration) → Comes state deed (unregister_found state caller found)
      by None = refuses rules.NoReceiver refl
      by (Some found) = either_holds (Comes state deed) (found.uid == caller) _ (refused state rules.NotYours)
          (tells replies.Plain _ refl) (refuses rules.NotYours refl)

  -- a delivery that is finished
  finish_comes : (caller number : ℕ) (answer : Answer) → Comes state deed (finish state caller number answer)
  unfolding finish
  finish_comes caller number answer = by (sending.finish state.broadcasts number caller answer state.moment)
    where
      by : (left : Result Broadcasts FinishFault) → Comes state deed (after_finish state left)
      by (Err fault) = refuses (finish_rule fault) (finish_other fault)
      by (Ok left) = tells replies.Plain _ refl

  -- a token that is asked for
  pending_get_comes : (caller : ℕ) (kind : Kind) (code : ℤ) (intent : Intent) (flags : PendingFlags)
      → Comes state deed (pending_get state caller kind code intent flags)
  unfolding pending_get
  pending_get_comes caller kind code intent flags =
      by (pendings.get state.pendings (record {
        creator = caller;
        kind = kind;
        code = code;
        intent = intent;
        flags =
            flags;
      }))
    where
      by : (got : Result (Option ℕ × Pendings) PendingFault) → Comes state deed (after_get state got)
      by (Err fault) = refuses (pending_rule fault) (pending_other fault)
      by (Ok got) = tells (replies.Token got.0) _ refl

  -- after a change of the records
  change_comes : (left : Result Pendings PendingFault) → Comes state deed (after_change state left)
  change_comes (Err fault) = refuses (pending_rule fault) (pending_other fault)
  change_comes (Ok left) = tells replies.Plain _ refl

  -- a token that is canceled
  pending_cancel_comes : (caller token : ℕ) → Comes state deed (pending_cancel state caller token)
  unfolding pending_cancel
  pending_cancel_comes caller token = change_comes (pendings.cancel state.pendings token caller)

  -- a token that is given
  pending_give_comes : (caller token : ℕ) (name : List ℕ) → Comes state deed (pending_give state caller token name)
  unfolding pending_give
  pending_give_comes caller token name =
      of_package name (λ (to : Package). after_change state (pendings.give state.pendings token caller to.uid))
      (λ to. change_comes (pendings.give state.pendings token caller to.uid))

  -- what is done for the creator of a token
  lend_comes : (creator : ℕ) (intent : Intent) (kind : Kind) → deed ≡ Some (lent_deed creator intent kind)
      → Comes state deed (lend state creator intent kind)
  lend_comes creator intent kinds.Activity did = start_comes creator (in_new_task intent) None did
  lend_comes creator intent kinds.Service did = service_comes creator intent
  lend_comes creator intent kinds.Receiver did = send_comes creator intent None None

  -- a package that is installed
  install_comes : (caller : ℕ) (text key : List ℕ) → Comes state deed (install state caller text key)
  unfolding install
  install_comes caller text key = by_admin caller (install_read state key (manifest_of text)) (by (manifest_of text))
    where
      by : (manifest : Result Manifest ManifestFault) → Comes state deed (install_read state key manifest)
      by (Err fault) = refuses (rules.BadManifest fault) refl
      by (Ok manifest) =
          either_holds (Comes state deed)
          (is_name_used state.board.packages manifest.«package» || is_key_used state key)
          (refused state rules.Installed) _ (refuses rules.Installed refl)
          (limited (is_full state) limits.Packages _ (tells (replies.Installed state.next_uid) _ refl))

  -- a package that is uninstalled
  uninstall_comes : (caller : ℕ) (name : List ℕ) → Comes state deed (uninstall state caller name)
  unfolding uninstall
  uninstall_comes caller name = by_admin caller _ (of_package name _ (λ owner. tells replies.Plain _ refl))

  -- a package that is stopped
  force_stop_comes : (caller : ℕ) (name : List ℕ) → Comes state deed (force_stop state caller name)
  unfolding force_stop
  force_stop_comes caller name = by_admin caller _ (of_package name _ (λ owner. tells replies.Plain _ refl))

  -- a permission that is given or taken
  grant_comes : (caller : ℕ) (name permission : List ℕ) (held : Bool)
      → Comes state deed (grant state caller name permission held)
  unfolding grant
  grant_comes caller name permission held =
      by_admin caller _ (of_package name _ (λ owner. limited (too_many_grants state.board.grants owner.uid permission
      held) limits.Grants _ (tells replies.Plain _ refl)))

  -- a host that is approved or not
  link_comes : (caller : ℕ) (name host : List ℕ) (approved : Bool)
      → Comes state deed (link state caller name host approved)
  unfolding link
  link_comes caller name host approved =
      by_admin caller _ (of_package name _ (λ owner. limited (too_many_links state.board.links owner.uid host approved)
      limits.Links _ (tells replies.Plain _ refl)))

  -- the moment that is moved
  advance_comes : (by : ℕ) → Comes state deed (advance state by)
  unfolding advance
  advance_comes by =
      either_holds (Comes state deed) (nat_le (state.moment + by) latest_moment) _
      (refused state (rules.OverLimit limits.Moment)) (tells (replies.Advanced _ _) _ refl)
      (refuses (rules.OverLimit limits.Moment) refl)

  -- a request that only reads
  read_comes : (next : Reply × State) → Read state next → Comes state deed next
  read_comes next (says reply nothing) = by reply nothing
    where
      by : (reply : Reply) → says_done reply ≡ false → Comes state deed (reply, state)
      by (replies.Refused rule) nothing = refuses rule nothing
      by (replies.Placed landed) nothing = absurd cc
      by reply nothing = tells reply state refl

-- what comes of a request: what comes of its deed; and if a one-shot token does it, that one is used up
pub data ActComes (state : State) (caller : ℕ) (request : Request) : Reply × State → Type 0 where
  acts : (next : Reply × State) → after_refused state caller request ≡ state
      → Comes state (deed_of state caller request) next
      → ActComes state caller request next
  uses : (token : ℕ) (fill : Option Intent) (used : Used) (next : Reply × State) → request ≡ asks.PendingSend token fill
      → use_token state.pendings token caller fill ≡ Ok used → used.one_shot ≡ true
      → Comes state (deed_of state caller request) next
      → ActComes state caller request (used_up token used.creator next)

-- a token that is used
pending_send_comes : (state : State) (caller token : ℕ) (fill : Option Intent)
    → ActComes state caller (asks.PendingSend token fill) (pending_send state caller token fill)
unfolding pending_send
pending_send_comes state caller token fill = by (use_token state.pendings token caller fill) refl
  where
    asked : Request
    asked = asks.PendingSend token fill

    does : (used : Used) → use_token state.pendings token caller fill ≡ Ok used → (once : Bool) → used.one_shot ≡ once
        → ActComes state caller asked (cond once (used_up token used.creator
        (lend state used.creator used.intent used.kind)) (lend state used.creator used.intent used.kind))
    does used is true once =
        uses token fill used (lend state used.creator used.intent used.kind) refl is once
        (lend_comes state (deed_of state caller asked) used.creator used.intent used.kind
        (ap (λ result. used_deed result) is))
    does used is false once =
        acts (lend state used.creator used.intent used.kind)
        (ap (λ result. after_use_refused state token result) is ∙ ap
        (λ (b : Bool). cond b (without_record state token) state) once)
        (lend_comes state (deed_of state caller asked) used.creator used.intent used.kind
        (ap (λ result. used_deed result) is))

    by : (result : Result Used PendingFault) → use_token state.pendings token caller fill ≡ result
        → ActComes state caller asked (after_use state token result)
    by (Err fault) is = acts (refused state (pending_rule fault)) (ap (λ result. after_use_refused state token result)
        is) (refuses (pending_rule fault) (pending_other fault))
    by (Ok used) is = does used is used.one_shot refl

-- each request; the last row is for every one that only reads
pub act_comes : (state : State) (before : List Entry) (caller : ℕ) (request : Request)
    → ActComes state caller request (act state before caller request)
unfolding act
act_comes state before caller (asks.Start intent source) = acts _ refl
    (start_comes state (Some (Starts caller intent)) caller intent source refl)
act_comes state before caller (asks.FinishActivity instance) = acts _ refl
    (finish_activity_comes state None caller instance)
act_comes state before caller asks.Back = acts _ refl (by_admin state None caller (back state) (back_comes state None))
act_comes state before caller (asks.StartService intent) = acts _ refl
    (service_comes state (Some (Serves caller intent)) caller intent)
act_comes state before caller (asks.StopService component) = acts _ refl
    (stop_service_comes state None caller component)
act_comes state before caller (asks.Send intent permission ordered) =
    acts _ refl (send_comes state (Some (Sends caller intent permission ordered)) caller intent permission ordered)
act_comes state before caller (asks.Register filter permission) = acts _ refl
    (register_comes state None caller filter permission)
act_comes state before caller (asks.Unregister number) = acts _ refl (unregister_comes state None caller number)
act_comes state before caller (asks.Finish delivery answer) = acts _ refl
    (finish_comes state None caller delivery answer)
act_comes state before caller (asks.PendingGet kind code intent flags) = acts _ refl
    (pending_get_comes state None caller kind code intent flags)
act_comes state before caller (asks.PendingSend token fill) = pending_send_comes state caller token fill
act_comes state before caller (asks.PendingCancel token) = acts _ refl (pending_cancel_comes state None caller token)
act_comes state before caller (asks.PendingGive token name) = acts _ refl
    (pending_give_comes state None caller token name)
act_comes state before caller (asks.Install text key) = acts _ refl (install_comes state None caller text key)
act_comes state before caller (asks.Uninstall name) = acts _ refl (uninstall_comes state None caller name)
act_comes state before caller (asks.Grant name permission held) = acts _ refl
    (grant_comes state None caller name permission held)
act_comes state before caller (asks.Link name host approved) = acts _ refl
    (link_comes state None caller name host approved)
act_comes state before caller (asks.ForceStop name) = acts _ refl (force_stop_comes state None caller name)
act_comes state before caller asks.Tick = acts _ refl (by_admin state None caller (done state)
    (tells replies.Plain state refl))
act_comes state before caller (asks.Advance by) = acts _ refl (by_admin state None caller (advance state by)
    (advance_comes state None by))
act_comes state before caller request = acts _ refl
    (read_comes state (deed_of state caller request) _ (act_reads state before caller request refl))
