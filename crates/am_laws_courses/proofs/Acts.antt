-- What a request is answered and what it does to broadcasts: it finishes a delivery, strikes receivers or lets
-- deadlines pass, and
-- is answered that it is done; it sends a broadcast; or it leaves them as they are.
use Rattle.std.proofs.Common.{◌≡◌, ℕ, ◌+◌, Bool, true, false, not, ◌&&◌, ◌||◌, List, refl, sym, ap, subst}
use Rattle.std.specs.Prelude.{Option, Some, None, Result, Ok, Err, ◌==◌, nat_le}
use Rattle.std.specs.List.{find}
use Rattle.std.proofs.lemmas.Bool.{eqb-true}
use Rattle.am_types.specs.Bounds.{latest_moment}
use Rattle.am_types.specs.declared.intent.Intent.{Intent}
use Rattle.am_types.specs.declared.intent.Component.{Component}
use Rattle.am_types.specs.declared.device.Package.{Package}
use Rattle.am_types.specs.declared.manifest.Decl.{Decl}
use Rattle.am_types.specs.declared.manifest.Kind.{Kind}
use Rattle.am_types.specs.declared.manifest.Kind.TheVariants as kinds
use Rattle.am_types.specs.declared.manifest.Manifest.{Manifest}
use Rattle.am_types.specs.declared.manifest.ManifestFault.{ManifestFault}
use Rattle.am_types.specs.declared.resolve.Registration.{Registration}
use Rattle.am_types.specs.declared.broadcast.Answer.{Answer}
use Rattle.am_types.specs.declared.broadcast.Ordered.{Ordered}
use Rattle.am_types.specs.declared.pending.PendingFault.{PendingFault}
use Rattle.am_types.specs.declared.task.TaskFault.{TaskFault}
use Rattle.am_types.specs.declared.history.Entry.{Entry}
use Rattle.am_types.specs.declared.request.Request.{Request}
use Rattle.am_types.specs.declared.request.Request.TheVariants as asks
use Rattle.am_types.specs.declared.reply.Reply.{Reply}
use Rattle.am_types.specs.declared.reply.Reply.TheVariants as replies
use Rattle.am_types.specs.declared.rule.Rule.TheVariants as rules
use Rattle.am_types.specs.declared.rule.Limit.TheVariants as limits
use Rattle.am_model.specs.Boards.{package_named}
use Rattle.am_model.specs.Gates.{is_privileged}
use Rattle.am_model.specs.Receivers.{declared, is_protected, receivers}
use Rattle.am_model.specs.Tasks as tasks
use Rattle.am_model.specs.Tasks.{Tasks}
use Rattle.am_model.specs.Broadcasts.{Broadcasts, expired}
use Rattle.am_model.specs.Sending as sending
use Rattle.am_model.specs.Sending.{Held, held, with_sent, finished}
use Rattle.am_model.specs.Pendings as pendings
use Rattle.am_model.specs.Pendings.{Pendings}
use Rattle.am_model.proofs.Parts.{found_passes}
use Rattle.am_manifest.specs.Manifests.{manifest_of}
use Rattle.am_history.specs.State.{State}
use Rattle.am_history.specs.Answers.{refused, done, for_admin, for_found, for_package}
use Rattle.am_history.specs.Activities.{after_end, start, finish_activity, back}
use Rattle.am_history.specs.Services.{running, stopped_rule, gate_rule, stop_maybe, start_service, stop_service}
use Rattle.am_history.specs.BroadcastCalls.{sending_of, count_of, register, taken_back, unregister_found, unregister, send, finish}
use Rattle.am_history.specs.PendingCalls.{after_get, pending_get, after_change, pending_cancel, pending_give, in_new_task, lend, pending_send}
use Rattle.am_history.specs.Packages.{is_name_used, is_key_used, is_full, install_read, install, without, uninstall, force_stop, too_many_grants, grant_to, grant, too_many_links, link_to, link}
use Rattle.am_history.specs.Steps.{at_moment, advanced, advance, act}
use Rattle.am_history.proofs.OnlyReads.{says_done, Read, says, act_reads}
use Rattle.am_laws.specs.Access.{Sends, lent_deed, deed_of, used_deed}
use Rattle.am_laws.proofs.Answered.{either_leaves, unless_leaves}
use Rattle.am_laws.proofs.Requests.{stopped_of}
use Rattle.am_laws.proofs.Tests.{either_holds}
use Rattle.am_laws.proofs.Cases.{start_cases, service_cases, send_cases, use_cases, finish_cases}
use Rattle.am_laws_courses.specs.Course.{is_done}

-- the request neither finishes a delivery nor strikes receivers nor moves the moment
abbrev pub is_apart : Request → Bool
is_apart (asks.Finish number answer) = false
is_apart (asks.Unregister number) = false
is_apart (asks.Uninstall name) = false
is_apart (asks.ForceStop name) = false
is_apart (asks.Advance more) = false
is_apart _ = true

-- this holds of whether the request was done, and of the broadcasts, in each case
pub record Acts (P : Bool → Broadcasts → Type 0) (state : State) (caller : ℕ) (request : Request) : Type 0 where
  pub same : P false state.broadcasts
  pub apart : is_apart request ≡ true → P true state.broadcasts
  pub sent : (sender : ℕ) (intent : Intent) (permission : Option (List ℕ)) (ordered : Option Ordered) → is_apart request
      ≡ true
      → deed_of state caller request ≡ Some (Sends sender intent permission ordered)
      → is_protected state.board.protected intent.action && not (is_privileged sender) ≡ false
      → (done : Bool) → P done (with_sent state.broadcasts (sending_of state sender intent ordered
      (receivers state.board intent sender permission)) ordered)
  pub finished : (number : ℕ) (answer : Answer) (holder : Held) → request ≡ asks.Finish number answer
      → held state.broadcasts number ≡ Some holder → holder.uid ≡ caller
      → P true (finished state.broadcasts number answer state.moment)
  pub taken_back : (number : ℕ) → request ≡ asks.Unregister number
      → P true (sending.forget_registered state.broadcasts number state.moment)
  pub uninstalled : (name : List ℕ) (owner : Package) → request ≡ asks.Uninstall name
      → package_named state.board.packages name ≡ Some owner
      → P true (sending.forget_uid state.broadcasts owner.uid state.moment)
  pub stopped : (name : List ℕ) (owner : Package) → request ≡ asks.ForceStop name
      → package_named state.board.packages name ≡ Some owner
      → P true (sending.forget_uid state.broadcasts owner.uid state.moment)
  pub advanced : (more : ℕ) → request ≡ asks.Advance more → P true (expired state.broadcasts (state.moment + more))

module _ (P : Bool → Broadcasts → Type 0) (state : State) (caller : ℕ) where
  -- what holds of an answer and the state that it leaves
  abbrev Does : Reply × State → Type 0
  Does next = P (is_done next.0) next.1.broadcasts

  -- and whatever the answer
  abbrev Any : State → Type 0
  Any s = (done : Bool) → P done s.broadcasts

  any_does : (next : Reply × State) → Any next.1 → Does next
  any_does next any = any (is_done next.0)

  admin_does : (next : Reply × State) → P false state.broadcasts → Does next → Does (for_admin state caller next)
  admin_does next same after = either_holds Does (is_privileged caller) next (refused state rules.AdminOnly) after same

  package_does : (name : List ℕ) (next : Package → Reply × State) → P false state.broadcasts
      → ((owner : Package) → package_named state.board.packages name ≡ Some owner → Does (next owner))
      → Does (for_package state name next)
  package_does name next same after = by (package_named state.board.packages name) refl
    where
      by : (found : Option Package) → package_named state.board.packages name ≡ found
          → Does (for_found state found next)
      by None is = same
      by (Some owner) is = after owner is

  -- a request that isn't apart from broadcasts, or leaves them
  any_same : (request : Request) → is_apart request ≡ true → Acts P state caller request → Any state
  any_same request is acts true = acts.apart is
  any_same request is acts false = acts.same

  finish_does : (number : ℕ) (answer : Answer) → Acts P state caller (asks.Finish number answer)
      → Does (finish state caller number answer)
  finish_does number answer acts =
      finish_cases Does state caller number answer (λ rule. acts.same)
      (λ holder is own. acts.finished number answer holder refl is own)

  unregister_does : (number : ℕ) → Acts P state caller (asks.Unregister number) → Does (unregister state caller number)
  unfolding unregister
  unregister_does number acts = by (find (λ (r : Registration). r.number == number) state.board.registered) refl
    where
      by : (found : Option Registration) → find (λ (r : Registration). r.number == number) state.board.registered
          ≡ found → Does (unregister_found state caller found)
      by None is = acts.same
      by (Some found) is =
          either_holds Does (found.uid == caller) (done (taken_back state found)) (refused state rules.NotYours)
          (subst (λ (n : ℕ). P true (sending.forget_registered state.broadcasts n state.moment))
          (sym (eqb-true found.number number (found_passes (λ (r : Registration). r.number == number)
          state.board.registered found is)))
          (acts.taken_back number refl)) acts.same

  -- a use of a token
  use_any : (token : ℕ) (fill : Option Intent) → Acts P state caller (asks.PendingSend token fill)
      → Any (pending_send state caller token fill).1
  use_any token fill acts =
      use_cases Any state caller token fill here (λ after left same any. any)
      (λ used is. by used.creator used.intent used.kind (ap (λ result. used_deed result) is))
    where
      here : Any state
      here = any_same (asks.PendingSend token fill) refl acts

      by : (creator : ℕ) (intent : Intent) (kind : Kind) → deed_of state caller (asks.PendingSend token fill)
          ≡ Some (lent_deed creator intent kind)
          → Any (lend state creator intent kind).1
      by creator intent kinds.Activity did = start_cases Any state creator (in_new_task intent) here None
          (λ component found landed is admits placed. here)
      by creator intent kinds.Service did = service_cases Any state creator intent here
          (λ component found is admits. here)
      by creator intent kinds.Receiver did = send_cases Any state creator intent here None None
          (λ unprotected. acts.sent creator intent None None refl did unprotected)

  -- an end of an instance, going back, and the end of a service
  end_any : (left : Result Tasks TaskFault) → Any state → Any (after_end state left).1
  end_any (Err fault) here = here
  end_any (Ok left) here = here

  stop_any : (found : Option (ℕ × Decl)) (component : Component) → Any state
      → Any (stop_maybe state caller component found).1
  stop_any None component here = here
  stop_any (Some found) component here =
      unless_leaves Any state (stopped_rule (running state.services component)) _ here
      (unless_leaves Any state (gate_rule state caller found) _ here here)

  -- a token that is asked for, and a change of the records
  got_any : (got : Result (Option ℕ × Pendings) PendingFault) → Any state → Any (after_get state got).1
  got_any (Err fault) here = here
  got_any (Ok got) here = here

  change_any : (left : Result Pendings PendingFault) → Any state → Any (after_change state left).1
  change_any (Err fault) here = here
  change_any (Ok left) here = here

  -- a package whose manifest was read
  read_any : (key : List ℕ) (manifest : Result Manifest ManifestFault) → Any state
      → Any (install_read state key manifest).1
  read_any key (Err fault) here = here
  read_any key (Ok manifest) here =
      either_leaves Any (is_name_used state.board.packages manifest.«package» || is_key_used state key)
      (refused state rules.Installed) _ here
      (either_leaves Any (is_full state) (refused state (rules.OverLimit limits.Packages)) _ here here)

  -- a request that only reads
  read_does : (next : Reply × State) → Read state next → P false state.broadcasts → Does next
  read_does next (says reply nothing) same = by reply nothing
    where
      by : (reply : Reply) → says_done reply ≡ false → P (is_done reply) state.broadcasts
      by replies.Plain nothing = absurd cc
      by (replies.Advanced due now) nothing = absurd cc
      by reply nothing = same

  -- each request; the last row is for every one that only reads
  pub acts_do : (before : List Entry) (request : Request) → Acts P state caller request
      → Does (act state before caller request)
  unfolding act finish_activity back stop_service register pending_get pending_cancel pending_give install uninstall
      grant link force_stop advance
  acts_do before (asks.Start intent source) acts =
      let here = any_same (asks.Start intent source) refl acts in
      any_does (start state caller intent source) (start_cases Any state caller intent here source
      (λ component found landed is admits placed. here))
  acts_do before (asks.FinishActivity instance) acts =
      any_does (after_end state (tasks.finish state.tasks instance caller))
      (end_any (tasks.finish state.tasks instance caller) (any_same (asks.FinishActivity instance) refl acts))
  acts_do before asks.Back acts = admin_does (back state) acts.same
      (any_does (back state) (any_same asks.Back refl acts))
  acts_do before (asks.StartService intent) acts =
      let here = any_same (asks.StartService intent) refl acts in
      any_does (start_service state caller intent) (service_cases Any state caller intent here
      (λ component found is admits. here))
  acts_do before (asks.StopService component) acts =
      any_does (stop_maybe state caller component (declared state.board.packages kinds.Service component))
      (stop_any (declared state.board.packages kinds.Service component) component
      (any_same (asks.StopService component) refl acts))
  acts_do before (asks.Send intent permission ordered) acts =
      any_does (send state caller intent permission ordered)
      (send_cases Any state caller intent (any_same (asks.Send intent permission ordered) refl acts) permission ordered
      (λ unprotected. acts.sent caller intent permission ordered refl refl unprotected))
  acts_do before (asks.Register filter permission) acts =
      either_holds Does (nat_le 64 (count_of state.board.registered caller))
      (refused state (rules.OverLimit limits.Registered)) _ acts.same acts.same
  acts_do before (asks.Unregister number) acts = unregister_does number acts
  acts_do before (asks.Finish delivery answer) acts = finish_does delivery answer acts
  acts_do before (asks.PendingGet kind code intent flags) acts =
      any_does (after_get state (pendings.get state.pendings (record
      { creator = caller; kind = kind; code = code; intent = intent; flags = flags })))
      (got_any (pendings.get state.pendings (record {
        creator = caller;
        kind = kind;
        code = code;
        intent = intent;
        flags
            = flags;
      })) (any_same (asks.PendingGet kind code intent flags) refl acts))
  acts_do before (asks.PendingSend token fill) acts = any_does (pending_send state caller token fill)
      (use_any token fill acts)
  acts_do before (asks.PendingCancel token) acts =
      any_does (after_change state (pendings.cancel state.pendings token caller))
      (change_any (pendings.cancel state.pendings token caller) (any_same (asks.PendingCancel token) refl acts))
  acts_do before (asks.PendingGive token name) acts =
      package_does name (λ (to : Package). after_change state (pendings.give state.pendings token caller to.uid))
      acts.same
      (λ to is. any_does (after_change state (pendings.give state.pendings token caller to.uid))
      (change_any (pendings.give state.pendings token caller to.uid)
      (any_same (asks.PendingGive token name) refl acts)))
  acts_do before (asks.Install text key) acts =
      admin_does (install_read state key (manifest_of text)) acts.same
      (any_does (install_read state key (manifest_of text)) (read_any key (manifest_of text)
      (any_same (asks.Install text key) refl acts)))
  acts_do before (asks.Uninstall name) acts =
      admin_does (for_package state name (λ (owner : Package). done (without state owner.uid))) acts.same
      (package_does name (λ (owner : Package). done (without state owner.uid)) acts.same
      (λ owner is. acts.uninstalled name owner refl is))
  acts_do before (asks.Grant name permission held) acts =
      admin_does (for_package state name (λ (owner : Package). grant_to state owner.uid permission held)) acts.same
      (package_does name (λ (owner : Package). grant_to state owner.uid permission held) acts.same
      (λ owner is. either_holds Does (too_many_grants state.board.grants owner.uid permission held)
      (refused state (rules.OverLimit limits.Grants)) _ acts.same (acts.apart refl)))
  acts_do before (asks.Link name host approved) acts =
      admin_does (for_package state name (λ (owner : Package). link_to state owner.uid host approved)) acts.same
      (package_does name (λ (owner : Package). link_to state owner.uid host approved) acts.same
      (λ owner is. either_holds Does (too_many_links state.board.links owner.uid host approved)
      (refused state (rules.OverLimit limits.Links)) _ acts.same (acts.apart refl)))
  acts_do before (asks.ForceStop name) acts =
      admin_does (for_package state name (λ (owner : Package). done (stopped_of state owner.uid))) acts.same
      (package_does name (λ (owner : Package). done (stopped_of state owner.uid)) acts.same
      (λ owner is. acts.stopped name owner refl is))
  acts_do before asks.Tick acts = admin_does (done state) acts.same (acts.apart refl)
  acts_do before (asks.Advance more) acts =
      admin_does (advance state more) acts.same
      (either_holds Does (nat_le (state.moment + more) latest_moment)
      (advanced (at_moment state (state.moment + more))) (refused state (rules.OverLimit limits.Moment))
      (acts.advanced more refl) acts.same)
  acts_do before request acts = read_does (act state before caller request)
      (act_reads state before caller request refl) acts.same
