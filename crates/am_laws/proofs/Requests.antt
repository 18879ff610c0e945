-- What a request leaves is the state as it was, or what one of a few steps made of it: so what holds after these holds.
use Rattle.std.proofs.Common.{◌≡◌, ℕ, ◌+◌, ◌≤◌, ℤ, Bool, true, false, not, ◌&&◌, ◌||◌, cond, List, [], ◌∷◌, ◌++◌, refl, ap}
use Rattle.std.specs.Prelude.{Option, Some, None, Result, Ok, Err, ◌==◌, nat_le, filter}
use Rattle.std.specs.List.{find}
use Rattle.std.proofs.lemmas.Bool.{leb-true}
use Rattle.am_types.specs.Bounds.{latest_moment}
use Rattle.am_types.specs.declared.intent.Intent.{Intent}
use Rattle.am_types.specs.declared.intent.Component.{Component}
use Rattle.am_types.specs.declared.device.Package.{Package}
use Rattle.am_types.specs.declared.filter.Filter.{Filter}
use Rattle.am_types.specs.declared.manifest.Decl.{Decl}
use Rattle.am_types.specs.declared.manifest.Kind.{Kind}
use Rattle.am_types.specs.declared.manifest.Kind.TheVariants as kinds
use Rattle.am_types.specs.declared.manifest.Manifest.{Manifest}
use Rattle.am_types.specs.declared.manifest.ManifestFault.{ManifestFault}
use Rattle.am_types.specs.declared.resolve.Registration.{Registration}
use Rattle.am_types.specs.declared.broadcast.Answer.{Answer}
use Rattle.am_types.specs.declared.broadcast.Ordered.{Ordered}
use Rattle.am_types.specs.declared.pending.PendingFault.{PendingFault}
use Rattle.am_types.specs.declared.pending.PendingFlags.{PendingFlags}
use Rattle.am_types.specs.declared.task.Landed.{Landed}
use Rattle.am_types.specs.declared.task.TaskFault.{TaskFault}
use Rattle.am_types.specs.declared.task.TaskFault.TheVariants.{NotYours}
use Rattle.am_types.specs.declared.history.Entry.{Entry}
use Rattle.am_types.specs.declared.request.Request.{Request}
use Rattle.am_types.specs.declared.request.Request.TheVariants as asks
use Rattle.am_types.specs.declared.reply.Reply.{Reply}
use Rattle.am_types.specs.declared.reply.Reply.TheVariants as replies
use Rattle.am_types.specs.declared.rule.Rule.TheVariants as rules
use Rattle.am_types.specs.declared.rule.Limit.{Limit}
use Rattle.am_types.specs.declared.rule.Limit.TheVariants as limits
use Rattle.am_model.specs.Boards.{is_package_uid, with_stopped, with_grant, with_link}
use Rattle.am_model.specs.Gates.{verdict, Admit, is_privileged}
use Rattle.am_model.specs.Receivers.{declared, is_protected, receivers}
use Rattle.am_model.specs.Tasks as tasks
use Rattle.am_model.specs.Tasks.{Instance, Tasks, owner, may_end, ended, tasks_keeping, without_instance, seen, back_from}
use Rattle.am_model.specs.Placement.{place}
use Rattle.am_model.specs.Sending.{Held, held, with_sent, finished}
use Rattle.am_model.specs.Pendings as pendings
use Rattle.am_model.specs.Pendings.{Pendings}
use Rattle.am_manifest.specs.Manifests.{manifest_of}
use Rattle.am_history.specs.State.{State, Service, with_packages}
use Rattle.am_history.specs.Answers.{refused, done, for_admin, for_package}
use Rattle.am_history.specs.Activities.{start_call, after_end, finish_activity, went_back, back}
use Rattle.am_history.specs.Services.{is_service, running, with_start, stopped_rule, gate_rule, stop_maybe, stop_service}
use Rattle.am_history.specs.BroadcastCalls.{sending_of, with_registered, count_of, register, taken_back, unregister_found, unregister, finish}
use Rattle.am_history.specs.PendingCalls.{after_get, pending_get, after_change, pending_cancel, pending_give, in_new_task, lend, pending_send}
use Rattle.am_history.specs.Packages.{forget, installed, is_name_used, is_key_used, is_full, install_read, install, without, uninstall, force_stop, too_many_grants, grant, too_many_links, link}
use Rattle.am_history.specs.Steps.{act, at_moment, after_due, advanced, advance, step}
use Rattle.am_history.proofs.OnlyReads.{act_reads, reading_leaves}
use Rattle.am_laws.specs.Access.{Starts, Serves, Sends, lent_deed, deed_of, used_deed}
use Rattle.am_laws.proofs.Answered.{either_leaves, unless_leaves, admin_leaves, package_leaves}
use Rattle.am_laws.proofs.Cases.{start_cases, service_cases, send_cases, use_cases, finish_cases}
use Rattle.am_laws.proofs.Tokens.{AreLeft, Keeps, cancel_keeps, give_keeps}
use Rattle.am_laws.proofs.Packages.{named_is_live}
use Rattle.am_laws.proofs.Tests.{neither}

-- the state after a package is stopped, of which nothing goes on
abbrev pub stopped_of : State → ℕ → State
stopped_of state uid = let left = forget state uid in with_packages left (with_stopped left.board.packages uid true)

-- this holds after each start of an activity that the request of a caller may make
abbrev pub AfterStarts : (State → Type 0) → State → ℕ → Request → Type 0
AfterStarts P state caller request =
    (uid : ℕ) (intent : Intent) (source : Option ℕ) (component : Component) (found : ℕ × Decl)
    (landed : Landed × Tasks)
    → deed_of state caller request ≡ Some (Starts uid intent) → declared state.board.packages kinds.Activity component
    ≡ Some found
    → verdict state.board.grants uid found.0 found.1.exported found.1.permission ≡ Admit
    → place state.tasks (start_call uid intent source component found) ≡ Ok landed
    → P (record (with_packages state (with_stopped state.board.packages found.0 false)) { tasks = landed.1 })

-- and after each start of a service
abbrev pub AfterServes : (State → Type 0) → State → ℕ → Request → Type 0
AfterServes P state caller request =
    (uid : ℕ) (intent : Intent) (component : Component) (found : ℕ × Decl) → deed_of state caller request
    ≡ Some (Serves uid intent)
    → declared state.board.packages kinds.Service component ≡ Some found
    → verdict state.board.grants uid found.0 found.1.exported found.1.permission ≡ Admit
    → P (record (with_packages state (with_stopped state.board.packages found.0 false)) {
      services = with_start state.services component found.0 intent (running state.services component);
    })

-- this holds in the state, and after each step that the request of a caller may take
pub record Steps (P : State → Type 0) (state : State) (caller : ℕ) (request : Request) : Type 0 where
  pub here : P state
  pub started : AfterStarts P state caller request
  pub served : AfterServes P state caller request
  pub sent : (sender : ℕ) (intent : Intent) (permission : Option (List ℕ)) (ordered : Option Ordered)
      → deed_of state caller request ≡ Some (Sends sender intent permission ordered)
      → is_protected state.board.protected intent.action && not (is_privileged sender) ≡ false
      → P (record state {
        broadcasts = with_sent state.broadcasts (sending_of state sender intent ordered
            (receivers state.board intent sender permission)) ordered;
      })
  pub ended : (keeps : Instance → Bool) → P (record state {
    tasks = record (state.tasks)
        { tasks = tasks_keeping keeps state.tasks.tasks };
  })
  pub unserved : (keeps : Service → Bool) → P (record state { services = filter keeps state.services })
  pub registered : (filter : Filter) (permission : Option (List ℕ)) → request ≡ asks.Register filter permission
      → P (record (with_registered state (state.board.registered ++ record
      { number = state.next_registration; uid = caller; filter = filter; permission = permission } ∷ [])) {
        next_registration = state.next_registration + 1;
      })
  pub taken_back : (found : Registration) → P (taken_back state found)
  pub finished : (number : ℕ) (answer : Answer) (holder : Held) → request ≡ asks.Finish number answer
      → held state.broadcasts number ≡ Some holder → holder.uid ≡ caller
      → P (record state { broadcasts = finished state.broadcasts number answer state.moment })
  pub got : (kind : Kind) (code : ℤ) (intent : Intent) (flags : PendingFlags) (got : Option ℕ × Pendings)
      → request ≡ asks.PendingGet kind code intent flags
      → pendings.get state.pendings (record { creator = caller; kind = kind; code = code; intent = intent; flags = flags })
      ≡ Ok got
      → P (record state { pendings = got.1 })
  pub changed : (after : State) (left : Pendings) → AreLeft after.pendings left → P after
      → P (record after { pendings = left })
  pub installed : (text key : List ℕ) (manifest : Manifest) → request ≡ asks.Install text key
      → is_privileged caller ≡ true → manifest_of text ≡ Ok manifest
      → is_name_used state.board.packages manifest.«package» ≡ false
      → is_key_used state key ≡ false → is_full state ≡ false
      → P (record (with_packages state (state.board.packages ++ installed state manifest key ∷ []))
      { next_uid = state.next_uid + 1 })
  pub gone : (uid : ℕ) → P (without state uid)
  pub stopped : (uid : ℕ) → P (stopped_of state uid)
  pub granted : (uid : ℕ) (permission : List ℕ) (held : Bool) → is_package_uid state.board.packages uid ≡ true
      → too_many_grants state.board.grants uid permission held ≡ false
      → P (record state { board = record (state.board) { grants = with_grant state.board.grants uid permission held } })
  pub linked : (uid : ℕ) (host : List ℕ) (approved : Bool) → is_package_uid state.board.packages uid ≡ true
      → too_many_links state.board.links uid host approved ≡ false
      → P (record state { board = record (state.board) { links = with_link state.board.links uid host approved } })
  pub advanced : (by : ℕ) → state.moment + by ≤ latest_moment → P (at_moment state (state.moment + by))

module _ (Q : Tasks → List Service → ℕ → Type 0) (state : State) (caller : ℕ) (request : Request) where
  abbrev Holds : State → Type 0
  Holds s = Q s.tasks s.services s.moment

  -- the steps of what is said of the tasks, the services and the moment alone
  pub running_steps : Holds state → AfterStarts Holds state caller request → AfterServes Holds state caller request
      → ((keeps : Instance → Bool) → Q (record (state.tasks) { tasks = tasks_keeping keeps state.tasks.tasks })
      state.services state.moment)
      → ((keeps : Service → Bool) → Q state.tasks (filter keeps state.services) state.moment)
      → ((uid : ℕ) → Holds (forget state uid))
      → ((by : ℕ) → state.moment + by ≤ latest_moment → Q state.tasks state.services (state.moment + by))
      → Steps Holds state caller request
  running_steps here starts serves keeping left forgotten moves = record {
    here = here;
    started = starts;
    served = serves;
    sent = λ sender intent permission ordered did unprotected. here;
    ended = keeping;
    unserved = left;
    registered = λ filter permission asked. here;
    taken_back = λ found. here;
    finished = λ number answer holder asked is own. here;
    got = λ kind code intent flags got asked is. here;
    changed = λ after left same one. one;
    installed = λ text key manifest asked admin is name_unused key_unused room. here;
    gone = forgotten;
    stopped = forgotten;
    granted = λ uid permission held live room. here;
    linked = λ uid host approved live room. here;
    advanced = moves;
  }

-- the steps of what is said of the tasks and the moment alone
pub task_steps : (Q : Tasks → ℕ → Type 0) (state : State) (caller : ℕ) (request : Request) → Q state.tasks state.moment
    → AfterStarts (λ (s : State). Q s.tasks s.moment) state caller request
    → ((keeps : Instance → Bool) → Q (record (state.tasks) { tasks = tasks_keeping keeps state.tasks.tasks })
    state.moment)
    → ((by : ℕ) → state.moment + by ≤ latest_moment → Q state.tasks (state.moment + by))
    → Steps (λ (s : State). Q s.tasks s.moment) state caller request
task_steps Q state caller request here starts keeping moves =
    running_steps (λ (tasks : Tasks) (services : List Service) (moment : ℕ). Q tasks moment) state caller request here
    starts (λ uid intent component found did is admits. here) keeping (λ keeps. here)
    (λ uid. keeping (λ (i : Instance). not (i.owner == uid))) moves

module _ (P : State → Type 0) (state : State) (caller : ℕ) where
  -- the end of an instance
  ended_leaves : (request : Request) (uid number : ℕ) (owned : Option ℕ) → Steps P state caller request
      → P (after_end state (ended state.tasks number uid owned)).1
  ended_leaves request uid number None steps = steps.here
  ended_leaves request uid number (Some own) steps = by (may_end uid own)
    where
      by : (b : Bool) → P (after_end state (cond {A = Result Tasks TaskFault} b
          (Ok (without_instance state.tasks number)) (Err NotYours))).1
      by true = steps.ended (λ (i : Instance). not (i.number == number))
      by false = steps.here

  -- going back
  back_leaves : (request : Request) (top : Option Instance) → Steps P state caller request
      → P (went_back state (back_from state.tasks top)).1
  back_leaves request None steps = steps.here
  back_leaves request (Some instance) steps = steps.ended (λ (i : Instance). not (i.number == instance.number))

  -- a delivery that is finished
  finish_leaves : (number : ℕ) (answer : Answer) → Steps P state caller (asks.Finish number answer)
      → P (finish state caller number answer).1
  finish_leaves number answer steps =
      finish_cases (λ (next : Reply × State). P next.1) state caller number answer (λ rule. steps.here)
      (λ holder is own. steps.finished number answer holder refl is own)

  -- a token that is used
  pending_send_leaves : (token : ℕ) (fill : Option Intent) → Steps P state caller (asks.PendingSend token fill)
      → P (pending_send state caller token fill).1
  pending_send_leaves token fill steps =
      use_cases P state caller token fill steps.here steps.changed
      (λ used is. by used.creator used.intent used.kind (ap (λ result. used_deed result) is))
    where
      by : (creator : ℕ) (intent : Intent) (kind : Kind) → deed_of state caller (asks.PendingSend token fill)
          ≡ Some (lent_deed creator intent kind)
          → P (lend state creator intent kind).1
      by creator intent kinds.Activity did =
          start_cases P state creator (in_new_task intent) steps.here None
          (λ component found landed is admits done. steps.started creator (in_new_task intent) None component found
          landed did is admits done)
      by creator intent kinds.Service did =
          service_cases P state creator intent steps.here (λ component found is admits. steps.served creator intent
          component found did is admits)
      by creator intent kinds.Receiver did = send_cases P state creator intent steps.here None None
          (steps.sent creator intent None None did)

  -- after a change of the records
  change_leaves : (request : Request) (left : Result Pendings PendingFault) → Keeps state.pendings left
      → Steps P state caller request → P (after_change state left).1
  change_leaves request (Err fault) same steps = steps.here
  change_leaves request (Ok left) same steps = steps.changed state left same steps.here

  -- a package whose manifest was read
  read_leaves : (text key : List ℕ) (manifest : Result Manifest ManifestFault) → manifest_of text ≡ manifest
      → Steps P state caller (asks.Install text key) → is_privileged caller ≡ true
      → P (install_read state key manifest).1
  read_leaves text key (Err fault) is steps admin = steps.here
  read_leaves text key (Ok manifest) is steps admin =
      by (is_name_used state.board.packages manifest.«package» || is_key_used state key) (is_full state) refl refl
    where
      more : Reply × State
      more = (
        replies.Installed state.next_uid,
        record (with_packages state (state.board.packages ++ installed state manifest key ∷ []))
            { next_uid = state.next_uid + 1 },
      )

      by : (used full : Bool) → is_name_used state.board.packages manifest.«package» || is_key_used state key ≡ used
          → is_full state ≡ full
          → P (cond used (refused state rules.Installed) (cond full (refused state (rules.OverLimit limits.Packages))
          more)).1
      by true full unused room = steps.here
      by false true unused room = steps.here
      by false false unused room =
          let parts = neither (is_name_used state.board.packages manifest.«package») (is_key_used state key) unused in
          steps.installed text key manifest refl admin is parts.0 parts.1 room

  -- a right of a package that is given or taken, unless there are too many
  right_leaves : (name : List ℕ) (limit : Limit) (many : Package → Bool) (after : Package → State) → P state
      → ((owner : Package) → is_package_uid state.board.packages owner.uid ≡ true → many owner ≡ false
      → P (after owner))
      → P (for_admin state caller (for_package state name (λ (owner : Package). cond (many owner)
      (refused state (rules.OverLimit limit)) (done (after owner))))).1
  right_leaves name limit many after here more = admin_leaves P state caller _ here (package_leaves P state name _ here
      (λ owner is. by owner (named_is_live state.board.packages name owner is) (many owner) refl))
    where
      by : (owner : Package) → is_package_uid state.board.packages owner.uid ≡ true → (b : Bool) → many owner ≡ b
          → P (cond b (refused state (rules.OverLimit limit)) (done (after owner))).1
      by owner live true is = here
      by owner live false is = more owner live is

  -- the moment that is moved
  advance_leaves : (request : Request) (by : ℕ) → Steps P state caller request → P (advance state by).1
  unfolding advance
  advance_leaves request by steps = fits (nat_le (state.moment + by) latest_moment) refl
    where
      fits : (b : Bool) → nat_le (state.moment + by) latest_moment ≡ b
          → P (cond b (advanced (at_moment state (state.moment + by)))
          (refused state (rules.OverLimit limits.Moment))).1
      fits true is = steps.advanced by (leb-true (state.moment + by) latest_moment is)
      fits false is = steps.here

  -- each request; the last row is for every one that only reads
  pub act_leaves : (before : List Entry) (request : Request) → Steps P state caller request
      → P (act state before caller request).1
  unfolding act finish_activity tasks.finish back stop_service register unregister pending_get pending_cancel
      pending_give install uninstall grant link force_stop
  act_leaves before (asks.Start intent source) steps =
      start_cases P state caller intent steps.here source
      (λ component found landed is admits done. steps.started caller intent source component found landed refl is admits
      done)
  act_leaves before (asks.FinishActivity instance) steps = ended_leaves _ caller instance (owner state.tasks instance)
      steps
  act_leaves before asks.Back steps = admin_leaves P state caller (back state) steps.here
      (back_leaves _ (seen state.tasks.tasks) steps)
  act_leaves before (asks.StartService intent) steps =
      service_cases P state caller intent steps.here (λ component found is admits. steps.served caller intent component
      found refl is admits)
  act_leaves before (asks.StopService component) steps = by (declared state.board.packages kinds.Service component)
    where
      by : (found : Option (ℕ × Decl)) → P (stop_maybe state caller component found).1
      by None = steps.here
      by (Some found) =
          unless_leaves P state (stopped_rule (running state.services component)) _ steps.here
          (unless_leaves P state (gate_rule state caller found) _ steps.here
          (steps.unserved (λ (service : Service). not (is_service component service))))
  act_leaves before (asks.Send intent permission ordered) steps =
      send_cases P state caller intent steps.here permission ordered (steps.sent caller intent permission ordered refl)
  act_leaves before (asks.Register filter permission) steps =
      either_leaves P (nat_le 64 (count_of state.board.registered caller))
      (refused state (rules.OverLimit limits.Registered)) _ steps.here (steps.registered filter permission refl)
  act_leaves before (asks.Unregister number) steps = by (find (λ (r : Registration). r.number == number)
      state.board.registered)
    where
      by : (found : Option Registration) → P (unregister_found state caller found).1
      by None = steps.here
      by (Some found) = either_leaves P (found.uid == caller) (done (taken_back state found))
          (refused state rules.NotYours) (steps.taken_back found) steps.here
  act_leaves before (asks.Finish delivery answer) steps = finish_leaves delivery answer steps
  act_leaves before (asks.PendingGet kind code intent flags) steps = by (pendings.get state.pendings (record
      { creator = caller; kind = kind; code = code; intent = intent; flags = flags })) refl
    where
      by : (got : Result (Option ℕ × Pendings) PendingFault)
          → pendings.get state.pendings (record
          { creator = caller; kind = kind; code = code; intent = intent; flags = flags }) ≡ got
          → P (after_get state got).1
      by (Err fault) is = steps.here
      by (Ok got) is = steps.got kind code intent flags got refl is
  act_leaves before (asks.PendingSend token fill) steps = pending_send_leaves token fill steps
  act_leaves before (asks.PendingCancel token) steps = change_leaves _ (pendings.cancel state.pendings token caller)
      (cancel_keeps state.pendings token caller) steps
  act_leaves before (asks.PendingGive token name) steps =
      package_leaves P state name _ steps.here
      (λ to is. change_leaves _ (pendings.give state.pendings token caller to.uid)
      (give_keeps state.pendings token caller to.uid) steps)
  act_leaves before (asks.Install text key) steps = by (is_privileged caller) refl
    where
      by : (admin : Bool) → is_privileged caller ≡ admin
          → P (cond admin (install_read state key (manifest_of text)) (refused state rules.AdminOnly)).1
      by true admin = read_leaves text key (manifest_of text) refl steps admin
      by false admin = steps.here
  act_leaves before (asks.Uninstall name) steps = admin_leaves P state caller _ steps.here
      (package_leaves P state name _ steps.here (λ owner is. steps.gone owner.uid))
  act_leaves before (asks.Grant name permission held) steps =
      right_leaves name limits.Grants _ _ steps.here (λ owner. steps.granted owner.uid permission held)
  act_leaves before (asks.Link name host approved) steps =
      right_leaves name limits.Links _ _ steps.here (λ owner. steps.linked owner.uid host approved)
  act_leaves before (asks.ForceStop name) steps = admin_leaves P state caller _ steps.here
      (package_leaves P state name _ steps.here (λ owner is. steps.stopped owner.uid))
  act_leaves before asks.Tick steps = admin_leaves P state caller (done state) steps.here steps.here
  act_leaves before (asks.Advance by) steps = admin_leaves P state caller (advance state by) steps.here
      (advance_leaves _ by steps)
  act_leaves before request steps = reading_leaves P state _ (act_reads state before caller request refl) steps.here

-- what holds at the moment of an entry, and after its request if it was kept, holds after the entry
pub step_leaves : (P : State → Type 0) (state : State) (before : List Entry) (entry : Entry)
    → P (after_due state entry.now)
    → (entry.kept ≡ true → Steps P (after_due state entry.now) entry.uid entry.request) → P (step state before entry).1
step_leaves P state before entry due steps = by entry.kept refl
  where
    by : (kept : Bool) → entry.kept ≡ kept
        → P (cond kept (act (after_due state entry.now) before entry.uid entry.request)
        (replies.Refused rules.KeeperFault, after_due state entry.now)).1
    by true kept = act_leaves P (after_due state entry.now) entry.uid before entry.request (steps kept)
    by false kept = due
