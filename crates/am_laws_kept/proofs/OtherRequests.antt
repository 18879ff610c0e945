-- A request that has no row kept leaves what is kept as it was.
use Rattle.std.proofs.Common.{◌≡◌, ℕ, ◌+◌, Bool, true, false, not, cond, eqb, List, [], ◌∷◌, refl, ap}
use Rattle.std.specs.Prelude.{Option, Some, None, Result, Ok, Err, ◌==◌, nat_le, filter}
use Rattle.std.specs.List.{find}
use Rattle.am_types.specs.Bounds.{latest_moment}
use Rattle.am_types.specs.declared.intent.Intent.{Intent}
use Rattle.am_types.specs.declared.device.Package.{Package}
use Rattle.am_types.specs.declared.manifest.Decl.{Decl}
use Rattle.am_types.specs.declared.manifest.Kind.{Kind}
use Rattle.am_types.specs.declared.manifest.Kind.TheVariants as kinds
use Rattle.am_types.specs.declared.resolve.Registration.{Registration}
use Rattle.am_types.specs.declared.broadcast.FinishFault.{FinishFault}
use Rattle.am_types.specs.declared.pending.PendingFault.{PendingFault}
use Rattle.am_types.specs.declared.task.TaskFault.{TaskFault}
use Rattle.am_types.specs.declared.history.Entry.{Entry}
use Rattle.am_types.specs.declared.request.Request.{Request}
use Rattle.am_types.specs.declared.request.Request.TheVariants as asks
use Rattle.am_types.specs.declared.rule.Rule.TheVariants as rules
use Rattle.am_types.specs.declared.rule.Limit.TheVariants as limits
use Rattle.am_model.specs.Boards.{with_stopped}
use Rattle.am_model.specs.Receivers.{declared}
use Rattle.am_model.specs.Tasks as tasks
use Rattle.am_model.specs.Tasks.{Tasks}
use Rattle.am_model.specs.Broadcasts.{Broadcasts}
use Rattle.am_model.specs.Sending as sending
use Rattle.am_model.specs.Pendings as pendings
use Rattle.am_model.specs.Pendings.{Pendings}
use Rattle.am_history.specs.State.{State, Service, with_packages}
use Rattle.am_history.specs.Answers.{refused, done}
use Rattle.am_history.specs.Activities.{after_end, finish_activity, back}
use Rattle.am_history.specs.Services.{is_service, running, stopped_rule, gate_rule, stop_maybe, stop_service}
use Rattle.am_history.specs.BroadcastCalls.{count_of, register, taken_back, unregister_found, unregister, after_finish, finish}
use Rattle.am_history.specs.PendingCalls.{after_get, pending_get, after_change, pending_cancel, pending_give, in_new_task, lend}
use Rattle.am_history.specs.Packages.{force_stop}
use Rattle.am_history.specs.Steps.{act, at_moment, advanced, advance, keeps_row}
use Rattle.am_history.proofs.OnlyReads.{act_reads, reading_leaves}
use Rattle.am_laws.proofs.Answered.{either_leaves, unless_leaves, admin_leaves, package_leaves}
use Rattle.am_laws.proofs.Cases.{start_cases, service_cases, send_cases, use_cases}
use Rattle.am_laws_kept.specs.Found.{as_stopped, kept_of}

-- packages are the same once each is stopped, whether one of them was stopped or not
stopped_same : (packages : List Package) (uid : ℕ) (stopped : Bool) → as_stopped (with_stopped packages uid stopped)
    ≡ as_stopped packages
stopped_same [] uid stopped = refl
stopped_same (p ∷ ps) uid stopped = by (eqb p.uid uid) (stopped_same ps uid stopped)
  where
    by : (b : Bool) → as_stopped (with_stopped ps uid stopped) ≡ as_stopped ps
        → as_stopped (cond b (record p { stopped = stopped }) p ∷ with_stopped ps uid stopped) ≡ as_stopped (p ∷ ps)
    by true rest = ap (λ (l : List Package). record p { stopped = true } ∷ l) rest
    by false rest = ap (λ (l : List Package). record p { stopped = true } ∷ l) rest

module _ (state : State) (caller : ℕ) where
  -- what is kept is as it was
  abbrev Stays : State → Type 0
  Stays after = kept_of after ≡ kept_of state

  -- where a package is stopped, or not any more
  stopped_stays : (uid : ℕ) (stopped : Bool) → Stays (with_packages state
      (with_stopped state.board.packages uid stopped))
  stopped_stays uid stopped = ap (λ (ps : List Package). record (kept_of state) { packages = ps })
      (stopped_same state.board.packages uid stopped)

  -- where an instance is ended or not, a delivery finished or not, a token made or not, the records changed or not
  end_stays : (left : Result Tasks TaskFault) → Stays (after_end state left).1
  end_stays (Ok left) = refl
  end_stays (Err fault) = refl

  finish_stays : (left : Result Broadcasts FinishFault) → Stays (after_finish state left).1
  finish_stays (Ok left) = refl
  finish_stays (Err fault) = refl

  get_stays : (got : Result (Option ℕ × Pendings) PendingFault) → Stays (after_get state got).1
  get_stays (Ok got) = refl
  get_stays (Err fault) = refl

  change_stays : (left : Result Pendings PendingFault) → Stays (after_change state left).1
  change_stays (Ok left) = refl
  change_stays (Err fault) = refl

  -- where a token is lent
  lent_stays : (creator : ℕ) (intent : Intent) (kind : Kind) → Stays (lend state creator intent kind).1
  lent_stays creator intent kinds.Activity =
      start_cases Stays state creator (in_new_task intent) refl None
      (λ component found landed is admits placed. stopped_stays found.0 false)
  lent_stays creator intent kinds.Service = service_cases Stays state creator intent refl
      (λ component found is admits. stopped_stays found.0 false)
  lent_stays creator intent kinds.Receiver = send_cases Stays state creator intent refl None None (λ unprotected. refl)

  -- each request that has no row kept; the last row is for every one that only reads
  pub other_stays : (before : List Entry) (request : Request) → keeps_row request ≡ false
      → Stays (act state before caller request).1
  unfolding act finish_activity back stop_service register unregister finish pending_get pending_cancel pending_give
      force_stop advance
  other_stays before (asks.Start intent source) keeps =
      start_cases Stays state caller intent refl source (λ component found landed is admits placed. stopped_stays
      found.0 false)
  other_stays before (asks.FinishActivity instance) keeps = end_stays (tasks.finish state.tasks instance caller)
  other_stays before asks.Back keeps = admin_leaves Stays state caller (back state) refl refl
  other_stays before (asks.StartService intent) keeps = service_cases Stays state caller intent refl
      (λ component found is admits. stopped_stays found.0 false)
  other_stays before (asks.StopService component) keeps = by (declared state.board.packages kinds.Service component)
    where
      by : (found : Option (ℕ × Decl)) → Stays (stop_maybe state caller component found).1
      by None = refl
      by (Some found) =
          unless_leaves Stays state (stopped_rule (running state.services component)) _ refl
          (unless_leaves Stays state (gate_rule state caller found)
          (done (record state {
            services = filter (λ (service : Service). not (is_service component service))
                state.services;
          })) refl refl)
  other_stays before (asks.Send intent permission ordered) keeps = send_cases Stays state caller intent refl permission
      ordered (λ unprotected. refl)
  other_stays before (asks.Register filter permission) keeps =
      either_leaves Stays (nat_le 64 (count_of state.board.registered caller))
      (refused state (rules.OverLimit limits.Registered)) _ refl refl
  other_stays before (asks.Unregister number) keeps = by (find (λ (r : Registration). r.number == number)
      state.board.registered)
    where
      by : (found : Option Registration) → Stays (unregister_found state caller found).1
      by None = refl
      by (Some found) = either_leaves Stays (found.uid == caller) (done (taken_back state found))
          (refused state rules.NotYours) refl refl
  other_stays before (asks.Finish delivery answer) keeps = finish_stays
      (sending.finish state.broadcasts delivery caller answer state.moment)
  other_stays before (asks.PendingGet kind code intent flags) keeps =
      get_stays (pendings.get state.pendings (record {
        creator = caller;
        kind = kind;
        code = code;
        intent = intent;
        flags = flags;
      }))
  other_stays before (asks.PendingSend token fill) keeps =
      use_cases Stays state caller token fill refl (λ after left same stays. stays)
      (λ used is. lent_stays used.creator used.intent used.kind)
  other_stays before (asks.PendingCancel token) keeps = change_stays (pendings.cancel state.pendings token caller)
  other_stays before (asks.PendingGive token name) keeps =
      package_leaves Stays state name (λ (to : Package). after_change state
      (pendings.give state.pendings token caller to.uid)) refl
      (λ to is. change_stays (pendings.give state.pendings token caller to.uid))
  other_stays before (asks.Install text key) keeps = absurd cc
  other_stays before (asks.Uninstall name) keeps = absurd cc
  other_stays before (asks.Grant name permission held) keeps = absurd cc
  other_stays before (asks.Link name host approved) keeps = absurd cc
  other_stays before (asks.ForceStop name) keeps =
      admin_leaves Stays state caller _ refl (package_leaves Stays state name _ refl
      (λ owner is. stopped_stays owner.uid true))
  other_stays before asks.Tick keeps = admin_leaves Stays state caller (done state) refl refl
  other_stays before (asks.Advance more) keeps =
      admin_leaves Stays state caller (advance state more) refl
      (either_leaves Stays (nat_le (state.moment + more) latest_moment)
      (advanced (at_moment state (state.moment + more)))
      (refused state (rules.OverLimit limits.Moment)) refl refl)
  other_stays before request keeps = reading_leaves Stays state _ (act_reads state before caller request refl) refl
