-- Starting and ending activities.
use Rattle.std.specs.Prelude.{ℕ, false, List, map, if◌then◌else◌, Option, Some, None, Result, Ok, Err}
use Rattle.am_types.specs.declared.intent.Intent.{Intent}
use Rattle.am_types.specs.declared.intent.Component.{Component}
use Rattle.am_types.specs.declared.manifest.Decl.{Decl}
use Rattle.am_types.specs.declared.manifest.Kind.TheVariants.{Activity}
use Rattle.am_types.specs.declared.resolve.Hit.{Hit}
use Rattle.am_types.specs.declared.resolve.Target.{Target}
use Rattle.am_types.specs.declared.resolve.Target.TheVariants.{Nothing, One, Choose}
use Rattle.am_types.specs.declared.task.StartCall.{StartCall}
use Rattle.am_types.specs.declared.task.Landed.{Landed}
use Rattle.am_types.specs.declared.task.PlaceFault.{PlaceFault}
use Rattle.am_types.specs.declared.task.PlaceFault.TheVariants as faults
use Rattle.am_types.specs.declared.task.TaskFault.{TaskFault}
use Rattle.am_types.specs.declared.task.TaskFault.TheVariants as ends
use Rattle.am_types.specs.declared.reply.Reply.{Reply}
use Rattle.am_types.specs.declared.reply.Reply.TheVariants as replies
use Rattle.am_types.specs.declared.rule.Rule.{Rule}
use Rattle.am_types.specs.declared.rule.Rule.TheVariants as rules
use Rattle.am_types.specs.declared.rule.Limit.TheVariants as limits
use Rattle.am_model.specs.Boards.{with_stopped}
use Rattle.am_model.specs.Gates.{verdict}
use Rattle.am_model.specs.Starts.{target}
use Rattle.am_model.specs.Receivers.{declared, rule_of, or_rule}
use Rattle.am_model.specs.Tasks as tasks
use Rattle.am_model.specs.Tasks.{Tasks, owner, may_end}
use Rattle.am_model.specs.Placement.{place}
use Rattle.am_history.specs.State.{State, with_packages}
use Rattle.am_history.specs.Answers.{refused, done_or, unless_refused}

-- the names of the components that were found
abbrev pub components_of : List Hit → List Component
components_of found = map (λ (hit : Hit). hit.component) found

-- the start of a declared activity by a caller
abbrev pub start_call : ℕ → Intent → Option ℕ → Component → ℕ × Decl → StartCall
start_call caller intent source component found = record {
  target = component;
  owner = found.0;
  caller = caller;
  mode = found.1.mode;
  affinity = found.1.affinity;
  flags = intent.flags;
  source = source;
  intent = intent;
}

-- the rule by which a start isn't placed (out of memory, which a placement never returns, falls under the last case)
abbrev pub place_rule : PlaceFault → Rule
place_rule faults.NoSource = rules.NoInstance
place_rule faults.NotYours = rules.NotYours
place_rule faults.NeedsNewTask = rules.NeedsNewTask
place_rule faults.TasksFull = rules.OverLimit limits.Tasks
place_rule _ = rules.OverLimit limits.Activities

-- the start was placed, and the package is no longer stopped; or it wasn't placed
abbrev pub after_place : State → ℕ → Result (Landed × Tasks) PlaceFault → Reply × State
after_place state uid (Err fault) = refused state (place_rule fault)
after_place state uid (Ok landed) = (
  replies.Placed landed.0,
  record (with_packages state (with_stopped state.board.packages uid false))
      { tasks = landed.1 },
)

-- the rule that applies if the source with this owner isn't there
abbrev pub absent_rule : Option ℕ → Option Rule
absent_rule None = Some rules.NoInstance
absent_rule (Some uid) = None

-- the rule that applies if the named source isn't there
abbrev pub source_rule : Tasks → Option ℕ → Option Rule
source_rule all None = None
source_rule all (Some number) = absent_rule (owner all number)

-- a start of a declared activity: the source, then the gate, then the placement
abbrev pub start_declared : State → ℕ → Intent → Option ℕ → Component → ℕ × Decl → Reply × State
start_declared state caller intent source component found =
    unless_refused state
    (or_rule (source_rule state.tasks source)
    (rule_of (verdict state.board.grants caller found.0 found.1.exported found.1.permission)))
    (after_place state found.0 (place state.tasks (start_call caller intent source component found)))

-- a start of an activity that may be declared, and the rule that applies if it isn't
abbrev pub start_maybe : State → ℕ → Intent → Option ℕ → Component → Rule → Option (ℕ × Decl) → Reply × State
start_maybe state caller intent source component rule None = refused state rule
start_maybe state caller intent source component rule (Some found) = start_declared state caller intent source component
    found

-- the rule by which a start whose source has that owner isn't placed, whatever its target
abbrev pub owned_rule : ℕ → Option ℕ → Option Rule
owned_rule caller None = Some rules.NoInstance
owned_rule caller (Some uid) = if may_end caller uid then None else Some rules.NotYours

-- the rule by which a start isn't placed, whatever its target: its source, or none and no NEW_TASK
abbrev pub caller_rule : Tasks → ℕ → Intent → Option ℕ → Option Rule
caller_rule all caller intent None = if intent.flags.new_task then None else Some rules.NeedsNewTask
caller_rule all caller intent (Some number) = owned_rule caller (owner all number)

-- a start that names no component: its one target, or the choice among several
abbrev pub start_target : State → ℕ → Intent → Option ℕ → Target → Reply × State
start_target state caller intent source Nothing = refused state rules.NoActivity
start_target state caller intent source (One hit) =
    start_maybe state caller intent source hit.component rules.NoActivity
    (declared state.board.packages Activity hit.component)
start_target state caller intent source (Choose found) =
    unless_refused state (caller_rule state.tasks caller intent source) (replies.Choose (components_of found), state)

-- a start of the component that the intent names, or of what the intent finds
abbrev pub start_aimed : State → ℕ → Intent → Option ℕ → Option Component → Reply × State
start_aimed state caller intent source (Some component) =
    start_maybe state caller intent source component rules.NoComponent
    (declared state.board.packages Activity component)
start_aimed state caller intent source None =
    start_target state caller intent source (target state.board caller intent)

-- an activity is started
unfoldable pub start : State → ℕ → Intent → Option ℕ → Reply × State
start state caller intent source = start_aimed state caller intent source intent.component

-- the rule by which an instance isn't ended
abbrev pub end_rule : TaskFault → Rule
end_rule ends.NoSource = rules.NoInstance
end_rule ends.NotYours = rules.NotYours

-- an instance was ended, or it wasn't
abbrev pub after_end : State → Result Tasks TaskFault → Reply × State
after_end state left = done_or state end_rule (λ (all : Tasks). record state { tasks = all }) left

-- an activity instance is ended
unfoldable pub finish_activity : State → ℕ → ℕ → Reply × State
finish_activity state caller number = after_end state (tasks.finish state.tasks number caller)

-- the user goes back
abbrev pub went_back : State → Option ℕ × Tasks → Reply × State
went_back state left = (replies.Finished left.0, record state { tasks = left.1 })

-- the instance that the user sees is ended
unfoldable pub back : State → Reply × State
back state = went_back state (tasks.back state.tasks)
