-- What a start of an activity or of a service comes to, by cases: it is refused, by a rule that isn't the keeper's; the
-- user must choose; or it is done, and the gate admitted it.
use Rattle.std.proofs.Common.{◌≡◌, ℕ, false, List, [], ◌∷◌, refl}
use Rattle.std.specs.Prelude.{Option, Some, None, Result, Ok, Err}
use Rattle.am_types.specs.declared.intent.Intent.{Intent}
use Rattle.am_types.specs.declared.intent.Component.{Component}
use Rattle.am_types.specs.declared.manifest.Decl.{Decl}
use Rattle.am_types.specs.declared.manifest.Kind.TheVariants as kinds
use Rattle.am_types.specs.declared.resolve.Hit.{Hit}
use Rattle.am_types.specs.declared.resolve.Target.{Target}
use Rattle.am_types.specs.declared.resolve.Target.TheVariants.{Nothing, One, Choose}
use Rattle.am_types.specs.declared.task.Landed.{Landed}
use Rattle.am_types.specs.declared.task.PlaceFault.{PlaceFault}
use Rattle.am_types.specs.declared.task.PlaceFault.TheVariants.{NoSource}
use Rattle.am_types.specs.declared.reply.Reply.{Reply}
use Rattle.am_types.specs.declared.reply.Reply.TheVariants as replies
use Rattle.am_types.specs.declared.rule.Rule.{Rule}
use Rattle.am_types.specs.declared.rule.Rule.TheVariants as rules
use Rattle.am_types.specs.declared.rule.Limit.TheVariants as limits
use Rattle.am_model.specs.Boards.{with_stopped}
use Rattle.am_model.specs.Candidates.{hits}
use Rattle.am_model.specs.Gates.{Verdict, Admit, NotExported, NeedsPermission, verdict}
use Rattle.am_model.specs.Receivers.{declared, rule_of, or_rule}
use Rattle.am_model.specs.Starts.{target}
use Rattle.am_model.specs.Tasks.{Tasks, owner, may_end}
use Rattle.am_model.specs.Placement.{place}
use Rattle.am_history.specs.State.{State, with_packages}
use Rattle.am_history.specs.Answers.{refused, unless_refused}
use Rattle.am_history.specs.Activities as activities
use Rattle.am_history.specs.Activities.{start_call, place_rule, after_place, source_rule, absent_rule, owned_rule, caller_rule, start_target, start}
use Rattle.am_history.specs.Services as services
use Rattle.am_history.specs.Services.{running, starts_with, is_too_many, with_start, started, gate_rule, start_first, start_service}
use Rattle.am_history.proofs.OnlyReads.{is_fault}
use Rattle.am_laws.proofs.Tests.{either_holds}

-- if there is a rule, it isn't the keeper's
abbrev pub IsOther : Option Rule → Type 0
IsOther None = Unit {0}
IsOther (Some rule) = is_fault rule ≡ false

-- the first of two rules
first_rule : (first second : Option Rule) → IsOther first → IsOther second → IsOther (or_rule first second)
first_rule None second one other = other
first_rule (Some rule) second one other = one

-- where neither of two rules is there, the second isn't
second_none : (first second : Option Rule) → or_rule first second ≡ None → second ≡ None
second_none None second none = none
second_none (Some rule) second none = absurd cc

-- the rule of a gate
pub gate_other : (found : Verdict) → IsOther (rule_of found)
gate_other Admit = tt
gate_other NotExported = refl
gate_other (NeedsPermission permission) = refl

-- a gate without a rule admits
admitted_by : (found : Verdict) → rule_of found ≡ None → found ≡ Admit
admitted_by Admit none = refl
admitted_by NotExported none = absurd cc
admitted_by (NeedsPermission permission) none = absurd cc

-- the rule of a placement
place_other : (fault : PlaceFault) → is_fault (place_rule fault) ≡ false
place_other NoSource = refl
place_other _ = refl

-- the rule of a source
source_other : (all : Tasks) (source : Option ℕ) → IsOther (source_rule all source)
source_other all None = tt
source_other all (Some number) = by (owner all number)
  where
    by : (owned : Option ℕ) → IsOther (absent_rule owned)
    by None = refl
    by (Some uid) = tt

-- the rule of a caller with a source, or without
caller_other : (all : Tasks) (caller : ℕ) (intent : Intent) (source : Option ℕ)
    → IsOther (caller_rule all caller intent source)
caller_other all caller intent None = either_holds IsOther intent.flags.new_task None (Some rules.NeedsNewTask) tt refl
caller_other all caller intent (Some number) = by (owner all number)
  where
    by : (owned : Option ℕ) → IsOther (owned_rule caller owned)
    by None = refl
    by (Some uid) = either_holds IsOther (may_end caller uid) None (Some rules.NotYours) tt refl

-- what holds of each refusal by another rule, and of what follows without one, holds of what a rule may refuse
pub unless_other : (Q : Reply × State → Type 0) (state : State) (rule : Option Rule) (next : Reply × State)
    → ((rule : Rule) → is_fault rule ≡ false → Q (refused state rule)) → IsOther rule → (rule ≡ None → Q next)
    → Q (unless_refused state rule next)
unless_other Q state None next refuses other after = after refl
unless_other Q state (Some rule) next refuses other after = refuses rule other

-- what a start of an activity comes to
pub data StartComes (state : State) (caller : ℕ) (intent : Intent) (source : Option ℕ) : Reply × State → Type 0 where
  start_refused : (rule : Rule) → is_fault rule ≡ false → StartComes state caller intent source (refused state rule)
  start_left : (choice : List Component) → StartComes state caller intent source (replies.Choose choice, state)
  start_lands : (component : Component) (found : ℕ × Decl) (landed : Landed × Tasks)
      → declared state.board.packages kinds.Activity component ≡ Some found
      → verdict state.board.grants caller found.0 found.1.exported found.1.permission ≡ Admit
      → place state.tasks (start_call caller intent source component found) ≡ Ok landed
      → StartComes state caller intent source (
        replies.Placed landed.0,
        record (with_packages state
            (with_stopped state.board.packages found.0 false)) { tasks = landed.1 },
      )

-- what a start of a service comes to
pub data ServiceComes (state : State) (caller : ℕ) (intent : Intent) : Reply × State → Type 0 where
  service_refused : (rule : Rule) → is_fault rule ≡ false → ServiceComes state caller intent (refused state rule)
  service_runs : (component : Component) (found : ℕ × Decl)
      → declared state.board.packages kinds.Service component ≡ Some found
      → verdict state.board.grants caller found.0 found.1.exported found.1.permission ≡ Admit
      → ServiceComes state caller intent (
        replies.Started component (starts_with (running state.services component)),
        record (with_packages state (with_stopped state.board.packages found.0 false)) {
          services = with_start state.services component found.0 intent (running state.services component);
        },
      )

module _ (state : State) (caller : ℕ) (intent : Intent) where
  -- a start of an activity
  pub start_comes : (source : Option ℕ) → StartComes state caller intent source (start state caller intent source)
  unfolding start
  start_comes source = by intent.component
    where
      placed : (component : Component) (found : ℕ × Decl) (result : Result (Landed × Tasks) PlaceFault)
          → declared state.board.packages kinds.Activity component ≡ Some found
          → verdict state.board.grants caller found.0 found.1.exported found.1.permission ≡ Admit
          → place state.tasks (start_call caller intent source component found) ≡ result
          → StartComes state caller intent source (after_place state found.0 result)
      placed component found (Err fault) is admits lands = start_refused (place_rule fault) (place_other fault)
      placed component found (Ok landed) is admits lands = start_lands component found landed is admits lands

      maybe : (component : Component) (rule : Rule) (found : Option (ℕ × Decl)) → is_fault rule ≡ false
          → declared state.board.packages kinds.Activity component ≡ found
          → StartComes state caller intent source
          (activities.start_maybe state caller intent source component rule found)
      maybe component rule None other is = start_refused rule other
      maybe component rule (Some found) other is =
          let gate = verdict state.board.grants caller found.0 found.1.exported found.1.permission in
          let absent = source_rule state.tasks source in
          let result = place state.tasks (start_call caller intent source component found) in
          unless_other (StartComes state caller intent source) state (or_rule absent (rule_of gate))
          (after_place state found.0 result) start_refused
          (first_rule absent (rule_of gate) (source_other state.tasks source) (gate_other gate))
          (λ none. placed component found result is (admitted_by gate (second_none absent (rule_of gate) none)) refl)

      targeted : (found : Target)
          → StartComes state caller intent source (start_target state caller intent source found)
      targeted Nothing = start_refused rules.NoActivity refl
      targeted (One hit) = maybe hit.component rules.NoActivity (declared state.board.packages kinds.Activity
          hit.component) refl refl
      targeted (Choose found) =
          unless_other (StartComes state caller intent source) state (caller_rule state.tasks caller intent source) _
          start_refused (caller_other state.tasks caller intent source) (λ none. start_left _)

      by : (aim : Option Component)
          → StartComes state caller intent source (activities.start_aimed state caller intent source aim)
      by (Some component) = maybe component rules.NoComponent (declared state.board.packages kinds.Activity component)
          refl refl
      by None = targeted (target state.board caller intent)

  -- a start of a service
  pub service_comes : ServiceComes state caller intent (start_service state caller intent)
  unfolding start_service
  service_comes = by intent.component intent.«package»
    where
      maybe : (component : Component) (rule : Rule) (found : Option (ℕ × Decl)) → is_fault rule ≡ false
          → declared state.board.packages kinds.Service component ≡ found
          → ServiceComes state caller intent (services.start_maybe state caller intent component rule found)
      maybe component rule None other is = service_refused rule other
      maybe component rule (Some found) other is =
          let gate = verdict state.board.grants caller found.0 found.1.exported found.1.permission in
          unless_other (ServiceComes state caller intent) state (rule_of gate)
          (started state intent component found.0 (running state.services component)) service_refused (gate_other gate)
          (λ none. either_holds (ServiceComes state caller intent)
          (is_too_many state.services (running state.services component)) _ _
          (service_refused (rules.OverLimit limits.Services) refl)
          (service_runs component found is (admitted_by gate none)))

      first : (found : List Hit) → ServiceComes state caller intent (start_first state caller intent found)
      first [] = service_refused rules.NoService refl
      first (hit ∷ others) = maybe hit.component rules.NoService
          (declared state.board.packages kinds.Service hit.component) refl refl

      by : (aim : Option Component) (name : Option (List ℕ))
          → ServiceComes state caller intent (services.start_aimed state caller intent aim name)
      by (Some component) name = maybe component rules.NoComponent
          (declared state.board.packages kinds.Service component) refl refl
      by None (Some name) = first (hits state.board.rules state.board.packages kinds.Service intent false)
      by None None = service_refused rules.ImplicitService refl
