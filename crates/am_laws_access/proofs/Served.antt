-- Each service that an entry starts, once or once more, it starts by a deed that the gate admitted.
use Rattle.std.proofs.Common.{◌≡◌, ℕ, ◌+◌, Bool, true, false, not, cond, List, refl, sym, ◌∙◌, subst, ◌⊎◌, inl, inr}
use Rattle.std.specs.Prelude.{All, Option, Some, None, ◌==◌}
use Rattle.std.specs.List.{Contains}
use Rattle.std.proofs.lemmas.List.Elements.{All-push, All-map, All-weaker, All-filter, All-contains_itself}
use Rattle.am_types.specs.declared.intent.Intent.{Intent}
use Rattle.am_types.specs.declared.intent.Component.{Component}
use Rattle.am_types.specs.declared.manifest.Decl.{Decl}
use Rattle.am_types.specs.declared.manifest.Kind.TheVariants as kinds
use Rattle.am_types.specs.declared.history.Entry.{Entry}
use Rattle.am_model.specs.Gates.{verdict, Admit}
use Rattle.am_model.specs.Receivers.{declared}
use Rattle.am_model.specs.Tasks.{Tasks}
use Rattle.am_history.specs.State.{State, Service}
use Rattle.am_history.specs.Services.{is_service, running, restarted, with_start}
use Rattle.am_history.specs.Steps.{after_due, step}
use Rattle.am_history.specs.History.{replay}
use Rattle.am_laws.specs.Access.{Serves, deed_of, IsServed}
use Rattle.am_laws.proofs.Requests.{Steps, step_leaves, running_steps}
use Rattle.am_laws_access.specs.Intents.{HasDone}
use Rattle.am_laws_access.specs.Adds.{AService, IsAddedBy}
use Rattle.am_laws_access.proofs.Owners.{uid_named, declared_named}
use Rattle.am_laws_access.proofs.Placed.{same_component}
use Rattle.am_laws_access.proofs.KnownComponents.{KnownService, Known}

module _ (opening : State) (h : List Entry) (entry : Entry) (known : Known opening h (replay opening h)) where
  abbrev due : State
  due = after_due (replay opening h) entry.now

  -- the service was there before, or the entry started it
  abbrev N : Service → Type 0
  N s = Contains due.services s ⊎ IsAddedBy due entry (AService s)

  abbrev Holds : State → Type 0
  Holds s = All N s.services

  here : Holds due
  here = All-weaker (Contains due.services) N (λ s one. inl one) due.services (All-contains_itself due.services)

  module _ (uid : ℕ) (intent : Intent) (component : Component) (found : ℕ × Decl) (kept : entry.kept ≡ true)
      (did : deed_of due entry.uid entry.request ≡ Some (Serves uid intent))
      (is : declared due.board.packages kinds.Service component ≡ Some found)
      (admits : verdict due.board.grants uid found.0 found.1.exported found.1.permission ≡ Admit) where
    -- the component was started
    served_by : (target : Component) (owner : ℕ) → component ≡ target → found.0 ≡ owner
        → HasDone due entry (IsServed target owner intent)
    served_by target owner same own =
        subst (λ (u : ℕ). HasDone due entry (IsServed target u intent)) own
        (subst (λ (c : Component). HasDone due entry (IsServed c found.0 intent)) same (record {
          kept = kept;
          deed = Serves uid intent;
          did = did;
          holds = record { caller = uid; is = refl; decl = found.1; declared = is; admitted = admits };
        }))

    -- a service that runs is started once more where it is that component
    again : (s : Service) → KnownService opening h due.board.packages s × Contains due.services s → (b : Bool)
        → is_service component s ≡ b
        → N (cond b (record s { intent = intent; starts = s.starts + 1 }) s)
    again s one true test =
        let same : component ≡ s.component = same_component component s.component test in
        let named : uid_named due.board.packages s.component.«package» ≡ Some found.0 =
        subst (λ (c : Component). uid_named due.board.packages c.«package» ≡ Some found.0) same
        (declared_named due.board.packages kinds.Service component found is) in
        let e : Some found.0 ≡ Some s.owner = sym named ∙ one.0.owned in
        let own : found.0 ≡ s.owner = cc in
        inr (served_by s.component s.owner same own, inl (s, one.1, refl, refl))
    again s one false test = inl one.1

    -- a service is started
    served_on : (service : Option Service) → running due.services component ≡ service
        → All N (with_start due.services component found.0 intent service)
    served_on (Some service) runs =
        All-map N (restarted component intent) due.services
        (All-weaker (λ (s : Service). KnownService opening h due.board.packages s × Contains due.services s)
        (λ (s : Service). N (restarted component intent s))
        (λ s one. again s one (is_service component s) refl) due.services
        (λ k d below. (known.services k d below, All-contains_itself due.services k d below)))
    served_on None rests =
        All-push N due.services (record { component = component; owner = found.0; intent = intent; starts = 1 }) here
        (inr (served_by component found.0 refl refl, inr (rests, refl)))

  -- each step
  steps : entry.kept ≡ true → Steps Holds due entry.uid entry.request
  steps kept =
      running_steps (λ (tasks : Tasks) (services : List Service) (moment : ℕ). All N services) due entry.uid
      entry.request here (λ uid intent source component found landed did is admits placed. here)
      (λ uid intent component found did is admits. served_on uid intent component found kept did is admits
      (running due.services component) refl)
      (λ keeps. here) (λ keeps. All-filter keeps N due.services here)
      (λ uid. All-filter (λ (service : Service). not (service.owner == uid)) N due.services here) (λ by fits. here)

  pub served : Holds (step (replay opening h) h entry).1
  served = step_leaves Holds (replay opening h) h entry here steps
