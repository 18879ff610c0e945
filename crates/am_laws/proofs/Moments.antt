-- The last moment stays within its bound.
use Rattle.std.proofs.Common.{ℕ, ◌≤◌, List, [], ◌∷◌, ◌++◌, sym, subst, arith}
use Rattle.am_types.specs.Bounds.{latest_moment}
use Rattle.am_types.specs.declared.history.Entry.{Entry}
use Rattle.am_types.specs.declared.request.Request.{Request}
use Rattle.am_model.specs.Tasks.{Tasks}
use Rattle.am_history.specs.State.{State}
use Rattle.am_history.specs.Steps.{after_due, moment_after, step}
use Rattle.am_history.specs.History.{replay}
use Rattle.am_history.specs.Desks.{Origin, opening_of}
use Rattle.am_history.proofs.Places.{replay_more}
use Rattle.am_laws.proofs.Histories.{by_history}
use Rattle.am_laws.proofs.Openings.{opening_leaves}
use Rattle.am_laws.proofs.Requests.{Steps, step_leaves, task_steps}

-- the last moment of a state is at most 2^62
abbrev HasMoment : State → Type 0
HasMoment state = state.moment ≤ latest_moment

-- a step of a request leaves it, or moves it within its bound
moment_stays : (state : State) (caller : ℕ) (request : Request) → HasMoment state → Steps HasMoment state caller request
moment_stays state caller request here =
    task_steps (λ (tasks : Tasks) (moment : ℕ). moment ≤ latest_moment) state caller request here
    (λ uid intent source component found landed did is admits placed. here) (λ keeps. here) (λ by fits. fits)

-- an entry leaves it within its bound
moment_more : (opening : State) (before : List Entry) (entry : Entry) → HasMoment (replay opening before)
    → HasMoment (step (replay opening before) before entry).1
moment_more opening before entry here = step_leaves HasMoment (replay opening before) before entry due
    (λ kept. moment_stays _ entry.uid entry.request due)
  where
    due : moment_after (replay opening before) entry.now ≤ latest_moment
    due = omega arith

-- so it is at most 2^62 after every history
pub moments_fit : (origin : Origin) (history : List Entry) → (replay (opening_of origin) history).moment ≤
    latest_moment
moments_fit origin history =
    by_history (opening_of origin) (λ h state. HasMoment state) (opening_leaves HasMoment
    (λ state board uid same one. one) origin (omega arith)) (moment_more (opening_of origin)) history

-- an entry takes it no further back than it was
moment_on : (state : State) (before : List Entry) (entry : Entry) → state.moment ≤ (step state before entry).1.moment
moment_on state before entry = step_leaves (λ (after : State). state.moment ≤ after.moment) state before entry due
    (λ kept.
    task_steps (λ (tasks : Tasks) (moment : ℕ). state.moment ≤ moment) (after_due state entry.now) entry.uid
    entry.request due
    (λ uid intent source component found landed did is admits placed. due) (λ keeps. due) (λ by fits. omega arith))
  where
    due : state.moment ≤ moment_after state entry.now
    due = omega arith

-- so it never goes back
pub moments_rise : (origin : Origin) (history : List Entry) (next : Entry)
    → (replay (opening_of origin) history).moment ≤ (replay (opening_of origin) (history ++ next ∷ [])).moment
moments_rise origin history next =
    subst (λ (s : State). (replay (opening_of origin) history).moment ≤ s.moment)
    (sym (replay_more (opening_of origin) history next))
    (moment_on (replay (opening_of origin) history) history next)
