-- Every state of a manager of a sound device is sound.
use Rattle.std.proofs.Common.{List}
use Rattle.am_types.specs.declared.history.Entry.{Entry}
use Rattle.am_model.specs.Sound.{IsSound}
use Rattle.am_history.specs.State.{State}
use Rattle.am_history.specs.Steps.{after_due, step}
use Rattle.am_history.specs.History.{replay}
use Rattle.am_history.specs.Desks.{Origin, opening_of}
use Rattle.am_laws_state.specs.Sound.{IsSoundState}
use Rattle.am_laws.proofs.Histories.{by_history}
use Rattle.am_laws.proofs.Requests.{step_leaves}
use Rattle.am_laws_state.proofs.SoundSteps.{sound_after}
use Rattle.am_laws_state.proofs.SoundOpenings.{opening_is_sound}

-- a step leaves a sound state
pub step_keeps_sound : (state : State) (before : List Entry) (entry : Entry) → IsSoundState state
    → IsSoundState (step state before entry).1
step_keeps_sound state before entry sound =
    step_leaves IsSoundState state before entry sound (λ kept. sound_after (after_due state entry.now) sound entry.uid
    entry.request)

-- so every state is sound
pub replay_is_sound : (origin : Origin) (history : List Entry) → IsSound origin.device
    → IsSoundState (replay (opening_of origin) history)
replay_is_sound origin history sound =
    by_history (opening_of origin) (λ h state. IsSoundState state) (opening_is_sound origin sound)
    (λ before entry. step_keeps_sound (replay (opening_of origin) before) before entry) history
