-- What is installed stays sound.
use Rattle.std.specs.Prelude.{List}
use Rattle.am_types.specs.declared.history.Entry.{Entry}
use Rattle.am_model.specs.Sound.{IsSound}
use Rattle.am_history.specs.Desks.{Origin}
use Rattle.am_laws_state.specs.Sound.{IsSoundState}
use Rattle.am_laws.specs.Laws.{state_after}

-- every state of a manager of a sound device is sound
abbrev pub StatesAreSound : Type 0
StatesAreSound =
    (origin : Origin) (history : List Entry) → IsSound origin.device → IsSoundState (state_after origin history)
