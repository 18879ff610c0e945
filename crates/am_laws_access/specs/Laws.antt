-- Everyone who is reached was admitted.
use Rattle.std.specs.Prelude.{List, [], ◌∷◌, ◌++◌, ◌⊎◌, All}
use Rattle.am_types.specs.declared.history.Entry.{Entry}
use Rattle.am_history.specs.Desks.{Origin, opening_of}
use Rattle.am_history.specs.Steps.{after_due}
use Rattle.am_laws.specs.Access.{AreSentByEntries, IsStartedByEntries, OfInstances}
use Rattle.am_laws.specs.Laws.{state_after, answer_after}
use Rattle.am_laws_access.specs.Starts.{IsStartedEachTime}
use Rattle.am_laws_access.specs.Intents.{IsAmong, IsGivenBy}
use Rattle.am_laws_access.specs.Adds.{Adds}

-- each receiver that has or had a broadcast was sent it by an entry, and was admitted then
abbrev pub ReceiversAreAdmitted : Type 0
ReceiversAreAdmitted =
    (origin : Origin) (history : List Entry)
    → AreSentByEntries (opening_of origin) history (state_after origin history).broadcasts

-- each activity instance was made, and given its intent, by starts that the gate admitted
abbrev pub InstancesAreAdmitted : Type 0
InstancesAreAdmitted =
    (origin : Origin) (history : List Entry)
    → OfInstances (IsStartedByEntries (opening_of origin) history) (state_after origin history).tasks.tasks

-- each activity instance after an entry, with its intent, was there before, or was given that intent by the entry,
-- through a start that the gate admitted
abbrev pub IntentsAreAdmitted : Type 0
IntentsAreAdmitted =
    (origin : Origin) (history : List Entry) (entry : Entry)
    → OfInstances
    (λ i. IsAmong (state_after origin history).tasks.tasks i
    ⊎ IsGivenBy (after_due (state_after origin history) entry.now) entry i)
    (state_after origin (history ++ entry ∷ [])).tasks.tasks

-- each running service was started as often as it says, each time by an entry that the gate admitted
abbrev pub ServicesAreAdmitted : Type 0
ServicesAreAdmitted =
    (origin : Origin) (history : List Entry)
    → All (IsStartedEachTime (opening_of origin) history) (state_after origin history).services

-- whatever an entry adds, it adds by a deed of its own, which was admitted in the state before it
abbrev pub EntriesAddTheirDeeds : Type 0
EntriesAddTheirDeeds =
    (origin : Origin) (history : List Entry) (entry : Entry)
    → Adds (state_after origin history) entry (answer_after origin history entry)
