-- How far the numbers come: by one a call at most.
use Rattle.std.proofs.Common.{◌≡◌, ℕ, ◌+◌, ◌<◌, ◌≤◌, List, [], ◌∷◌, ◌++◌, length, sym, subst, arith}
use Rattle.std.specs.Prelude.{All}
use Rattle.std.proofs.lemmas.List.Elements.{All-nil}
use Rattle.am_types.specs.Bounds.{greatest_number}
use Rattle.am_types.specs.declared.device.Device.{Device}
use Rattle.am_types.specs.declared.resolve.Registration.{Registration}
use Rattle.am_types.specs.declared.history.Entry.{Entry}
use Rattle.am_model.specs.Boards.{Board}
use Rattle.am_history.specs.State.{State, Service, opening}
use Rattle.am_history.specs.Steps.{after_due, moment_after, step}
use Rattle.am_history.specs.History.{replay, replay_from}
use Rattle.am_history.specs.Desks.{Origin, opening_of}
use Rattle.am_history.specs.Numbers.{HasNumbersTo, HasNumbers}
use Rattle.am_laws.proofs.NumberParts.{bounded, raised, next_bound}
use Rattle.am_laws.proofs.NumberSteps.{moment_keeps_numbers, numbers_after}
use Rattle.am_laws.proofs.Openings.{opening_leaves}
use Rattle.am_laws.proofs.Requests.{step_leaves}

-- the device's own state has given out no number
opening_starts : (device : Device) → HasNumbersTo 1 (opening device)
opening_starts device = record {
  tasks = omega arith;
  instances = omega arith;
  broadcasts = omega arith;
  tokens = omega arith;
  registrations = omega arith;
  starts = All-nil (λ (service : Service). service.starts ≤ 1);
  registered = All-nil (λ (r : Registration). r.number < 1);
}

-- nor has the state in which a manager begins
pub opening_has_numbers : (origin : Origin) → HasNumbersTo 1 (opening_of origin)
opening_has_numbers origin = opening_leaves (HasNumbersTo 1) stays origin (opening_starts origin.device)
  where
    stays : (state : State) (board : Board) (uid : ℕ) → board.registered ≡ state.board.registered → HasNumbersTo 1 state
        → HasNumbersTo 1 (record state { board = board; next_uid = uid })
    stays state board uid same has =
        bounded 1 (record state { board = board; next_uid = uid })
        has.tasks has.instances has.broadcasts has.tokens has.registrations has.starts
        (subst (λ (l : List Registration). All (λ (r : Registration). r.number < state.next_registration) l) (sym same)
        has.registered)

-- one step raises each by one at most
pub step_keeps_numbers : (n : ℕ) (state : State) (before : List Entry) (entry : Entry) → HasNumbersTo n state
    → HasNumbersTo (n + 1) (step state before entry).1
step_keeps_numbers n state before entry has =
    let due = moment_keeps_numbers n state (moment_after state entry.now) has in
    step_leaves (HasNumbersTo (n + 1)) state before entry (next_bound n (after_due state entry.now) due)
    (λ kept. numbers_after n (after_due state entry.now) due entry.uid entry.request)

-- these entries raise each by as many at most
replayed_numbers : (n : ℕ) (state : State) (before entries : List Entry) → HasNumbersTo n state
    → HasNumbersTo (n + length entries) (replay_from state before entries)
replayed_numbers n state before [] has = raised n (n + length {A = Entry} []) state (omega arith) has
replayed_numbers n state before (first ∷ others) has =
    let same : (n + 1) + length others ≡ n + length (first ∷ others) = omega arith in
    subst (λ (m : ℕ). HasNumbersTo m (replay_from state before (first ∷ others))) same
    (replayed_numbers (n + 1) (step state before first).1 (before ++ first ∷ []) others
    (step_keeps_numbers n state before first has))

-- after every history each number is at most one more than its length
pub replay_has_numbers : (origin : Origin) (history : List Entry) → HasNumbersTo (1 + length history)
    (replay (opening_of origin) history)
replay_has_numbers origin history = replayed_numbers 1 (opening_of origin) [] history (opening_has_numbers origin)

-- so no history of a manager uses the numbers up
pub enough_numbers : (origin : Origin) (history : List Entry) → length history ≤ 1048576
    → HasNumbers (replay (opening_of origin) history)
enough_numbers origin history few = raised (1 + length history) greatest_number (replay (opening_of origin) history)
    (omega arith) (replay_has_numbers origin history)
