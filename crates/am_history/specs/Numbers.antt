-- How far the numbers of a state have come.
use Rattle.std.specs.Prelude.{ℕ, ◌≤◌, ◌<◌, All}
use Rattle.am_types.specs.Bounds.{greatest_number}
use Rattle.am_types.specs.declared.resolve.Registration.{Registration}
use Rattle.am_history.specs.State.{State, Service}

-- the next numbers of tasks, instances, broadcasts, tokens and registrations are at most n, no running service was started
-- more often, and the registered receivers have numbers that were given out
pub record HasNumbersTo (n : ℕ) (state : State) : Type 0 where
  pub tasks : state.tasks.next_task ≤ n
  pub instances : state.tasks.next_instance ≤ n
  pub broadcasts : state.broadcasts.next_broadcast ≤ n
  pub tokens : state.pendings.next ≤ n
  pub registrations : state.next_registration ≤ n
  pub starts : All (λ (service : Service). service.starts ≤ n) state.services
  pub registered : All (λ (r : Registration). r.number < state.next_registration) state.board.registered

-- there are numbers left for a call: none of these is greater than 2^50
abbrev pub HasNumbers : State → Type 0
HasNumbers state = HasNumbersTo greatest_number state
