-- What each request is answered, and what it does to the state.
use Rattle.std.proofs.Common.{◌≡◌, ℕ, List, refl}
use Rattle.am_types.specs.declared.history.Entry.{Entry}
use Rattle.am_types.specs.declared.request.Request.{Request}
use Rattle.am_history.specs.State.{State}
use Rattle.am_history.specs.Steps.{act, comes_to}

pub act_is : (state : State) (before : List Entry) (caller : ℕ) (request : Request) → act state before caller request
    ≡ comes_to state before caller request
unfolding act
act_is state before caller request = refl
