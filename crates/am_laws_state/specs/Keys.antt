-- The keys of the callers of a sound state.
use Rattle.std.specs.Prelude.{◌≡◌, ◌↔◌, ℕ, List, Some, None, false}
use Rattle.am_history.specs.State.{State, has_uid, key_of, uid_of}
use Rattle.am_laws_state.specs.Sound.{IsSoundState}

-- a caller has the uid if and only if it has a key, and then the key has that uid and no other
pub record KeysAreKnown (state : State) : Type 0 where
  pub known : (uid : ℕ) (key : List ℕ) → key_of state uid ≡ Some key ↔ uid_of state key ≡ Some uid
  pub none : (uid : ℕ) → key_of state uid ≡ None ↔ has_uid state uid ≡ false

-- that is so in every sound state
abbrev pub KeysAreExact : Type 0
KeysAreExact = (state : State) → IsSoundState state → KeysAreKnown state
