-- How a history goes on with an entry.
use Rattle.std.proofs.Common.{◌≡◌, ℕ, Bool, true, false, ◌&&◌, ◌||◌, List, [], ◌∷◌, ◌++◌, refl, sym, ap, ◌∙◌, subst}
use Rattle.std.specs.Prelude.{Option, Some, None, is_some, MatchOption}
use Rattle.std.proofs.lemmas.Option.{same_Some}
use Rattle.am_types.specs.declared.history.Entry.{Entry}
use Rattle.am_types.specs.declared.history.Shown.{Shown}
use Rattle.am_history.specs.State.{State, key_of, uid_of}
use Rattle.am_history.specs.Steps.{after_due, asks_keeper}
use Rattle.am_history.specs.History.{has_room, is_stored, may_change, IsEntryOf, MayBeNext}
use Rattle.am_history.specs.Desks.{Follows}
use Rattle.am_history.proofs.Callers.{uid_has_caller}
use Rattle.am_laws_state.specs.Keys.{KeysAreKnown}
use Rattle.am_audit_history.specs.Replays.{Advances, GoesOnWith, Replay, ShowsKept, call_with, state_of}

-- three tests that hold together hold
all_hold : (a b c : Bool) → a && b && c ≡ true → (a ≡ true) × (b ≡ true) × (c ≡ true)
all_hold true true true is = (refl, refl, refl)
all_hold true true false is = absurd cc
all_hold true false c is = absurd cc
all_hold false b c is = absurd cc

all_three : (a b c : Bool) → a ≡ true → b ≡ true → c ≡ true → a && b && c ≡ true
all_three a b c first second third = cc

-- the history goes on with the entry if its call is stored
pub goes_on : (before after : Replay) (key : List ℕ) (entry : Entry) (shown : Shown) → uid_of (state_of before) key
    ≡ Some entry.uid → entry.kept ≡ true
    → ShowsKept before (call_with key entry) after shown → shown.stored ≡ true → GoesOnWith before entry after
goes_on before after key entry shown known kept shows stored =
    let state : State = state_of before in
    let P : Bool → Type 0 = λ b. Follows before.history after.history b (IsEntryOf state (call_with key entry) true) in
    let follows = subst P stored shows.follows in
    let is = follows.1 in
    let uid : follows.0.uid ≡ entry.uid = same_Some _ _ (sym is.uid ∙ known) in
    let same : follows.0 ≡ entry =
    λ i. record {
      desk = is.desk i;
      uid = uid i;
      now = is.now i;
      weight = is.weight i;
      request = is.request i;
      kept =
          (is.kept ∙ sym kept) i;
    } in
    let tests = all_hold (is_some (uid_of state key)) (may_change state entry.now entry.request)
    (has_room before.history entry.weight) (sym shows.stored ∙ stored) in
    record {
      start = shows.start;
      history = follows.2 ∙ ap (λ (e : Entry). before.history ++ e ∷ []) same;
      next = record {
        caller = uid_has_caller state key entry.uid known;
        changes = tests.1;
        room = tests.2;
        kept = ap (λ b. b || asks_keeper (after_due state entry.now) before.history entry.uid entry.request) kept;
      };
    }

-- and the entry may not be next if it isn't
pub stops : (before after : Replay) (key : List ℕ) (entry : Entry) (shown : Shown) → uid_of (state_of before) key
    ≡ Some entry.uid
    → ShowsKept before (call_with key entry) after shown → shown.stored ≡ false
    → MayBeNext (state_of before) before.history entry → ⊥
stops before after key entry shown known shows stored next =
    let state : State = state_of before in
    let is : is_stored state before.history (call_with key entry) ≡ true =
    all_three (is_some (uid_of state key)) (may_change state entry.now entry.request)
    (has_room before.history entry.weight)
    (ap (λ (o : Option ℕ). is_some o) known) next.changes next.room in
    let no : true ≡ false = sym is ∙ sym shows.stored ∙ stored in
    cc

-- what becomes of an entry whose caller's key is known
pub advances : (before after : Replay) (key : List ℕ) (entry : Entry) (shown : Shown) (result : Option Replay)
    → KeysAreKnown (state_of before)
    → Some key ≡ key_of (state_of before) entry.uid → entry.kept ≡ true
    → ShowsKept before (call_with key entry) after shown
    → MatchOption result (shown.stored ≡ false) (λ next. (shown.stored ≡ true) × (next ≡ after))
    → Advances before entry result
advances before after key entry shown None keys is kept shows stored =
    stops before after key entry shown ((keys.known entry.uid key).0 (sym is)) shows stored
advances before after key entry shown (Some next) keys is kept shows stored =
    subst (GoesOnWith before entry) (sym stored.1) (goes_on before after key entry shown
    ((keys.known entry.uid key).0 (sym is)) kept shows stored.0)
