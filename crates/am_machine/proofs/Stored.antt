-- What holds of a manager after a call that is stored.
use Rattle.std.proofs.Common.{◌≡◌, ℕ, ◌+◌, ◌≤◌, ◌<◌, Bool, true, false, ◌||◌, List, [], ◌∷◌, ◌++◌, length, Option, Some, refl, sym, ap, ◌∙◌, subst, IsTrue, arith}
use Rattle.std.specs.Prelude.{if◌then◌else◌, count_by, not, is_some}
use Rattle.std.proofs.lemmas.List.{length-append}
use Rattle.std.proofs.lemmas.List.Sums.{sum_by_push, count_by-le-length}
use Rattle.am_types.specs.declared.history.Entry.{Entry}
use Rattle.am_types.specs.declared.reply.Reply.{Reply}
use Rattle.am_types.specs.declared.reply.Reply.TheVariants.{Refused}
use Rattle.am_types.specs.declared.rule.Rule.TheVariants.{KeeperFault, AdminOnly}
use Rattle.am_outside.specs.Counts.{HasRisen}
use Rattle.am_keeper.specs.declared.keeper.Keeper.{Ghosts}
use Rattle.am_keeper.specs.declared.rows.Rows.{Rows}
use Rattle.am_model.specs.Sound.{IsSound}
use Rattle.am_history.specs.State.{State, has_uid}
use Rattle.am_history.specs.Steps.{act, after_due, asks_keeper, step}
use Rattle.am_history.specs.History.{replay, weight_of, has_room, may_change}
use Rattle.am_history.specs.Desks.{Origin, opening_of}
use Rattle.am_history.proofs.Places.{legal_more, replay_more}
use Rattle.am_laws.proofs.Faults.{act_never_faults}
use Rattle.am_machine.specs.declared.opened.Opened.{Opened}
use Rattle.am_machine.specs.Keeping.{GoesOn, told_after}
use Rattle.am_machine.proofs.FoundRows.{told_more}
use Rattle.am_machine.specs.Managed.{Managed, Holds, HoldsKept, is_unkept, origin_at}

-- there is room for one more entry of that weight
room_is : (history : List Entry) (weight : ℕ) → has_room history weight ≡ true
    → (length history < 1048576) × (weight_of history + weight ≤ 536870912)
room_is history weight room = grind (arith, room)

-- the manager with the entry of a call holds what that call left
pub holds_more : (origin : Origin) (live after : State) (history : List Entry) (weight : ℕ) (entry : Entry)
    (reply : Reply)
    → Holds origin live history weight → IsTrue (has_uid (replay (opening_of origin) history) entry.uid)
    → IsTrue (may_change (replay (opening_of origin) history) entry.now entry.request)
    → IsTrue (has_room history entry.weight)
    → IsTrue (entry.kept || asks_keeper (after_due live entry.now) history entry.uid entry.request)
    → step live history entry ≡ (reply, after)
    → Holds origin after (history ++ entry ∷ []) (weight + entry.weight)
holds_more origin live after history weight entry reply holds caller changes room kept does = record {
  sound = holds.sound;
  replayed = replay_more (opening_of origin) history entry
      ∙ ap (λ (state : State). (step state history entry).1) holds.replayed
      ∙ ap (λ (answer : Reply × State). answer.1) does;
  legal = legal_more (opening_of origin) history entry holds.legal (record {
    caller = caller;
    changes = changes;
    room = room;
    kept = subst (λ (state : State). IsTrue (entry.kept || asks_keeper (after_due state entry.now) history entry.uid
        entry.request)) (sym holds.replayed) kept;
  });
  weighed = ap (λ (n : ℕ). n + entry.weight) holds.weighed ∙ sym (sum_by_push (λ (e : Entry). e.weight) history entry);
  most = subst (λ (n : ℕ). n + entry.weight ≤ 536870912) (sym holds.weighed) (room_is history entry.weight room).1;
  few = few (length-append history (entry ∷ [])) (room_is history entry.weight room).0;
}
  where
    few : length (history ++ entry ∷ []) ≡ length history + 1 → length history < 1048576
        → length (history ++ entry ∷ []) ≤ 1048576
    few is below = omega (arith, is, below)

-- its keeper counted one more fault if the row wasn't kept, and tells it if it was
pub holds_kept_more : {K : Type 0} (g : Ghosts K) (origin : Origin) (live after : State) (history : List Entry)
    (entry : Entry) (reply : Reply) (old new : K)
    → HoldsKept g origin history old → replay (opening_of origin) history ≡ live → length history ≤ 1048576
    → step live history entry ≡ (reply, after) → GoesOn g old new
    → (g.is_honest new → g.rows new ≡ told_after live entry.request reply (g.rows old))
    → (entry.kept ≡ false → HasRisen (g.faults old) (g.faults new))
    → HoldsKept g origin (history ++ entry ∷ []) new
holds_kept_more g origin live after history entry reply old new holds replayed few does goes put risen = record {
  unkept = by entry.kept (λ is. is) (sum_by_push (λ (e : Entry). if is_unkept e then 1 else 0) history entry);
  found = λ (honest : g.is_honest new) (told : Rows) (tells : g.rows new ≡ Some told).
      told_more origin live after history entry reply (g.rows old) told replayed does
      (λ (before : Rows) (was : g.rows old ≡ Some before). holds.found (goes.was_honest honest) before was)
      (sym (sym goes.tells ∙ ap (λ (rows : Option Rows). is_some rows) tells))
      (sym (put honest) ∙ tells);
}
  where
    by : (b : Bool) → (b ≡ false → entry.kept ≡ false)
        → count_by is_unkept (history ++ entry ∷ []) ≡ count_by is_unkept history + (if not b then 1 else 0)
        → count_by is_unkept (history ++ entry ∷ []) ≤ g.faults new
    by true was more =
        let unkept : count_by is_unkept history ≤ g.faults old = holds.unkept in
        let falls : g.faults old ≤ g.faults new = goes.never_falls in
        omega (arith, more, unkept, falls)
    by false was more =
        let unkept : count_by is_unkept history ≤ g.faults old = holds.unkept in
        let rises : HasRisen (g.faults old) (g.faults new) = risen (was refl) in
        omega (arith, more, unkept, rises, count_by-le-length is_unkept history)

-- what holds of a manager's parts after a call that is stored
pub stored_more : {K : Type 0} (g : Ghosts K) (opened : Opened) (live after : State)
    (history : List Entry) (weight : ℕ) (entry : Entry) (reply : Reply) (old new : K)
    → Holds (origin_at opened (g.place old)) live history weight
    × HoldsKept g (origin_at opened (g.place old)) history old
    → IsTrue (has_uid live entry.uid) → IsTrue (may_change live entry.now entry.request)
    → IsTrue (has_room history entry.weight)
    → IsTrue (entry.kept || asks_keeper (after_due live entry.now) history entry.uid entry.request)
    → step live history entry ≡ (reply, after)
    → GoesOn g old new → (g.is_honest new → g.rows new ≡ told_after live entry.request reply (g.rows old))
    → (entry.kept ≡ false → HasRisen (g.faults old) (g.faults new))
    → Holds (origin_at opened (g.place new)) after (history ++ entry ∷ [])
    (weight + entry.weight)
    × HoldsKept g (origin_at opened (g.place new)) (history ++ entry ∷ []) new
stored_more g opened live after history weight entry reply old new holds caller changes room asked does goes put
    risen =
    let origin : Origin = origin_at opened (g.place old) in
    let before : Holds origin live history weight = holds.0 in (
      subst (λ (place : Option (List ℕ)). Holds (origin_at opened place) after
          (history ++ entry ∷ []) (weight + entry.weight)) (sym goes.place)
          (holds_more origin live after history weight entry reply before
          (subst (λ (state : State). IsTrue (has_uid state entry.uid)) (sym before.replayed) caller)
          (subst (λ (state : State). IsTrue (may_change state entry.now entry.request)) (sym before.replayed) changes)
          room asked does),
      subst (λ (place : Option (List ℕ)). HoldsKept g (origin_at opened place)
          (history ++ entry ∷ []) new) (sym goes.place)
          (holds_kept_more g origin live after history entry reply old new holds.1 before.replayed before.few does goes
          put risen),
    )

-- a reply of a stored call is the fault of a keeper only if its row wasn't kept
pub fault_is_unkept : (state : State) (history : List Entry) (entry : Entry) → (step state history entry).0
    ≡ Refused KeeperFault
    → entry.kept ≡ false
fault_is_unkept state history entry = by entry.kept
  where
    by : (b : Bool) → (if b then act (after_due state entry.now) history entry.uid entry.request else
        (Refused KeeperFault, after_due state entry.now)).0 ≡ Refused KeeperFault
        → b ≡ false
    by true is = absurd (act_never_faults (after_due state entry.now) history entry.uid entry.request is)
    by false is = refl

-- what holds of the origin and the history of a manager as it is seen holds of it from inside
pub from_inside : {K : Type 0} (P : Origin → List Entry → Type 0) (seen inside : Managed K) → seen ≡ inside
    → P seen.origin seen.history → P inside.origin inside.history
from_inside {K} P seen inside same holds = subst (λ (m : Managed K). P m.origin m.history) same holds
