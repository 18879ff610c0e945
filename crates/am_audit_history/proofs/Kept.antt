-- What a call shows is what it shows where all is kept, if no row failed.
use Rattle.std.proofs.Common.{◌≡◌, ℕ, Bool, true, false, ◌&&◌, cond, List, refl, sym, ◌∙◌, arith}
use Rattle.std.specs.Prelude.{Option, Some, None, is_some, Result, Ok, Err, IfOk}
use Rattle.am_types.specs.declared.failure.NoMemory.{NoMemory}
use Rattle.am_types.specs.declared.history.Entry.{Entry}
use Rattle.am_types.specs.declared.history.Shown.{Shown}
use Rattle.am_types.specs.declared.reply.Reply.TheVariants.{Refused}
use Rattle.am_types.specs.declared.rule.Rule.TheVariants.{HistoryFull, KeeperFault}
use Rattle.am_outside.specs.Counts.{HasRisen}
use Rattle.am_history.specs.State.{State, uid_of}
use Rattle.am_history.specs.Steps.{Call, act, step}
use Rattle.am_history.specs.History.{entry_of, has_room, may_change, reply_to, is_stored, IsEntryOf}
use Rattle.am_history.specs.Desks.{Follows, ShowsAt}
use Rattle.am_machine.specs.Keeping.{AddsUnkept}
use Rattle.am_audit_history.specs.Replays.{Replay, ShowsKept, state_of}

module _ (state : State) (history : List Entry) (call : Call) where
  -- a call that isn't stored is answered the same, kept or not
  unstored_reply : (uid : Option ℕ) → is_some uid && may_change state call.now call.request && has_room history
      call.weight ≡ false
      → reply_to state history call false uid ≡ reply_to state history call true uid
  unstored_reply None is = refl
  unstored_reply (Some uid) is = by (may_change state call.now call.request) (has_room history call.weight) is
    where
      by : (may room : Bool) → true && may && room ≡ false
          → cond may (cond room (step state history (entry_of call uid false)).0 (Refused HistoryFull))
          (act state history uid call.request).0
          ≡ cond may (cond room (step state history (entry_of call uid true)).0 (Refused HistoryFull))
          (act state history uid call.request).0
      by true true is = absurd cc
      by true false is = refl
      by false room is = refl

  -- a call that is stored and not kept is the keeper's fault
  stored_reply : (uid : Option ℕ) → is_some uid && may_change state call.now call.request && has_room history
      call.weight ≡ true
      → reply_to state history call false uid ≡ Refused KeeperFault
  stored_reply None is = absurd cc
  stored_reply (Some uid) is = by (may_change state call.now call.request) (has_room history call.weight) is
    where
      by : (may room : Bool) → true && may && room ≡ true
          → cond may (cond room (step state history (entry_of call uid false)).0 (Refused HistoryFull))
          (act state history uid call.request).0
          ≡ Refused KeeperFault
      by true true is = refl
      by true false is = absurd cc
      by false room is = absurd cc

-- what a call shows where its row didn't fail
pub kept_is : (before : Replay) (after : List Entry) (call : Call) (shown : Shown)
    → ShowsAt before.start before.history after call shown
    → (shown.reply ≡ Refused KeeperFault → ⊥) → ShowsKept before call (record { start = before.start; history = after })
    shown
kept_is before after call shown shows sure =
    let both = by_kept shows.kept shown.stored shows.stored shows.reply shows.follows in record {
      start = refl;
      at = shows.at;
      stored = shows.stored;
      reply = both.0;
      follows = both.1;
    }
  where
    by_kept : (kept stored : Bool) → stored ≡ is_stored (state_of before) before.history call
        → shown.reply ≡ reply_to (state_of before) before.history call kept (uid_of (state_of before) call.key)
        → Follows before.history after stored (IsEntryOf (state_of before) call kept)
        → (shown.reply ≡ reply_to (state_of before) before.history call true (uid_of (state_of before) call.key))
        × Follows before.history after stored (IsEntryOf (state_of before) call true)
    by_kept true stored is reply follows = (reply, follows)
    by_kept false true is reply follows =
        absurd (sure (reply ∙ stored_reply (state_of before) before.history call (uid_of (state_of before) call.key)
        (sym is)))
    by_kept false false is reply follows = (
      reply ∙ unstored_reply (state_of before) before.history call (uid_of (state_of before) call.key) (sym is),
      follows,
    )

-- a count that stays at zero hasn't risen
never_risen : HasRisen 0 0 → ⊥
never_risen risen = omega arith

-- the same where a fault would have been counted, and none was
pub shows_kept : (start : State) (before after : List Entry) (call : Call) (answer : Result Shown NoMemory)
    → IfOk answer (λ shown. ShowsAt start before after call shown)
    → IfOk answer (λ shown. shown.reply ≡ Refused KeeperFault → HasRisen 0 0 × AddsUnkept before after)
    → IfOk answer (λ shown. ShowsKept (record { start = start; history = before }) call
    (record { start = start; history = after }) shown)
shows_kept start before after call (Ok shown) shows fault =
    kept_is (record { start = start; history = before }) after call shown shows (λ is. never_risen (fault is).0)
shows_kept start before after call (Err ran_out) shows fault = tt
