-- What is shown of a call that is stored, kept or not.
use Rattle.std.proofs.Common.{◌≡◌, Bool, true, ◌&&◌, List, [], ◌∷◌, ◌++◌, length, Some, refl, sym, ap, ◌∙◌}
use Rattle.std.specs.Prelude.{if◌then◌else◌, is_some}
use Rattle.am_types.specs.declared.history.Entry.{Entry}
use Rattle.am_types.specs.declared.reply.Reply.TheVariants.{Refused}
use Rattle.am_types.specs.declared.rule.Rule.TheVariants.{HistoryFull}
use Rattle.am_history.specs.State.{State, uid_of}
use Rattle.am_history.specs.Steps.{Call, act, step}
use Rattle.am_history.specs.History.{replay, may_change, has_room, entry_of, reply_to}
use Rattle.am_history.specs.Desks.{ShowsAt}
use Rattle.am_machine.specs.Keeping.{with_kept}

-- three tests hold together
all_three : (a b c : Bool) → a ≡ true → b ≡ true → c ≡ true → a && b && c ≡ true
all_three a b c first second third = cc

pub kept_shows : (start : State) (history : List Entry) (call : Call) (entry : Entry) (kept : Bool)
    → entry ≡ entry_of call entry.uid true → uid_of (replay start history) call.key ≡ Some entry.uid
    → may_change (replay start history) entry.now entry.request ≡ true → has_room history entry.weight ≡ true
    → ShowsAt start history (history ++ with_kept entry kept ∷ []) call
    (record {
      at = length history;
      stored = true;
      reply = (step (replay start history) history (with_kept entry kept)).0;
    })
kept_shows start history call entry kept is known changes room = record {
  kept = kept;
  at = refl;
  stored = sym (all_three _ _ _ (ap (λ o. is_some o) known) changing roomy);
  reply = ap (λ (e : Entry). (step state history e).0) is_entry
      ∙ sym (ap (reply_to state history call kept) known
      ∙ ap (λ b. if b then (if has_room history call.weight then (step state history (entry_of call entry.uid kept)).0
      else Refused HistoryFull) else (act state history entry.uid call.request).0) changing
      ∙ ap (λ b. if b then (step state history (entry_of call entry.uid kept)).0 else Refused HistoryFull) roomy);
  follows = (
    with_kept entry kept,
    record {
      desk = ap (λ (e : Entry). e.desk) is;
      uid = known;
      now = ap (λ (e : Entry). e.now) is;
      weight = ap (λ (e : Entry). e.weight) is;
      request = ap (λ (e : Entry). e.request) is;
      kept = refl;
    },
    refl,
  );
}
  where
    state : State
    state = replay start history

    is_entry : with_kept entry kept ≡ entry_of call entry.uid kept
    is_entry = ap (λ (e : Entry). with_kept e kept) is

    changing : may_change state call.now call.request ≡ true
    changing = ap (λ (e : Entry). may_change state e.now e.request) (sym is) ∙ changes

    roomy : has_room history call.weight ≡ true
    roomy = ap (λ (e : Entry). has_room history e.weight) (sym is) ∙ room
