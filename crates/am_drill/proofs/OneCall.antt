-- What one call of a drill's desk is answered, and the history after it.
use Rattle.std.proofs.Common.{◌≡◌, ℕ, Bool, true, false, ◌&&◌, ◌||◌, List, [], ◌∷◌, ◌++◌, Option, Some, None, refl, sym, ap, ◌∙◌, subst}
use Rattle.std.specs.Prelude.{if◌then◌else◌, is_some}
use Rattle.am_types.specs.declared.history.Entry.{Entry}
use Rattle.am_types.specs.declared.history.Shown.{Shown}
use Rattle.am_types.specs.declared.reply.Reply.TheVariants.{Refused}
use Rattle.am_types.specs.declared.rule.Rule.TheVariants.{HistoryFull}
use Rattle.am_types.specs.declared.request.Request.{Request}
use Rattle.am_history.specs.State.{State, uid_of}
use Rattle.am_history.specs.Steps.{Call, act, after_due, asks_keeper, is_refusal, keeps_row, step}
use Rattle.am_history.specs.History.{replay, entry_of, has_room, is_stored, may_change, reply_to, IsEntryOf, IsLegal}
use Rattle.am_history.specs.Desks.{DeskView, Follows, IsSameDesk, Shows, ShowsAt, opening_of, start_of}
use Rattle.am_history.proofs.Places.{legal_last}
use Rattle.am_drill.specs.Bodies.{weight_of}
use Rattle.am_drill.specs.Calls.{call_of}
use Rattle.am_drill.specs.Desks.{IsAlone, IsPlain}
use Rattle.am_drill.specs.Drills.{answer, entry_by, history_after}

-- the keeper isn't asked for a request of which no row is kept
not_asked : (state : State) (before : List Entry) (uid : ℕ) (request : Request) → keeps_row request ≡ false
    → asks_keeper state before uid request ≡ false
not_asked state before uid request none =
    ap (λ b. if b then (if is_refusal (act state before uid request).0 then false else true) else false) none

-- one of two tests holds, and it isn't the second
first_alone : (a b : Bool) → a || b ≡ true → b ≡ false → a ≡ true
first_alone true b either none = refl
first_alone false b either none = sym none ∙ either

-- the last entry of a legal history is kept, if no row is kept of its request
pub last_is_kept : (start : State) (history : List Entry) (entry : Entry) → IsLegal start (history ++ entry ∷ [])
    → keeps_row entry.request ≡ false → entry.kept ≡ true
last_is_kept start history entry legal none =
    first_alone entry.kept (asks_keeper (after_due (replay start history) entry.now) history entry.uid entry.request)
    (legal_last start history entry legal).kept
    (not_asked (after_due (replay start history) entry.now) history entry.uid entry.request none)

-- the reply to a call that isn't stored doesn't depend on the keeper
unstored_reply : (state : State) (history : List Entry) (call : Call) (kept : Bool) (uid : Option ℕ)
    → is_some uid && may_change state call.now call.request && has_room history call.weight ≡ false
    → reply_to state history call kept uid ≡ reply_to state history call true uid
unstored_reply state history call kept None unstored = refl
unstored_reply state history call kept (Some uid) unstored =
    by (may_change state call.now call.request) (has_room history call.weight) unstored
  where
    by : (changes room : Bool) → true && changes && room ≡ false
        → (if changes then (if room then (step state history (entry_of call uid kept)).0 else Refused HistoryFull) else
        (act state history uid call.request).0)
        ≡ (if changes then (if room then (step state history (entry_of call uid true)).0 else Refused HistoryFull) else
        (act state history uid call.request).0)
    by true true stored = absurd cc
    by true false stored = refl
    by false room stored = refl

-- an entry is what its parts are
made_entry : (state : State) (call : Call) (entry : Entry) → IsEntryOf state call true entry
    → entry ∷ [] ≡ entry_by call (uid_of state call.key)
made_entry state call entry is =
    let same : entry ≡ entry_of call entry.uid true = parts entry call is.desk is.now is.weight is.request is.kept in
    ap (λ (e : Entry). e ∷ []) same ∙ ap (entry_by call) (sym is.uid)
  where
    parts : (entry : Entry) (call : Call) → entry.desk ≡ call.desk → entry.now ≡ call.now → entry.weight ≡ call.weight
        → entry.request ≡ call.request → entry.kept ≡ true → entry ≡ entry_of call entry.uid true
    parts entry call desk now weight request kept =
        ap (λ (d : ℕ). record entry { desk = d }) desk
        ∙ ap (λ (n : ℕ). record entry { desk = call.desk; now = n }) now
        ∙ ap (λ (w : ℕ). record entry { desk = call.desk; now = call.now; weight = w }) weight
        ∙ ap (λ (r : Request). record entry { desk = call.desk; now = call.now; weight = call.weight; request = r })
        request
        ∙ ap (λ (k : Bool). record entry {
          desk = call.desk;
          now = call.now;
          weight = call.weight;
          request =
              call.request;
          kept = k;
        }) kept

module _ (start : State) (history after : List Entry) (call : Call) (none : keeps_row call.request ≡ false)
    (legal : IsLegal start after) where
  -- the history goes on as the calls have it
  goes_on : (stored kept : Bool) → stored ≡ is_stored (replay start history) history call
      → Follows history after stored (IsEntryOf (replay start history) call kept) → after
      ≡ history_after start history call
  unfolding history_after
  goes_on false kept is same =
      same ∙ ap (λ b. if b then history ++ entry_by call (uid_of (replay start history) call.key) else history) is
  goes_on true kept is (entry, made, more) =
      let whole : entry.kept ≡ true = last_is_kept start history entry (subst (IsLegal start) more legal)
      (ap keeps_row made.request ∙ none) in
      let all_kept : IsEntryOf (replay start history) call true entry = record {
        desk = made.desk;
        uid = made.uid;
        now = made.now;
        weight = made.weight;
        request = made.request;
        kept = whole;
      } in
      more
      ∙ ap (λ (entries : List Entry). history ++ entries) (made_entry (replay start history) call entry all_kept)
      ∙ ap (λ b. if b then history ++ entry_by call (uid_of (replay start history) call.key) else history) is

  -- the reply is the one that nothing was left out of
  whole_reply : (stored kept : Bool) → stored ≡ is_stored (replay start history) history call
      → Follows history after stored (IsEntryOf (replay start history) call kept)
      → reply_to (replay start history) history call kept (uid_of (replay start history) call.key)
      ≡ answer start history call
  unfolding answer
  whole_reply false kept is same =
      unstored_reply (replay start history) history call kept (uid_of (replay start history) call.key) (sym is)
  whole_reply true kept is (entry, made, more) =
      let whole : entry.kept ≡ true = last_is_kept start history entry (subst (IsLegal start) more legal)
      (ap keeps_row made.request ∙ none) in
      ap (λ b. reply_to (replay start history) history call b (uid_of (replay start history) call.key))
      (sym made.kept ∙ whole)

-- what is shown of a call at a place of a history
at_place : (start : State) (before after : List Entry) (call : Call) (shown : Shown) → keeps_row call.request ≡ false
    → IsLegal start after → ShowsAt start before after call shown
    → (shown.reply ≡ answer start before call) × (after ≡ history_after start before call)
at_place start before after call shown none legal at = (
  at.reply ∙ whole_reply start before after call none legal shown.stored at.kept at.stored at.follows,
  goes_on start before after call none legal shown.stored at.kept at.stored at.follows,
)

-- what a desk that has its manager for itself shows of a call, and the history after it
pub alone_shows : (old new : DeskView) (call : Call) (shown : Shown) → old.sharing.desks ≡ 1 → keeps_row call.request
    ≡ false
    → IsLegal (start_of new) new.seen → IsSameDesk old new → Shows old new call shown
    → (shown.reply ≡ answer (start_of old) old.seen call) × (new.seen ≡ history_after (start_of old) old.seen call)
alone_shows old new call shown alone none legal same (before, sees, at) =
    subst (λ (h : List Entry). (shown.reply ≡ answer (start_of old) h call)
    × (new.seen ≡ history_after (start_of old) h call))
    (sees.alone alone)
    (at_place (start_of old) before new.seen call shown none
    (subst (λ start. IsLegal start new.seen) (ap opening_of same.origin) legal) at)

-- a call is what its parts are
call_is : (number : ℕ) (key : List ℕ) (now weight : ℕ) (request : Request) → number ≡ 0 → weight ≡ weight_of request
    → ◌≡◌ {A = Call} (record { desk = number; key = key; now = now; weight = weight; request = request })
    (call_of key now request)
call_is number key now weight request first weighs =
    ap (λ (d : ℕ). record { desk = d; key = key; now = now; weight = weight; request = request }) first
    ∙ ap (λ (w : ℕ). record { desk = 0; key = key; now = now; weight = w; request = request }) weighs

-- what a drill's desk shows of the call of a plain request, and the history after it
pub plain_shows : (old new : DeskView) (key : List ℕ) (now weight : ℕ) (request : Request) (shown : Shown) → IsAlone old
    → IsPlain request
    → weight ≡ weight_of request → IsLegal (start_of new) new.seen → IsSameDesk old new
    → Shows old new (record { desk = old.number; key = key; now = now; weight = weight; request = request }) shown
    → (shown.reply ≡ answer (start_of old) old.seen (call_of key now request))
    × (new.seen ≡ history_after (start_of old) old.seen (call_of key now request))
plain_shows old new key now weight request shown alone plain weighs legal same shows =
    alone_shows old new (call_of key now request) shown alone.desks plain.no_row legal same
    (subst (λ (call : Call). Shows old new call shown) (call_is old.number key now weight request alone.number weighs)
    shows)
