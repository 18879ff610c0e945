-- One more exchange.
use Rattle.std.proofs.Common.{◌≡◌, ℕ, ◌≤◌, ◌<◌, Bool, true, false, List, [], ◌∷◌, ◌++◌, length, take, Option, Some, None, refl, sym, ap, ◌∙◌, subst, arith, append_assoc, length-append, append-nil, eq-eqb}
use Rattle.std.specs.Prelude.{slice_get, ◌==◌, if◌then◌else◌, cond}
use Rattle.std.specs.Bool.{OnTrue}
use Rattle.std.specs.List.{AllByRecursion}
use Rattle.std.specs.Option.{option_to_list}
use Rattle.std.proofs.lemmas.List.{take-append-le}
use Rattle.std.proofs.Math.ListN.{get_or-append}
use Rattle.std.proofs.Math.Seq.{get_or-append_seam, take-append_seam}
use Rattle.std.proofs.lemmas.List.Elements.{filter-append}
use Rattle.std.proofs.lemmas.Grind.{flat_map-append}
use Rattle.std.proofs.lemmas.Option.{slice_get_within, slice_get-get_or, get_or_from_slice_get}
use Rattle.am_types.specs.declared.history.Entry.{Entry}
use Rattle.am_types.specs.declared.history.Shown.{Shown}
use Rattle.am_history.specs.State.{State}
use Rattle.am_history.specs.Steps.{Call}
use Rattle.am_history.specs.History.{replay, is_stored, reply_after, IsEntryOf, entries_of, Extends}
use Rattle.am_history.specs.Desks.{DeskView, IsSameDesk, SeesOthers, ShowsAt, Follows, start_of}
use Rattle.am_http.specs.Responses.{response, no_memory_at}
use Rattle.am_http.specs.Requests.{call_of}
use Rattle.am_http.specs.Exchanges.{Point, Exchange, IsMarked, IsCalled, IsAnswer, by_refusal, by_reply, by_no_memory, by_late_no_memory, floor_after, IsAbove, AreInOrder, floor_of, entry_at, stored_entries, AreAnswered, ShowsIn, Answered, refused_at_once, replied, wanted, ran_out_late}

-- a fact that holds on true, weakened
on_true_map : (b : Bool) {P Q : Type 0} → (P → Q) → OnTrue b P → OnTrue b Q
on_true_map true f h = f h
on_true_map false f h = tt

-- the front of a longer history
pub take_stays : (history added : List Entry) (at : ℕ) → at ≤ length history → take at (history ++ added)
    ≡ take at history
take_stays history added at within = take-append-le at history added within

-- an entry of a longer history
pub entry_stays : (history added : List Entry) (at : ℕ) (entry : Entry) → slice_get history at ≡ Some entry
    → slice_get (history ++ added) at ≡ Some entry
entry_stays history added at entry found =
    let within : at < length history = slice_get_within history at entry found in
    let longer : at < length (history ++ added) = omega (arith, length-append history added) in
    slice_get-get_or (history ++ added) at entry longer
    ∙ ap Some (get_or-append history added entry at within ∙ get_or_from_slice_get history at entry entry found)

-- the entry behind a history
pub entry_behind : (before : List Entry) (entry : Entry) → slice_get (before ++ entry ∷ []) (length before) ≡ Some entry
entry_behind before entry =
    let within : length before < length (before ++ entry ∷ []) = omega (arith, length-append before (entry ∷ [])) in
    slice_get-get_or (before ++ entry ∷ []) (length before) entry within
    ∙ ap Some (get_or-append_seam before entry [] entry)

-- a mark stays in a longer history
pub marked_stays : (start : State) (history added : List Entry) (call : Call) (kept : Bool) (point : Point)
    → IsMarked start history call kept point → IsMarked start (history ++ added) call kept point
marked_stays start history added call kept point marked =
    let front : take point.at (history ++ added) ≡ take point.at history = take_stays history added point.at
    marked.within in
    let P : List Entry → Bool → Type 0 = λ (h : List Entry) b. OnTrue b
    ((entry : Entry) × (slice_get (history ++ added) point.at ≡ Some entry)
    × IsEntryOf (replay start h) call kept entry) in
    record {
      within = omega (arith, marked.within, length-append history added);
      stored = marked.stored ∙ ap (λ h. is_stored (replay start h) h call) (sym front);
      entry = subst (λ h. P h point.stored) (sym front)
          (on_true_map point.stored (λ found. (found.0, entry_stays history added point.at found.0 found.1, found.2))
          marked.entry);
    }

-- a call stays the call in a longer history
abbrev called_stays : (start : State) (desk : ℕ) (history added : List Entry) (e : Exchange)
    → IsCalled start desk history e → IsCalled start desk (history ++ added) e
called_stays start desk history added e c =
    record {
      request = c.request;
      asks = c.asks;
      now = c.now;
      asked = c.asked;
      kept = c.kept;
      point = c.point;
      placed = c.placed;
      marked = marked_stays start history added (call_of desk e.frame c.now c.request) c.kept c.point c.marked;
    }

-- an answer stays the answer in a longer history
pub answer_stays : (start : State) (desk : ℕ) (history added : List Entry) (e : Exchange)
    → IsAnswer start desk history e → IsAnswer start desk (history ++ added) e
answer_stays start desk history added e (by_refusal refused asks unasked point bytes) =
    by_refusal refused asks unasked point bytes
answer_stays start desk history added e (by_reply c bytes) =
    by_reply (called_stays start desk history added e c)
    (bytes ∙ ap (λ h. response c.point.at c.point.stored (reply_after start h (call_of desk e.frame c.now c.request)
    c.kept))
    (sym (take_stays history added c.point.at c.marked.within)))
answer_stays start desk history added e (by_no_memory point bytes) = by_no_memory point bytes
answer_stays start desk history added e (by_late_no_memory c bytes) = by_late_no_memory
    (called_stays start desk history added e c) bytes

pub answers_stay : (start : State) (desk : ℕ) (history added : List Entry) (es : List Exchange)
    → AllByRecursion (IsAnswer start desk history) es → AllByRecursion (IsAnswer start desk (history ++ added)) es
answers_stay start desk history added [] all = tt
answers_stay start desk history added (e ∷ es) all =
    (answer_stays start desk history added e all.0, answers_stay start desk history added es all.1)

-- what a stored call became is in a longer history what it was
entry_kept : (history added : List Entry) (at : ℕ) (stored : Bool) (X : Entry → Type 0)
    → OnTrue stored ((entry : Entry) × (slice_get history at ≡ Some entry) × X entry)
    → (if stored then option_to_list (slice_get (history ++ added) at) else [])
    ≡ (if stored then option_to_list (slice_get history at) else [])
entry_kept history added at true X found =
    ap option_to_list (entry_stays history added at found.0 found.1 ∙ sym found.1)
entry_kept history added at false X found = refl

marked_entry : (start : State) (history added : List Entry) (call : Call) (kept : Bool) (point : Point)
    → IsMarked start history call kept point
    → entry_at (history ++ added) (Some point) ≡ entry_at history (Some point)
marked_entry start history added call kept point marked =
    entry_kept history added point.at point.stored (λ entry. IsEntryOf (replay start (take point.at history)) call kept
    entry) marked.entry

called_entry : (start : State) (desk : ℕ) (history added : List Entry) (e : Exchange) → IsCalled start desk history e
    → entry_at (history ++ added) e.point ≡ entry_at history e.point
called_entry start desk history added e c =
    ap (entry_at (history ++ added)) c.placed
    ∙ marked_entry start history added (call_of desk e.frame c.now c.request) c.kept c.point c.marked
    ∙ ap (entry_at history) (sym c.placed)

entry_at_stays : (start : State) (desk : ℕ) (history added : List Entry) (e : Exchange) → IsAnswer start desk history e
    → entry_at (history ++ added) e.point ≡ entry_at history e.point
entry_at_stays start desk history added e (by_refusal refused asks unasked point bytes) =
    ap (entry_at (history ++ added)) point ∙ ap (entry_at history) (sym point)
entry_at_stays start desk history added e (by_reply c bytes) = called_entry start desk history added e c
entry_at_stays start desk history added e (by_no_memory point bytes) =
    ap (entry_at (history ++ added)) point ∙ ap (entry_at history) (sym point)
entry_at_stays start desk history added e (by_late_no_memory c bytes) = called_entry start desk history added e c

pub stored_entries_stay : (start : State) (desk : ℕ) (history added : List Entry) (es : List Exchange)
    → AllByRecursion (IsAnswer start desk history) es → stored_entries (history ++ added) es ≡ stored_entries history es
stored_entries_stay start desk history added [] all = refl
stored_entries_stay start desk history added (e ∷ es) all =
    ap (λ xs. xs ++ stored_entries (history ++ added) es) (entry_at_stays start desk history added e all.0)
    ∙ ap (λ xs. entry_at history e.point ++ xs) (stored_entries_stay start desk history added es all.1)

-- one exchange, as it stands in the history that the desk had seen after it
pub record Stands (old new : DeskView) (e : Exchange) : Type 0 where
  pub grows : Extends old.seen new.seen
  pub answer : IsAnswer (start_of old) old.number new.seen e
  pub above : (floor : ℕ) → floor ≤ length old.seen → IsAbove floor e.point
      × (floor_after floor e.point ≤ length new.seen)
  pub own : entries_of old.number new.seen ≡ entries_of old.number old.seen ++ entry_at new.seen e.point
  pub alone : old.sharing.desks ≡ 1 → new.seen ≡ old.seen ++ entry_at new.seen e.point

-- the entries of a desk in two parts
pub entries_of-append : (desk : ℕ) (xs ys : List Entry) → entries_of desk (xs ++ ys) ≡ entries_of desk xs
    ++ entries_of desk ys
entries_of-append desk xs ys = filter-append (λ (entry : Entry). entry.desk == desk) xs ys

-- the same history goes on from itself
pub extends_refl : (xs : List Entry) → Extends xs xs
extends_refl xs = ([], sym (append-nil xs))

pub extends_trans : (xs ys zs : List Entry) → Extends xs ys → Extends ys zs → Extends xs zs
extends_trans xs ys zs a b =
    (a.0 ++ b.0, b.1 ∙ ap (λ l. l ++ b.0) a.1 ∙ append_assoc xs a.0 b.0)

-- a call that was made at the end of `before`
follows_grows : (start : State) (before new : List Entry) (call : Call) (kept stored : Bool)
    → Follows before new stored (IsEntryOf (replay start before) call kept) → Extends before new
follows_grows start before new call kept true follows = (follows.0 ∷ [], follows.2)
follows_grows start before new call kept false follows = ([], follows ∙ sym (append-nil before))

extends_longer : (xs ys : List Entry) → Extends xs ys → length xs ≤ length ys
extends_longer xs ys h = omega (arith, ap length h.1, length-append xs h.0)

front_of : (before new : List Entry) → Extends before new → take (length before) new ≡ before
front_of before new h = ap (take (length before)) h.1 ∙ take-append_seam before h.0

follows_entry : (start : State) (before new : List Entry) (call : Call) (kept stored : Bool)
    → Follows before new stored (IsEntryOf (replay start before) call kept)
    → OnTrue stored ((entry : Entry) × (slice_get new (length before) ≡ Some entry)
    × IsEntryOf (replay start before) call kept entry)
follows_entry start before new call kept true follows =
    (follows.0, ap (λ h. slice_get h (length before)) follows.2 ∙ entry_behind before follows.0, follows.1)
follows_entry start before new call kept false follows = tt

follows_marked : (start : State) (before new : List Entry) (call : Call) (kept stored : Bool)
    → stored ≡ is_stored (replay start before) before call → Follows before new stored
    (IsEntryOf (replay start before) call kept)
    → IsMarked start new call kept (record { at = length before; stored = stored })
follows_marked start before new call kept stored is_stored_there follows =
    let grows = follows_grows start before new call kept stored follows in
    let front : take (length before) new ≡ before = front_of before new grows in
    let P : List Entry → Type 0 = λ (h : List Entry). OnTrue stored
    ((entry : Entry) × (slice_get new (length before) ≡ Some entry) × IsEntryOf (replay start h) call kept entry) in
    record {
      within = extends_longer before new grows;
      stored = is_stored_there ∙ ap (λ h. is_stored (replay start h) h call) (sym front);
      entry = subst P (sym front) (follows_entry start before new call kept stored follows);
    }

same_number : (n : ℕ) → (n == n) ≡ true
same_number n = eq-eqb n n refl

own_entry : (desk : ℕ) (entry : Entry) → entry.desk ≡ desk → entries_of desk (entry ∷ []) ≡ entry ∷ []
own_entry desk entry h = ap (λ b. cond b (entry ∷ []) []) (eq-eqb entry.desk desk h)

follows_own : (start : State) (before new : List Entry) (call : Call) (kept stored : Bool)
    → Follows before new stored (IsEntryOf (replay start before) call kept)
    → entries_of call.desk new ≡ entries_of call.desk before ++ (if stored then option_to_list
    (slice_get new (length before)) else [])
follows_own start before new call kept true follows =
    ap (entries_of call.desk) follows.2
    ∙ entries_of-append call.desk before (follows.0 ∷ [])
    ∙ ap (λ xs. entries_of call.desk before ++ xs)
    (own_entry call.desk follows.0 follows.1.desk
    ∙ ap option_to_list (sym (ap (λ h. slice_get h (length before)) follows.2 ∙ entry_behind before follows.0)))
follows_own start before new call kept false follows =
    ap (entries_of call.desk) follows ∙ sym (append-nil (entries_of call.desk before))

-- a stored call adds its entry alone
follows_adds : (start : State) (before new : List Entry) (call : Call) (kept stored : Bool)
    → Follows before new stored (IsEntryOf (replay start before) call kept)
    → new ≡ before ++ (if stored then option_to_list (slice_get new (length before)) else [])
follows_adds start before new call kept true follows =
    follows.2
    ∙ ap (λ xs. before ++ xs)
    (ap option_to_list (sym (ap (λ h. slice_get h (length before)) follows.2 ∙ entry_behind before follows.0)))
follows_adds start before new call kept false follows = follows ∙ sym (append-nil before)

follows_floor : (start : State) (before new : List Entry) (call : Call) (kept stored : Bool)
    → Follows before new stored (IsEntryOf (replay start before) call kept)
    → (floor : ℕ) → floor_after floor (Some (record { at = length before; stored = stored })) ≤ length new
follows_floor start before new call kept true follows floor =
    omega (arith, ap length follows.2, length-append before (follows.0 ∷ []))
follows_floor start before new call kept false follows floor = omega (arith, ap length follows)

-- nothing was stored where there is no place
none_stands : (old new : DeskView) (e : Exchange) → e.point ≡ None → SeesOthers old new.seen
    → IsAnswer (start_of old) old.number new.seen e → Stands old new e
none_stands old new e point sees answer =
    let P : ℕ → Option Point → Type 0 = λ (floor : ℕ) (p : Option Point). IsAbove floor p
    × (floor_after floor p ≤ length new.seen) in
    record {
      grows = sees.grows;
      answer = answer;
      above = λ floor low. subst (P floor) (sym point) (
        tt,
        omega (
          arith,
          low,
          extends_longer old.seen new.seen
              sees.grows,
        ),
      );
      own = sees.others ∙ sym (append-nil (entries_of old.number old.seen))
          ∙ ap (λ p. entries_of old.number old.seen ++ entry_at new.seen p) (sym point);
      alone = λ one. sees.alone one ∙ sym (append-nil old.seen) ∙ ap (λ p. old.seen ++ entry_at new.seen p) (sym point);
    }

-- what is shown of a call, as the mark of its exchange
shown_point : (shown : Shown) (before : List Entry) (e : Exchange) → shown.at ≡ length before
    → e.point ≡ Some (record { at = shown.at; stored = shown.stored })
    → e.point ≡ Some (record { at = length before; stored = shown.stored })
shown_point shown before e at point =
    let P : ℕ → Type 0 = λ (n : ℕ). e.point ≡ Some (record { at = n; stored = shown.stored }) in
    subst P at point

-- a call that was made stands at its place
some_stands : (old new : DeskView) (before : List Entry) (call : Call) (shown : Shown) (e : Exchange)
    → call.desk ≡ old.number → SeesOthers old before → ShowsAt (start_of old) before new.seen call shown
    → e.point ≡ Some (record { at = length before; stored = shown.stored })
    → IsAnswer (start_of old) old.number new.seen e → Stands old new e
some_stands old new before call shown e same sees shows point answer =
    let start = start_of old in
    let P : ℕ → Option Point → Type 0 = λ (floor : ℕ) (p : Option Point). IsAbove floor p
    × (floor_after floor p ≤ length new.seen) in
    let longer : length old.seen ≤ length before = extends_longer old.seen before sees.grows in
    let here : Option Point = Some (record { at = length before; stored = shown.stored }) in
    let others : entries_of call.desk before ≡ entries_of call.desk old.seen =
    subst (λ d. entries_of d before ≡ entries_of d old.seen) (sym same) sees.others in
    let Q : ℕ → Type 0 = λ (d : ℕ). entries_of d new.seen ≡ entries_of d old.seen ++ entry_at new.seen e.point in
    record {
      grows = extends_trans old.seen before new.seen sees.grows
          (follows_grows start before new.seen call shows.kept shown.stored shows.follows);
      answer = answer;
      above = λ floor low. subst (P floor) (sym point) (
        omega (arith, low, longer),
        follows_floor start before new.seen call shows.kept shown.stored shows.follows
            floor,
      );
      own = subst Q same
          (follows_own start before new.seen call shows.kept shown.stored shows.follows
          ∙ ap (λ xs. xs ++ entry_at new.seen here) others
          ∙ ap (λ p. entries_of call.desk old.seen ++ entry_at new.seen p) (sym point));
      alone = λ one. follows_adds start before new.seen call shows.kept shown.stored shows.follows
          ∙ ap (λ xs. xs ++ entry_at new.seen here) (sees.alone one)
          ∙ ap (λ p. old.seen ++ entry_at new.seen p) (sym point);
    }

-- the reply at the place of the call, read in the history after it
reply_there : (start : State) (before new : List Entry) (call : Call) (kept : Bool) (grows : Extends before new)
    → reply_after start before call kept ≡ reply_after start (take (length before) new) call kept
reply_there start before new call kept grows = ap (λ h. reply_after start h call kept) (sym (front_of before new grows))

-- a call that was shown, read in the history after it
abbrev called_there : (old new : DeskView) (e : Exchange) (shown : Shown) (s : ShowsIn old new e shown)
    → e.point ≡ Some (record { at = length s.shows.0; stored = shown.stored })
    → IsCalled (start_of old) old.number new.seen e
called_there old new e shown s there =
    let call = call_of old.number e.frame s.now s.request in
    record {
      request = s.request;
      asks = s.asks;
      now = s.now;
      asked = s.asked;
      kept = s.shows.2.kept;
      point = record { at = length s.shows.0; stored = shown.stored };
      placed = there;
      marked = follows_marked (start_of old) s.shows.0 new.seen call s.shows.2.kept shown.stored s.shows.2.stored
          s.shows.2.follows;
    }

pub stands : (old new : DeskView) (e : Exchange) → Answered old new e → Stands old new e
stands old new e (refused_at_once refused asks unasked point bytes same) =
    none_stands old new e point
    (record {
      grows = ([], same ∙ sym (append-nil old.seen));
      others = ap (entries_of old.number) same;
      alone = λ one. same;
    })
    (by_refusal refused asks unasked point bytes)
stands old new e (replied shown s bytes) =
    let call = call_of old.number e.frame s.now s.request in
    let before = s.shows.0 in
    let shows = s.shows.2 in
    let there = shown_point shown before e shows.at s.placed in
    let grows = follows_grows (start_of old) before new.seen call shows.kept shown.stored shows.follows in
    some_stands old new before call shown e refl s.shows.1 shows there
    (by_reply (called_there old new e shown s there)
    (bytes
    ∙ ap (λ n. response n shown.stored shown.reply) shows.at
    ∙ ap (λ r. response (length before) shown.stored r)
    (shows.reply ∙ reply_there (start_of old) before new.seen call shows.kept grows)))
stands old new e (wanted sees point bytes) = none_stands old new e point sees (by_no_memory point bytes)
stands old new e (ran_out_late shown s bytes) =
    let call = call_of old.number e.frame s.now s.request in
    let there = shown_point shown s.shows.0 e s.shows.2.at s.placed in
    some_stands old new s.shows.0 call shown e refl s.shows.1 s.shows.2 there
    (by_late_no_memory (called_there old new e shown s there) (bytes ∙ ap (λ n. no_memory_at n shown.stored) s.shows.2.at))

-- one more at the end
pub all_more : {X : Type 0} (P : X → Type 0) (xs : List X) (x : X) → AllByRecursion P xs → P x
    → AllByRecursion P (xs ++ x ∷ [])
all_more P [] x all one = (one, tt)
all_more P (y ∷ ys) x all one = (all.0, all_more P ys x all.1 one)

pub floor_more : (floor : ℕ) (es : List Exchange) (e : Exchange) → floor_of floor (es ++ e ∷ [])
    ≡ floor_after (floor_of floor es) e.point
floor_more floor [] e = refl
floor_more floor (first ∷ others) e = floor_more (floor_after floor first.point) others e

pub in_order_more : (floor : ℕ) (es : List Exchange) (e : Exchange) → AreInOrder floor es
    → IsAbove (floor_of floor es) e.point → AreInOrder floor (es ++ e ∷ [])
in_order_more floor [] e order above = (above, tt)
in_order_more floor (first ∷ others) e order above =
    (order.0, in_order_more (floor_after floor first.point) others e order.1 above)

one_stored : (history : List Entry) (e : Exchange) → stored_entries history (e ∷ []) ≡ entry_at history e.point
one_stored history e = append-nil (entry_at history e.point)

-- the same desk, but for what it has seen
pub same_view : (first old : DeskView) → IsSameDesk first old
    → old ≡ record { origin = first.origin; number = first.number; sharing = first.sharing; seen = old.seen }
same_view first old same =
    ap (λ o. record { origin = o; number = old.number; sharing = old.sharing; seen = old.seen }) same.origin
    ∙ ap (λ n. record { origin = first.origin; number = n; sharing = old.sharing; seen = old.seen }) same.number
    ∙ ap (λ s. record { origin = first.origin; number = first.number; sharing = s; seen = old.seen }) same.sharing

-- the entries of stored calls, and of one more
entries_more : (old new : List Entry) (es : List Exchange) (e : Exchange) → stored_entries new es
    ≡ stored_entries old es
    → stored_entries old es ++ entry_at new e.point ≡ stored_entries new (es ++ e ∷ [])
entries_more old new es e kept =
    ap (λ xs. xs ++ entry_at new e.point) (sym kept)
    ∙ ap (λ xs. stored_entries new es ++ xs) (sym (one_stored new e))
    ∙ sym (flat_map-append (λ (x : Exchange). entry_at new x.point) es (e ∷ []))

-- answered exchanges, and one more that stands behind them
pub one_more : (first old new : DeskView) (es : List Exchange) (e : Exchange) → IsSameDesk first old
    → AreAnswered first old es → Stands old new e → AreAnswered first new (es ++ e ∷ [])
one_more first old new es e same so_far here =
    let start = start_of first in
    let desk = first.number in
    let next = subst (λ (v : DeskView). Stands v new e) (same_view first old same) here in
    let added = next.grows.0 in
    let is_new : new.seen ≡ old.seen ++ added = next.grows.1 in
    let P : List Entry → Type 0 = λ (h : List Entry). AllByRecursion (IsAnswer start desk h) es in
    let kept : stored_entries new.seen es ≡ stored_entries old.seen es =
    ap (λ h. stored_entries h es) is_new ∙ stored_entries_stay start desk old.seen added es so_far.answers in
    let more = entries_more old.seen new.seen es e kept in
    let above = next.above (floor_of (length first.seen) es) so_far.floor in
    record {
      grows = extends_trans first.seen old.seen new.seen so_far.grows next.grows;
      answers = all_more (IsAnswer start desk new.seen) es e
          (subst P (sym is_new) (answers_stay start desk old.seen added es so_far.answers)) next.answer;
      in_order = in_order_more (length first.seen) es e so_far.in_order above.0;
      floor = let Q : ℕ → Type 0 = λ n. n ≤ length new.seen in subst Q (sym (floor_more (length first.seen) es e))
          above.1;
      own = next.own
          ∙ ap (λ xs. xs ++ entry_at new.seen e.point) so_far.own
          ∙ append_assoc (entries_of desk first.seen) (stored_entries old.seen es) (entry_at new.seen e.point)
          ∙ ap (λ xs. entries_of desk first.seen ++ xs) more;
      alone = λ one. next.alone one
          ∙ ap (λ xs. xs ++ entry_at new.seen e.point) (so_far.alone one)
          ∙ append_assoc first.seen (stored_entries old.seen es) (entry_at new.seen e.point)
          ∙ ap (λ xs. first.seen ++ xs) more;
    }

-- no exchange yet
pub none_yet : (first : DeskView) → AreAnswered first first []
none_yet first =
    record {
      grows = extends_refl first.seen;
      answers = tt;
      in_order = tt;
      floor = omega arith;
      own = sym (append-nil (entries_of first.number first.seen));
      alone = λ one. sym (append-nil first.seen);
    }
