-- A frame whose response says that its call is the next entry of the history.
use Rattle.std.proofs.Common.{◌≡◌, ℕ, ◌+◌, ◌<◌, ◌^◌, Bool, true, List, [], ◌∷◌, ◌++◌, length, take, refl, sym, ap, ◌∙◌, subst, arith}
use Rattle.std.specs.Prelude.{Option, Some, None, Ok, MatchOption, slice_get}
use Rattle.std.proofs.lemmas.Option.{same_Some}
use Rattle.am_types.specs.declared.history.Entry.{Entry}
use Rattle.am_types.specs.declared.history.Shown.{Shown}
use Rattle.am_types.specs.declared.request.Request.{Request}
use Rattle.am_history.specs.State.{State, uid_of}
use Rattle.am_history.specs.History.{IsEntryOf, is_stored, replay, reply_after}
use Rattle.am_history.specs.Desks.{Follows}
use Rattle.am_http.specs.Exchanges.{Exchange, IsAnswer, IsMarked, Point}
use Rattle.am_frames.specs.Head.{Frame}
use Rattle.am_http.specs.Requests.{call_of, request_of}
use Rattle.am_audit_history.specs.Replays.{Replay, ShowsKept}
use Rattle.am_audit_answers.specs.declared.judging.Accepted.{Accepted}
use Rattle.am_audit_answers.specs.Judged.{IsAccepted, IsNext, IsShownBy, Judges, ShowsAs, case_of, ground_of}
use Rattle.am_audit_answers.specs.Judging.{Answers, Case, Refuses}
use Rattle.am_audit_answers.specs.Marks.{SaysOnly}
use Rattle.am_audit_answers.specs.Matching.{IsItsCall, IsReplayed}
use Rattle.am_audit_answers.proofs.Going.{next_is_replayed, one_more}
use Rattle.am_audit_answers.proofs.Placed.{IsPlaced, accepted_at, answer_at, each_placed, exchange_at, judged_by, shown_at}

module _ (history : List Entry) (replayed : Replay) (frame : Frame) (left : List ℕ) (request : Request)
    (asks : request_of frame ≡ Ok request) (says : SaysOnly left (length replayed.history) true)
    (short : length history < 2 ^ 64) (few : length left < 2 ^ 64)
    (first : IsReplayed (ground_of history replayed) replayed) where
  -- the case, and its call's place
  abbrev c : Case
  c = case_of history replayed frame left

  abbrev point : Point
  point = record { at = length replayed.history; stored = true }

  abbrev before : List Entry
  before = take (length replayed.history) history

  -- an exchange of the frame shows that call
  placed : (e : Exchange) (rest : List ℕ) → Answers c e rest → IsPlaced c request point e
  placed e rest answers = each_placed c request point asks says short few e rest answers

  module _ (next : Entry) (there : slice_get history (length replayed.history) ≡ Some next) where
    -- and this is the call
    is_entry : (e : Exchange) (p : IsPlaced c request point e)
        → IsEntryOf (replay replayed.start before) (call_of p.desk frame p.now request) p.kept next
    is_entry e p =
        let entry = p.marked.entry in
        subst (IsEntryOf (replay replayed.start before) (call_of p.desk frame p.now request) p.kept)
        (same_Some _ _ (sym entry.1 ∙ there)) entry.2

    -- so it is the frame's
    its_call : (e : Exchange) (rest : List ℕ) → Answers c e rest
        → IsItsCall (replay replayed.start replayed.history) frame request next
    its_call e rest answers =
        let is = is_entry e (placed e rest answers) in
        record {
          uid = subst (λ (h : List Entry). uid_of (replay replayed.start h) frame.key ≡ Some next.uid)
              (sym first.first) is.uid;
          weight = is.weight;
          asks = is.request;
        }

    module _ (kept : next.kept ≡ true)
        (its : IsItsCall (replay replayed.start replayed.history) frame request next)
        (after : Replay) (shown : Shown) (shows : ShowsKept replayed (call_of next.desk frame next.now request)
        after shown) where
      -- whether it is stored there
      stored_is : (desk now : ℕ) → now ≡ next.now → shown.stored ≡ is_stored (replay replayed.start before) before
          (call_of desk frame now request)
      stored_is desk now same =
          let P : List Entry → Type 0 = λ h. shown.stored ≡ is_stored (replay replayed.start h) h
          (call_of desk frame next.now request) in
          subst (λ (n : ℕ). shown.stored ≡ is_stored (replay replayed.start before) before
          (call_of desk frame n request)) (sym same)
          (subst P first.first shows.stored)

      -- what is shown of it
      shown_is : (desk now : ℕ) (truth : Bool) → desk ≡ next.desk → now ≡ next.now → truth ≡ true → shown.stored ≡ true
          → shown_at replayed.start history point (call_of desk frame now request) truth ≡ shown
      shown_is desk now truth number moment is stored =
          let reply : reply_after replayed.start before (call_of desk frame now request) truth ≡ shown.reply =
          (λ i. reply_after replayed.start before (call_of (number i) frame (moment i) request) (is i))
          ∙ (ap (λ (h : List Entry). reply_after replayed.start h (call_of next.desk frame next.now request) true)
          (sym first.first) ∙ sym shows.reply) in
          λ i. record { at = sym shows.at i; stored = sym stored i; reply = reply i }

      -- the entry is added
      after_is : shown.stored ≡ true → after.history ≡ replayed.history ++ next ∷ []
      after_is stored =
          let state : State = replay replayed.start replayed.history in
          let P : Bool → Type 0 = λ b. Follows replayed.history after.history b
          (IsEntryOf state (call_of next.desk frame next.now request) true) in
          let follows = subst P stored shows.follows in
          let is = follows.1 in
          let uid : follows.0.uid ≡ next.uid = same_Some _ _ (sym is.uid ∙ its.uid) in
          let same : follows.0 ≡ next =
          λ i. record {
            desk = is.desk i;
            uid = uid i;
            now = is.now i;
            weight = (is.weight ∙ sym its.weight) i;
            request = (is.request ∙ sym its.asks) i;
            kept = (is.kept ∙ sym kept) i;
          } in
          follows.2 ∙ ap (λ (entry : Entry). replayed.history ++ entry ∷ []) same

      -- an exchange of the frame shows that it is stored
      is_stored_there : (e : Exchange) (rest : List ℕ) → Answers c e rest → shown.stored ≡ true
      is_stored_there e rest answers =
          let p = placed e rest answers in
          stored_is p.desk p.now (sym (is_entry e p).now) ∙ sym p.marked.stored

      -- and its bytes show what was shown
      shows_it : (e : Exchange) (rest : List ℕ) → Answers c e rest → IsShownBy shown e.bytes
      shows_it e rest answers =
          let p = placed e rest answers in
          let is = is_entry e p in
          subst (λ (s : Shown). IsShownBy s e.bytes)
          (shown_is p.desk p.now p.kept (sym is.desk) (sym is.now) (sym is.kept ∙ kept)
          (is_stored_there e rest answers)) p.shows

      -- the call is marked at its place
      marked : shown.stored ≡ true
          → IsMarked replayed.start history (call_of next.desk frame next.now request) true point
      marked stored = record {
        within = first.within;
        stored = sym stored ∙ stored_is next.desk next.now refl;
        entry = (next, there, is);
      }
        where
          is : IsEntryOf (replay replayed.start before) (call_of next.desk frame next.now request) true next
          is = record {
            desk = refl;
            uid = subst (λ (h : List Entry). uid_of (replay replayed.start h) frame.key ≡ Some next.uid)
                first.first its.uid;
            now = refl;
            weight = its.weight;
            request = its.asks;
            kept = kept;
          }

      count : shown.stored ≡ true → length after.history ≡ length replayed.history + 1
      count stored = one_more replayed after next (after_is stored)

      -- it is accepted by them
      accepts : (taken : ℕ) → ShowsAs true shown left (Some taken)
          → IsAccepted c (record { replayed = after; taken = taken })
      accepts taken takes =
          accepted_at c point (record { replayed = after; taken = taken })
          (Some next.now) (omega arith) takes.1.0
          (record { desk = next.desk; answer = answer; timed = λ stored. absurd cc })
          (λ e rest answers. (
            (placed e rest answers).placed,
            takes.1.2 e.bytes rest (shows_it e rest answers) answers.bytes,
          ))
          (sym (count takes.0)) shows.start
          (next_is_replayed (ground_of history replayed) replayed after next first there shows.start
          (after_is takes.0))
        where
          answer : IsAnswer replayed.start next.desk history (exchange_at c point (Some next.now) taken)
          answer =
              answer_at c request point next.desk next.now taken asks (marked takes.0)
              (subst (λ (s : Shown). IsShownBy s (take taken left))
              (sym (shown_is next.desk next.now true refl refl refl takes.0)) takes.1.1)

      -- so the frame is judged by the bytes that show it
      pub stored_judged : (taken : Option ℕ) (result : Option Accepted) → ShowsAs true shown left taken
          → MatchOption result (taken ≡ None) (λ a. (a.replayed ≡ after) × (taken ≡ Some a.taken))
          → Judges c result
      stored_judged =
          judged_by c true shown after
          (λ e rest answers. (is_stored_there e rest answers, shows_it e rest answers)) accepts

-- if no next entry is the frame's call, no exchange of the frame shows its call
pub refuses_next : (history : List Entry) (replayed : Replay) (frame : Frame) (left : List ℕ) (request : Request)
    → request_of frame ≡ Ok request
    → SaysOnly left (length replayed.history) true → length history < 2 ^ 64 → length left < 2 ^ 64
    → IsReplayed (ground_of history replayed) replayed
    → ((next : Entry) → IsNext history replayed frame request next → ⊥) → Refuses (case_of history replayed frame left)
refuses_next history replayed frame left request asks says short few first never e rest answers =
    let entry = (placed history replayed frame left request asks says short few first e rest answers).marked.entry in
    let its = its_call history replayed frame left request asks says short few first entry.0 entry.1 e rest answers in
    never entry.0 (record { there = entry.1; its = its })
