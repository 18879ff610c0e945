-- A frame whose response says that its call was made at a place, and isn't stored.
use Rattle.std.proofs.Common.{◌≡◌, ℕ, ◌<◌, ◌≤◌, ◌^◌, Bool, true, false, List, length, take, refl, sym, ap, ◌∙◌, subst, arith}
use Rattle.std.specs.Prelude.{Option, Some, None, Ok, MatchOption}
use Rattle.std.proofs.lemmas.Option.{same_Some}
use Rattle.am_types.specs.declared.history.Entry.{Entry}
use Rattle.am_types.specs.declared.history.Shown.{Shown}
use Rattle.am_types.specs.declared.request.Request.{Request}
use Rattle.am_history.specs.History.{IsEntryOf, is_stored, replay, reply_after}
use Rattle.am_history.specs.Desks.{Follows}
use Rattle.am_http.specs.Exchanges.{Exchange, IsAnswer, IsMarked, Point}
use Rattle.am_frames.specs.Head.{Frame}
use Rattle.am_http.specs.Requests.{call_of, request_of}
use Rattle.am_audit_history.specs.Replays.{Replay, ShowsKept}
use Rattle.am_audit_answers.specs.declared.judging.Accepted.{Accepted}
use Rattle.am_audit_answers.specs.Audits.{IsTimedBy}
use Rattle.am_audit_answers.specs.Judged.{IsAccepted, IsShownBy, Judges, ShowsAs, case_of, ground_of}
use Rattle.am_audit_answers.specs.Judging.{Answers, Case}
use Rattle.am_audit_answers.specs.Marks.{SaysOnly}
use Rattle.am_audit_answers.specs.Matching.{IsReplayed}
use Rattle.am_audit_answers.proofs.Placed.{IsPlaced, accepted_at, answer_at, each_placed, exchange_at, judged_by, shown_at, unstored_reply}

module _ (history : List Entry) (replayed : Replay) (frame : Frame) (left : List ℕ) (request : Request)
    (first : IsReplayed (ground_of history replayed) replayed)
    (after : Replay) (shown : Shown) (shows : ShowsKept replayed (call_of 0 frame 0 request) after shown)
  where
    -- the case, and its call's place
    abbrev c : Case
    c = case_of history replayed frame left

    abbrev point : Point
    point = record { at = length replayed.history; stored = false }

    -- what was replayed are the entries before the place
    abbrev before : List Entry
    before = take (length replayed.history) history

    -- whether it is stored there, on whichever desk
    stored_is : (desk : ℕ) → shown.stored ≡ is_stored (replay replayed.start before) before
        (call_of desk frame 0 request)
    stored_is desk =
        let P : List Entry → Type 0 = λ h. shown.stored ≡ is_stored (replay replayed.start h) h
        (call_of desk frame 0 request) in
        subst P first.first shows.stored

    -- what is shown of it, on whichever desk
    shown_is : (desk : ℕ) (kept : Bool) → shown.stored ≡ false
        → shown_at replayed.start history point (call_of desk frame 0 request) kept ≡ shown
    shown_is desk kept unstored =
        let reply : reply_after replayed.start before (call_of desk frame 0 request) kept ≡ shown.reply =
        unstored_reply replayed.start before frame 0 request desk 0 kept (sym (stored_is desk) ∙ unstored)
        ∙ (ap (λ (h : List Entry). reply_after replayed.start h (call_of 0 frame 0 request) true)
        (sym first.first) ∙ sym shows.reply) in
        λ i. record { at = sym shows.at i; stored = sym unstored i; reply = reply i }

    -- nothing is added
    after_is : shown.stored ≡ false → after.history ≡ replayed.history
    after_is unstored =
        let P : Bool → Type 0 =
        λ b. Follows replayed.history after.history b (IsEntryOf
        (replay replayed.start replayed.history) (call_of 0 frame 0 request) true) in
        subst P unstored shows.follows

    module _ (asks : request_of frame ≡ Ok request) (says : SaysOnly left (length replayed.history) false)
        (short : length history < 2 ^ 64) (few : length left < 2 ^ 64) where
      -- an exchange of the frame shows that call
      placed : (e : Exchange) (rest : List ℕ) → Answers c e rest → IsPlaced c request point e
      placed e rest answers = each_placed c request point asks says short few e rest answers

      -- at moment 0
      now_is : (e : Exchange) (rest : List ℕ) (answers : Answers c e rest)
          (p : IsPlaced c request point e) → p.now ≡ 0
      now_is e rest answers p =
          let timed : IsTimedBy (Some point) e.now = subst (λ (o : Option Point). IsTimedBy o e.now) p.placed
          answers.audited.timed in
          same_Some _ _ (sym p.asked ∙ timed refl)

      -- so it isn't stored
      isnt_stored : (e : Exchange) (rest : List ℕ) → Answers c e rest → shown.stored ≡ false
      isnt_stored e rest answers =
          let p = placed e rest answers in
          let there : false ≡ is_stored (replay replayed.start before) before (call_of p.desk frame 0 request) =
          subst (λ (n : ℕ). false
          ≡ is_stored (replay replayed.start before) before (call_of p.desk frame n request))
          (now_is e rest answers p) p.marked.stored in
          stored_is p.desk ∙ sym there

      -- and its bytes show what was shown
      shows_it : (e : Exchange) (rest : List ℕ) → Answers c e rest → IsShownBy shown e.bytes
      shows_it e rest answers =
          let p = placed e rest answers in
          let here : IsShownBy
          (shown_at replayed.start history point (call_of p.desk frame 0 request) p.kept) e.bytes
          =
          subst (λ (n : ℕ). IsShownBy
          (shown_at replayed.start history point (call_of p.desk frame n request) p.kept)
          e.bytes) (now_is e rest answers p) p.shows in
          subst (λ (s : Shown). IsShownBy s e.bytes) (shown_is p.desk p.kept (isnt_stored e rest answers)) here

      -- the call is marked at its place
      marked : shown.stored ≡ false
          → IsMarked replayed.start history (call_of 0 frame 0 request) true point
      marked unstored = record { within = first.within; stored = sym unstored ∙ stored_is 0; entry = tt }

      -- it is accepted by them
      accepts : (taken : ℕ) → ShowsAs false shown left (Some taken)
          → IsAccepted c (record { replayed = after; taken = taken })
      accepts taken takes =
          accepted_at c point (record { replayed = after; taken = taken }) (Some 0) (omega arith) takes.1.0
          (record { desk = 0; answer = answer; timed = λ _. refl })
          (λ e rest answers. (
            (placed e rest answers).placed,
            takes.1.2 e.bytes rest (shows_it e rest answers) answers.bytes,
          ))
          (sym (ap (λ (h : List Entry). length h) (after_is takes.0))) shows.start goes
        where
          answer : IsAnswer replayed.start 0 history (exchange_at c point (Some 0) taken)
          answer =
              answer_at c request point 0 0 taken asks (marked takes.0)
              (subst (λ (s : Shown). IsShownBy s (take taken left)) (sym (shown_is 0 true takes.0)) takes.1.1)

          goes : IsReplayed (ground_of history replayed) after
          goes =
              let same : replayed.history ≡ after.history = sym (after_is takes.0) in
              let P : List Entry → Type 0 = λ h. h ≡ take (length h) history in
              record {
                start = shows.start;
                within = subst (λ (h : List Entry). length h ≤ length history) same first.within;
                first = subst P same first.first;
              }

      -- so the frame is judged by the bytes that show it
      pub unstored_judged : (taken : Option ℕ) (result : Option Accepted) → ShowsAs false shown left taken
          → MatchOption result (taken ≡ None) (λ a. (a.replayed ≡ after) × (taken ≡ Some a.taken))
          → Judges c result
      unstored_judged =
          judged_by c false shown after
          (λ e rest answers. (isnt_stored e rest answers, shows_it e rest answers)) accepts
