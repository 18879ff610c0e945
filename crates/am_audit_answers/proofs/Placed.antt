-- The exchanges of a frame that makes a request, where the bytes say one place of a call.
use Rattle.std.proofs.Common.{◌≡◌, ℕ, ◌<◌, ◌≤◌, ◌^◌, Bool, true, false, ◌&&◌, cond, List, ◌++◌, length, take, drop, refl, sym, ap, ◌∙◌, subst, inl, inr, arith}
use Rattle.std.specs.Prelude.{Option, Some, None, Result, Ok, Err, MatchOption, is_some}
use Rattle.std.proofs.lemmas.List.{take-append-drop}
use Rattle.am_types.specs.declared.history.Entry.{Entry}
use Rattle.am_types.specs.declared.history.Shown.{Shown}
use Rattle.am_types.specs.declared.reply.Reply.TheVariants.{Refused}
use Rattle.am_types.specs.declared.request.Request.{Request}
use Rattle.am_types.specs.declared.rule.Rule.TheVariants.{HistoryFull}
use Rattle.am_history.specs.State.{State, uid_of}
use Rattle.am_history.specs.Steps.{Call, act, step}
use Rattle.am_history.specs.History.{entry_of, has_room, is_stored, may_change, replay, reply_after, reply_to}
use Rattle.am_http.specs.declared.answer.Refusal.{Refusal}
use Rattle.am_http.specs.Exchanges.{Exchange, IsAnswer, IsCalled, IsMarked, Point, by_late_no_memory, by_refusal, by_reply, by_no_memory, floor_after, reply_of}
use Rattle.am_frames.specs.Head.{Frame}
use Rattle.am_http.specs.Requests.{call_of, request_of}
use Rattle.am_http.specs.Responses.{response, no_memory_at, no_memory_before}
use Rattle.am_audit_history.specs.Replays.{Replay}
use Rattle.am_audit_answers.specs.declared.judging.Accepted.{Accepted}
use Rattle.am_audit_answers.specs.Audits.{IsAudited}
use Rattle.am_audit_answers.specs.Judged.{IsAccepted, IsShownBy, Judges, ShowsAs}
use Rattle.am_audit_answers.specs.Judging.{Answers, Case, OnlyRunsOut}
use Rattle.am_audit_answers.specs.Marks.{HasMark, SaysOnly}
use Rattle.am_audit_answers.specs.Matching.{IsReplayed}
use Rattle.am_audit_answers.proofs.TextLemmas.{response_marked, no_memory_at_marked, no_memory_before_unmarked}

-- what is shown of a call at a point of the history
abbrev pub shown_at : State → List Entry → Point → Call → Bool → Shown
shown_at start history point call kept =
    record { at = point.at; stored = point.stored; reply = reply_after start (take point.at history) call kept }

-- the exchange shows the call of a request at that point, on some desk
pub record IsPlaced (c : Case) (request : Request) (point : Point) (e : Exchange) : Type 0 where
  pub desk : ℕ
  pub now : ℕ
  pub kept : Bool
  pub asked : e.now ≡ Some now
  pub placed : e.point ≡ Some point
  pub marked : IsMarked c.ground.start c.ground.history (call_of desk c.frame now request) kept point
  pub shows : IsShownBy (shown_at c.ground.start c.ground.history point (call_of desk c.frame now request) kept) e.bytes

-- points that agree are one
point_is : (one other : Point) → (one.at ≡ other.at) × (one.stored ≡ other.stored) → one ≡ other
point_is one other same = λ i. record { at = same.0 i; stored = same.1 i }

ok_is : {A B : Type 0} {x y : A} → ◌≡◌ {A = Result A B} (Ok x) (Ok y) → x ≡ y
ok_is e = cc

-- one request is made
no_refusal : (read : Result Request Refusal) (request : Request) (refused : Refusal) → read ≡ Ok request → read
    ≡ Err refused → ⊥
no_refusal read request refused asks refuses = absurd cc

-- a call of the frame that is shown at the point
placed_by : (c : Case) (request : Request) (point : Point) (desk : ℕ) (e : Exchange) → request_of c.frame ≡ Ok request
    → e.frame ≡ c.frame
    → (called : IsCalled c.ground.start desk c.ground.history e) → (called.point.at ≡ point.at)
    × (called.point.stored ≡ point.stored)
    → IsShownBy (shown_at c.ground.start c.ground.history called.point (call_of desk e.frame called.now called.request)
    called.kept) e.bytes
    → IsPlaced c request point e
placed_by c request point desk e asks frame called same shows =
    let start : State = c.ground.start in
    let history : List Entry = c.ground.history in
    let is : called.point ≡ point = point_is called.point point same in
    let read : called.request ≡ request = ok_is (sym called.asks ∙ (ap request_of frame ∙ asks)) in
    let call : call_of desk e.frame called.now called.request ≡ call_of desk c.frame called.now request =
    λ i. call_of desk (frame i) called.now (read i) in
    record {
      desk = desk;
      now = called.now;
      kept = called.kept;
      asked = called.asked;
      placed = called.placed ∙ ap (λ (p : Point). Some p) is;
      marked = subst (λ (p : Point). IsMarked start history (call_of desk c.frame called.now request) called.kept p) is
          (subst (λ (l : Call). IsMarked start history l called.kept called.point) call called.marked);
      shows = subst (λ (p : Point). IsShownBy (shown_at start history p (call_of desk c.frame called.now request)
          called.kept) e.bytes) is
          (subst (λ (l : Call). IsShownBy (shown_at start history called.point l called.kept) e.bytes) call shows);
    }

-- each exchange of the frame shows its call at the place that the bytes say
pub each_placed : (c : Case) (request : Request) (point : Point) → request_of c.frame ≡ Ok request
    → SaysOnly c.left point.at point.stored
    → length c.ground.history < 2 ^ 64 → length c.left < 2 ^ 64
    → (e : Exchange) (rest : List ℕ) → Answers c e rest → IsPlaced c request point e
each_placed c request point asks says short few e rest answers = by answers.audited.answer
  where
    begins : (text : List ℕ) → e.bytes ≡ text → c.left ≡ text ++ rest
    begins text is = answers.bytes ∙ ap (λ (l : List ℕ). l ++ rest) is

    desk : ℕ
    desk = answers.audited.desk

    by : IsAnswer c.ground.start desk c.ground.history e → IsPlaced c request point e
    by (by_refusal refused refuses none point_none is) =
        absurd (no_refusal (request_of c.frame) request refused asks (ap request_of (sym answers.frame) ∙ refuses))
    by (by_reply called is) =
        let reply = reply_of c.ground.start desk c.ground.history e called in
        let has : HasMark c.left called.point.at called.point.stored =
        response_marked called.point.at called.point.stored reply rest c.left (omega (arith, called.marked.within)) few
        (begins (response called.point.at called.point.stored reply) is) in
        placed_by c request point desk e asks answers.frame called (says.place called.point.at called.point.stored has)
        (inl is)
    by (by_no_memory none is) = absurd (says.made (no_memory_before_unmarked rest c.left few (begins no_memory_before is)))
    by (by_late_no_memory called is) =
        let has : HasMark c.left called.point.at called.point.stored =
        no_memory_at_marked called.point.at called.point.stored rest c.left (omega (arith, called.marked.within)) few
        (begins (no_memory_at called.point.at called.point.stored) is) in
        placed_by c request point desk e asks answers.frame called (says.place called.point.at called.point.stored has)
        (inr is)

-- if the bytes say no place, memory ran out before the call
pub unmarked_wants : (c : Case) (request : Request) → request_of c.frame ≡ Ok request
    → ((at : ℕ) (stored : Bool) → HasMark c.left at stored → ⊥)
    → length c.ground.history < 2 ^ 64 → length c.left < 2 ^ 64 → OnlyRunsOut c
unmarked_wants c request asks none short few e rest answers = by answers.audited.answer
  where
    begins : (text : List ℕ) → e.bytes ≡ text → c.left ≡ text ++ rest
    begins text is = answers.bytes ∙ ap (λ (l : List ℕ). l ++ rest) is

    desk : ℕ
    desk = answers.audited.desk

    by : IsAnswer c.ground.start desk c.ground.history e → (e.point ≡ None) × (e.bytes ≡ no_memory_before)
    by (by_refusal refused refuses never point_none is) =
        absurd (no_refusal (request_of c.frame) request refused asks (ap request_of (sym answers.frame) ∙ refuses))
    by (by_reply called is) =
        let reply = reply_of c.ground.start desk c.ground.history e called in
        absurd (none called.point.at called.point.stored
        (response_marked called.point.at called.point.stored reply rest c.left (omega (arith, called.marked.within)) few
        (begins (response called.point.at called.point.stored reply) is)))
    by (by_no_memory point_none is) = (point_none, is)
    by (by_late_no_memory called is) =
        absurd (none called.point.at called.point.stored
        (no_memory_at_marked called.point.at called.point.stored rest c.left (omega (arith, called.marked.within)) few
        (begins (no_memory_at called.point.at called.point.stored) is)))

-- the exchange that shows the frame's call at the point by so many bytes
abbrev pub exchange_at : Case → Point → Option ℕ → ℕ → Exchange
exchange_at c point now taken = record { frame = c.frame; now = now; point = Some point; bytes = take taken c.left }

-- a frame is accepted by those bytes, if each of its exchanges has the point and leads on as they do
pub accepted_at : (c : Case) (point : Point) (accepted : Accepted) (now : Option ℕ) → c.floor ≤ point.at
    → accepted.taken ≤ length c.left
    → IsAudited c.ground (exchange_at c point now accepted.taken)
    → ((e : Exchange) (rest : List ℕ) → Answers c e rest
    → (e.point ≡ Some point) × (rest ≡ drop accepted.taken c.left))
    → floor_after c.floor (Some point) ≡ length accepted.replayed.history
    → accepted.replayed.start ≡ c.ground.start → IsReplayed c.ground accepted.replayed
    → IsAccepted c accepted
accepted_at c point accepted now low fits audited only floor start replayed = record {
  accepts = record {
    exchange = exchange_at c point now accepted.taken;
    answers = record {
      frame = refl;
      audited = audited;
      above = low;
      bytes = sym (take-append-drop accepted.taken c.left);
    };
    floor = floor;
    only = λ e rest answers.
        let is = only e rest answers in
        (is.1, ap (λ (o : Option Point). floor_after c.floor o) is.0 ∙ floor);
  };
  taken = fits;
  start = start;
  replayed = replayed;
}

-- a call that is shown is an answer
answer_by : (start : State) (desk : ℕ) (history : List Entry) (e : Exchange)
    (called : IsCalled start desk history e)
    → IsShownBy (shown_at start history called.point (call_of desk e.frame called.now called.request) called.kept)
    e.bytes
    → IsAnswer start desk history e
answer_by start desk history e called (inl is) = by_reply called is
answer_by start desk history e called (inr is) = by_late_no_memory called is

-- a call at a moment that so many bytes show, and whose row is kept if it has one
pub answer_at : (c : Case) (request : Request) (point : Point) (desk now taken : ℕ) → request_of c.frame ≡ Ok request
    → IsMarked c.ground.start c.ground.history (call_of desk c.frame now request) true point
    → IsShownBy (shown_at c.ground.start c.ground.history point (call_of desk c.frame now request) true)
    (take taken c.left)
    → IsAnswer c.ground.start desk c.ground.history (exchange_at c point (Some now) taken)
answer_at c request point desk now taken asks marked =
    answer_by c.ground.start desk c.ground.history (exchange_at c point (Some now) taken) (record {
      request = request;
      asks = asks;
      now = now;
      asked = refl;
      kept = true;
      point = point;
      placed = refl;
      marked = marked;
    })

-- a frame each of whose exchanges shows this is judged by the bytes that show it, if any do
pub judged_by : (c : Case) (stored : Bool) (shown : Shown) (after : Replay)
    → ((e : Exchange) (rest : List ℕ) → Answers c e rest
    → (shown.stored ≡ stored) × IsShownBy shown e.bytes)
    → ((taken : ℕ) → ShowsAs stored shown c.left (Some taken) → IsAccepted c (record { replayed = after; taken = taken }))
    → (taken : Option ℕ) (result : Option Accepted) → ShowsAs stored shown c.left taken
    → MatchOption result (taken ≡ None) (λ a. (a.replayed ≡ after) × (taken ≡ Some a.taken))
    → Judges c result
judged_by c stored shown after each accepts taken None shows is = λ e rest answers.
    let there = each e rest answers in
    subst (ShowsAs stored shown c.left) is shows there.0 e.bytes rest there.1 answers.bytes
judged_by c stored shown after each accepts taken (Some a) shows is =
    let same : record { replayed = after; taken = a.taken } ≡ a = λ i. record { replayed = sym is.0 i; taken = a.taken } in
    subst (IsAccepted c) same
    (accepts a.taken (subst (ShowsAs stored shown c.left) is.1 shows))

-- a call that isn't stored is answered the same on each desk, kept or not
pub unstored_reply : (start : State) (history : List Entry) (frame : Frame) (now : ℕ) (request : Request)
    (desk other : ℕ) (kept : Bool)
    → is_stored (replay start history) history (call_of desk frame now request) ≡ false
    → reply_after start history (call_of desk frame now request) kept
    ≡ reply_after start history (call_of other frame now request) true
unstored_reply start history frame now request desk other kept is = by (uid_of state frame.key) is
  where
    state : State
    state = replay start history

    tests : (uid : ℕ) (may room : Bool) → true && may && room ≡ false
        → cond may (cond room (step state history (entry_of (call_of desk frame now request) uid kept)).0
        (Refused HistoryFull)) (act state history uid request).0
        ≡ cond may (cond room (step state history (entry_of (call_of other frame now request) uid true)).0
        (Refused HistoryFull)) (act state history uid request).0
    tests uid true true is = absurd cc
    tests uid true false is = refl
    tests uid false room is = refl

    by : (uid : Option ℕ) → is_some uid && may_change state now request && has_room history (length frame.body) ≡ false
        → reply_to state history (call_of desk frame now request) kept uid
        ≡ reply_to state history (call_of other frame now request) true uid
    by None is = refl
    by (Some uid) is = tests uid (may_change state now request) (has_room history (length frame.body)) is
