-- What holds of each ordered broadcast and of each result holds when queues settle, and what follows a change of each
-- holds
-- when time passes, when a delivery is finished, when receivers are forgotten and when a broadcast is sent.
use Rattle.std.proofs.Common.{◌≡◌, ℕ, ◌+◌, Bool, true, false, not, cond, List, [], ◌∷◌, length, map, refl, sym, ap, subst}
use Rattle.std.specs.Prelude.{All, Option, Some, None, ◌==◌}
use Rattle.std.proofs.lemmas.List.Elements.{All-nil, All-cons, All-head, All-tail, All-push, All-append, All-map, All-filter, All-weaker}
use Rattle.am_types.specs.declared.broadcast.Spot.{Spot}
use Rattle.am_types.specs.declared.broadcast.Answer.{Answer}
use Rattle.am_types.specs.declared.broadcast.Ordered.{Ordered}
use Rattle.am_types.specs.declared.broadcast.Sending.{Sending}
use Rattle.am_model.specs.Broadcasts.{Broadcasts, InTurn, Current, Result, Late, Answered, span, outcome_of, result_of, dispatched, with_results, Settled, settled, queue_of, with_queue, settle, settle_both, is_over, turn, is_late, late_head, is_head_due, expired_queue, expired}
use Rattle.am_model.specs.Sending as sending
use Rattle.am_model.specs.Sending.{in_turn, with_last, with_sent, is_current, finished, strike, unwanted, with_answered, with_unwanted, without_struck}
use Rattle.am_model.proofs.QueueLaws.{after_deadline}
use Rattle.am_laws_courses.specs.Fold.{OfCourses}
use Rattle.am_laws_courses.proofs.Order.{OnlyHead, AreInOrder, turning, late_turns, answer_turns}

-- what follows
pub courses_follow : (C D : InTurn → Type 0) (R S : Result → Type 0) (all : Broadcasts) → ((b : InTurn) → C b → D b)
    → ((r : Result) → R r → S r)
    → OfCourses C R all → OfCourses D S all
courses_follow C D R S all turns results of = record {
  foreground = All-weaker C D turns all.foreground of.foreground;
  background = All-weaker C D turns all.background of.background;
  results = All-weaker R S results all.results of.results;
}

-- what holds of a broadcast without a delivery holds when it is given one, and of one that ends follows what holds of
-- its result
pub record Settling (C : InTurn → Type 0) (R : Result → Type 0) : Type 0 where
  pub gives : (b : InTurn) (current : Current) → b.current ≡ None → C b → C (record b { current = Some current })
  pub ends : (b : InTurn) (delivery : ℕ) → C b → is_over b ≡ true → b.wanted ≡ true
      → R (record { delivery = delivery; broadcast = b.number; sender = b.sender; outcome = outcome_of b })

module _ (C : InTurn → Type 0) (R : Result → Type 0) (settling : Settling C R) where
  -- a queue that settled
  record SettlesIn (after : Settled) : Type 0 where
    pub queue : All C after.queue
    pub results : All R after.results

  settled_in_course : (next deadline : ℕ) (queue : List InTurn) → All C queue → SettlesIn (settled next deadline queue)
  settled_in_course next deadline [] all = record { queue = all; results = All-nil R }
  settled_in_course next deadline (head ∷ others) all =
      by (is_over head) refl (settled_in_course (next + length left) deadline others (All-tail C head others all))
    where
      left : List Result
      left = result_of next head

      first : C head
      first = All-head C head others all

      ended : is_over head ≡ true → (wanted : Bool) → head.wanted ≡ wanted
          → All R (cond wanted (record {
            delivery = next;
            broadcast = head.number;
            sender = head.sender;
            outcome =
                outcome_of head;
          } ∷ []) [])
      ended over true wanted =
          All-cons R (record {
            delivery = next;
            broadcast = head.number;
            sender = head.sender;
            outcome = outcome_of head;
          }) [] (settling.ends head next first over wanted) (All-nil R)
      ended over false wanted = All-nil R

      given : (current : Option Current) → head.current ≡ current → SettlesIn
          (dispatched next deadline head others current)
      given (Some current) has = record { queue = all; results = All-nil R }
      given None has = record {
        queue = All-cons C (record head { current = Some (record { number = next; deadline = deadline }) }) others
            (settling.gives head (record { number = next; deadline = deadline }) has first)
            (All-tail C head others all);
        results = All-nil R;
      }

      by : (over : Bool) → is_over head ≡ over → SettlesIn (settled (next + length left) deadline others)
          → SettlesIn (cond over (with_results left (settled (next + length left) deadline others))
          (dispatched next deadline head others head.current))
      by true over rest = record {
        queue = rest.queue;
        results = All-append R left
            (settled (next + length left) deadline others).results (ended over head.wanted refl) rest.results;
      }
      by false over rest = given head.current refl

  -- one of the two queues settles, whatever holds of the other
  pub settle_foreground : (now : ℕ) (all : Broadcasts) → All C all.foreground → All R all.results
      → All C (settle true now all).foreground × All R (settle true now all).results
  settle_foreground now all front results =
      let after = settled_in_course all.next_delivery (now + span true) all.foreground front in
      (after.queue, All-append R all.results _ results after.results)

  pub settle_background : (now : ℕ) (all : Broadcasts) → All C all.background → All R all.results
      → All C (settle false now all).background × All R (settle false now all).results
  settle_background now all back results =
      let after = settled_in_course all.next_delivery (now + span false) all.background back in
      (after.queue, All-append R all.results _ results after.results)

  settle_courses : (foreground : Bool) (now : ℕ) (all : Broadcasts) → OfCourses C R all
      → OfCourses C R (settle foreground now all)
  settle_courses true now all of =
      let after = settle_foreground now all of.foreground of.results in record
      { foreground = after.0; background = of.background; results = after.1 }
  settle_courses false now all of =
      let after = settle_background now all of.background of.results in record
      { foreground = of.foreground; background = after.0; results = after.1 }

  pub both_courses : (now : ℕ) (all : Broadcasts) → OfCourses C R all → OfCourses C R (settle_both now all)
  both_courses now all of = settle_courses false now (settle true now all) (settle_courses true now all of)

  -- one more broadcast
  pub sent_courses : (all : Broadcasts) (sent : Sending) (ordered : Option Ordered)
      → ((o : Ordered) → ordered ≡ Some o → C (in_turn all.next_broadcast sent o))
      → OfCourses C R all → OfCourses C R (with_sent all sent ordered)
  sent_courses all sent None begun of = record {
    foreground = of.foreground;
    background = of.background;
    results =
        of.results;
  }
  sent_courses all sent (Some ordered) begun of =
      settle_courses sent.foreground sent.now (with_last sent.foreground one all) (by sent.foreground)
    where
      one : InTurn
      one = in_turn all.next_broadcast sent ordered

      by : (b : Bool) → OfCourses C R (with_last b one all)
      by true = record {
        foreground = All-push C all.foreground one of.foreground (begun ordered refl);
        background =
            of.background;
        results = of.results;
      }
      by false = record {
        foreground = of.foreground;
        background = All-push C all.background one of.background
            (begun ordered refl);
        results = of.results;
      }

-- a change of each broadcast of a queue
changed : (C D : InTurn → Type 0) (f : InTurn → InTurn) (queue left : List InTurn) → left ≡ map f queue
    → ((b : InTurn) → C b → D (f b)) → All C queue → All D left
changed C D f queue left is change all = subst (All D) (sym is) (All-map D f queue
    (All-weaker C (λ (b : InTurn). D (f b)) change queue all))

module _ (C D : InTurn → Type 0) (R : Result → Type 0) (settling : Settling D R) where
  -- the passing of time: each whose delivery is due passes its receiver over
  late_queue : (foreground : Bool) (now : ℕ) (all : Broadcasts) → OnlyHead (queue_of foreground all)
      → ((b : InTurn) → C b → D (turning (is_late now) Late b)) → All C (queue_of foreground all) → All R all.results
      → All D (queue_of foreground (expired_queue foreground now all))
      × All R (expired_queue foreground now all).results
  late_queue foreground now all only late queue results =
      by (is_head_due now (queue_of foreground all)) refl
      (passed foreground (changed C D (turning (is_late now) Late) (queue_of foreground all)
      (late_head now (queue_of foreground all)) (late_turns now (queue_of foreground all) only) late queue))
    where
      left : Broadcasts
      left = with_queue foreground (late_head now (queue_of foreground all)) all

      -- a queue whose head isn't due is as it was
      stays : (q : List InTurn) → is_head_due now q ≡ false → late_head now q ≡ q
      stays [] is = refl
      stays (head ∷ others) is = ap (λ (test : Bool). cond test (turn Late head ∷ others) (head ∷ others)) is

      passed : (b : Bool) → All D (late_head now (queue_of b all))
          → All D (late_head now (queue_of b all))
          × (All D (queue_of b (settle b now (with_queue b (late_head now (queue_of b all)) all)))
          × All R (settle b now (with_queue b (late_head now (queue_of b all)) all)).results)
      passed true after = (
        after,
        settle_foreground D R settling now
            (with_queue true (late_head now all.foreground) all) after results,
      )
      passed false after = (
        after,
        settle_background D R settling now
            (with_queue false (late_head now all.background) all) after results,
      )

      by : (due : Bool) → is_head_due now (queue_of foreground all) ≡ due
          → All D (late_head now (queue_of foreground all)) × (All D (queue_of foreground (settle foreground now left))
          × All R (settle foreground now left).results)
          → All D (queue_of foreground (cond due (settle foreground now left) all))
          × All R (cond due (settle foreground now left) all).results
      by true is after = after.1
      by false is after = (subst (All D) (stays (queue_of foreground all) is) after.0, results)

  -- the other queue is as it was
  background_stays : (now : ℕ) (all : Broadcasts) → (expired_queue true now all).background ≡ all.background
  background_stays now all = after_deadline (λ (after : Broadcasts). after.background ≡ all.background) true now all
      refl refl

  foreground_stays : (now : ℕ) (all : Broadcasts) → (expired_queue false now all).foreground ≡ all.foreground
  foreground_stays now all = after_deadline (λ (after : Broadcasts). after.foreground ≡ all.foreground) false now all
      refl refl

  pub expired_courses : (all : Broadcasts) (now : ℕ) → AreInOrder all
      → ((b : InTurn) → C b → D (turning (is_late now) Late b)) → OfCourses C R all → OfCourses D R (expired all now)
  expired_courses all now order late of =
      let front = late_queue true now all order.foreground late of.foreground of.results in
      let passed = expired_queue true now all in
      let back = late_queue false now passed (subst OnlyHead (sym (background_stays now all)) order.background) late
      (subst (All C) (sym (background_stays now all)) of.background) front.1 in
      record {
        foreground = subst (All D) (sym (foreground_stays now passed)) front.0;
        background = back.0;
        results =
            back.1;
      }

  -- a delivery that is finished
  pub finished_courses : (all : Broadcasts) (number : ℕ) (answer : Answer) (now : ℕ) → AreInOrder all
      → ((b : InTurn) → C b → D (turning (is_current number) (Answered answer) b)) → OfCourses C R all
      → OfCourses D R (finished all number answer now)
  finished_courses all number answer now order answers of = both_courses D R settling now
      (with_answered all number answer) (record {
        foreground = changed C D (turning (is_current number) (Answered answer)) all.foreground
            (with_answered all number answer).foreground (answer_turns number (Answered answer) all.foreground
            order.foreground)
            answers of.foreground;
        background = changed C D (turning (is_current number) (Answered answer)) all.background
            (with_answered all number answer).background (answer_turns number (Answered answer) all.background
            order.background)
            answers of.background;
        results = All-filter (λ (r : Result). not (r.delivery == number)) R all.results of.results;
      })

  -- receivers that are forgotten
  pub forget_courses : (all : Broadcasts) (struck : Spot → Bool) (now : ℕ) → ((b : InTurn) → C b → D (strike struck b))
      → OfCourses C R all
      → OfCourses D R (sending.forget all struck now)
  forget_courses all struck now strikes of = both_courses D R settling now (without_struck all struck) (record {
    foreground = changed C D (strike struck) all.foreground (without_struck all struck).foreground refl strikes
        of.foreground;
    background = changed C D (strike struck) all.background (without_struck all struck).background refl strikes
        of.background;
    results = of.results;
  })

  -- an app that is forgotten
  pub forget_uid_courses : (all : Broadcasts) (uid now : ℕ) → ((b : InTurn) → C b → C (unwanted uid b))
      → ((b : InTurn) → C b → D (strike (λ (spot : Spot). spot.uid == uid) b))
      → OfCourses C R all → OfCourses D R (sending.forget_uid all uid now)
  forget_uid_courses all uid now unwants strikes of = forget_courses (with_unwanted all uid)
      (λ (spot : Spot). spot.uid == uid) now strikes (record {
        foreground = changed C C (unwanted uid) all.foreground (map (unwanted uid) all.foreground) refl unwants
            of.foreground;
        background = changed C C (unwanted uid) all.background (map (unwanted uid) all.background) refl unwants
            of.background;
        results = All-filter (λ (r : Result). not (r.sender == uid)) R all.results of.results;
      })
