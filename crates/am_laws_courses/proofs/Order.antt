-- Only the head of a queue has a delivery, and the numbers of broadcasts are apart, whatever is done with broadcasts.
use Rattle.std.proofs.Common.{◌≡◌, ℕ, ◌+◌, Bool, true, false, not, cond, List, [], ◌∷◌, ◌++◌, length, map, refl, sym, ap, ◌∙◌, subst, append_assoc}
use Rattle.std.specs.Prelude.{All, Option, Some, None, ◌==◌}
use Rattle.std.proofs.lemmas.List.{map-append, append-nil}
use Rattle.std.proofs.lemmas.List.Elements.{All-nil, All-head, All-tail, All-push, All-map, All-weaker}
use Rattle.am_types.specs.declared.broadcast.Spot.{Spot}
use Rattle.am_types.specs.declared.broadcast.Answer.{Answer}
use Rattle.am_types.specs.declared.broadcast.Ordered.{Ordered}
use Rattle.am_types.specs.declared.broadcast.Sending.{Sending}
use Rattle.am_model.proofs.Parts.{IsPart, leave, IsPart-whole}
use Rattle.am_model.specs.Broadcasts.{Broadcasts, InTurn, Current, Result, Doing, Late, Gone, Answered, no_broadcasts, span, outcome_of, result_of, dispatched, with_results, Settled, settled, queue_of, with_queue, settle, settle_both, is_over, turned, turn, is_late, late_head, expired_queue, expired}
use Rattle.am_model.specs.Sending as sending
use Rattle.am_model.specs.Sending.{in_turn, with_last, with_sent, is_current, answered_head, finished, strike_rest, strike_from, strike, unwanted, with_answered, with_unwanted, without_struck}
use Rattle.am_model.proofs.QueueLaws.{after_deadline}
use Rattle.am_laws_courses.proofs.Apart.{part_made, Apart, apart_part, apart_turned, apart_ended, apart_more, apart_raised}

-- the numbers of a queue, and of the broadcasts of results
abbrev pub numbers : List InTurn → List ℕ
numbers queue = map (λ (b : InTurn). b.number) queue

abbrev pub results_of : List Result → List ℕ
results_of results = map (λ (r : Result). r.broadcast) results

-- only the head may have a delivery
abbrev pub OnlyHead : List InTurn → Type 0
OnlyHead [] = Unit {0}
OnlyHead (head ∷ others) = All (λ (b : InTurn). b.current ≡ None) others

-- the queues are in order
pub record AreInOrder (all : Broadcasts) : Type 0 where
  pub apart : Apart (numbers all.foreground) (numbers all.background) (results_of all.results) all.next_broadcast
  pub foreground : OnlyHead all.foreground
  pub background : OnlyHead all.background

-- no broadcast
pub none_in_order : AreInOrder no_broadcasts
none_in_order = record {
  apart = record {
    one = tt;
    two = tt;
    first = All-nil (λ n. _);
    second = All-nil (λ n. _);
    left = All-nil (λ n. _);
  };
  foreground = tt;
  background = tt;
}

-- others without a delivery are no heads
only_others : (others : List InTurn) → All (λ (b : InTurn). b.current ≡ None) others → OnlyHead others
only_others [] all = tt
only_others (head ∷ others) all = All-tail (λ (b : InTurn). b.current ≡ None) head others all

-- a queue that settles
settled_only : (next deadline : ℕ) (queue : List InTurn) → OnlyHead queue → OnlyHead (settled next deadline queue).queue
settled_only next deadline [] only = tt
settled_only next deadline (head ∷ others) only = by (is_over head)
    (settled_only (next + length (result_of next head)) deadline others (only_others others only))
  where
    given : (current : Option Current) → OnlyHead (dispatched next deadline head others current).queue
    given (Some current) = only
    given None = only

    by : (over : Bool) → OnlyHead (settled (next + length (result_of next head)) deadline others).queue
        → OnlyHead (cond over (with_results (result_of next head) (settled (next + length (result_of next head))
        deadline others)) (dispatched next deadline head others head.current)).queue
    by true rest = rest
    by false rest = given head.current

settled_apart : (next deadline : ℕ) (queue : List InTurn) (B R : List ℕ) (free : ℕ) → Apart (numbers queue) B R free
    → Apart (numbers (settled next deadline queue).queue) B (R ++ results_of (settled next deadline queue).results) free
settled_apart next deadline [] B R free all = subst (λ (l : List ℕ). Apart [] B l free) (sym (append-nil R)) all
settled_apart next deadline (head ∷ others) B R free all =
    by (is_over head) (settled_apart (next + length left) deadline others B (R ++ results_of left) free
    (ended head.wanted))
  where
    one : Result
    one = record { delivery = next; broadcast = head.number; sender = head.sender; outcome = outcome_of head }

    left : List Result
    left = result_of next head

    same : Apart (numbers (head ∷ others)) B (R ++ []) free
    same = subst (λ (l : List ℕ). Apart (numbers (head ∷ others)) B l free) (sym (append-nil R)) all

    ended : (wanted : Bool) → Apart (numbers others) B (R ++ results_of (cond wanted (one ∷ []) [])) free
    ended true = apart_ended head.number (numbers others) B R free all
    ended false = subst (λ (l : List ℕ). Apart (numbers others) B l free) (sym (append-nil R))
        (apart_part (numbers (head ∷ others)) B R (numbers others) B R free (leave_first (numbers others))
        (IsPart-whole B) (IsPart-whole R) all)
      where
        leave_first : (ns : List ℕ) → IsPart ns (head.number ∷ ns)
        leave_first ns = leave (IsPart-whole ns)

    given : (current : Option Current) → Apart (numbers (dispatched next deadline head others current).queue) B
        (R ++ results_of (dispatched next deadline head others current).results) free
    given (Some current) = same
    given None = same

    after : Settled
    after = settled (next + length left) deadline others

    by : (over : Bool) → Apart (numbers after.queue) B ((R ++ results_of left) ++ results_of after.results) free
        → Apart (numbers (cond over (with_results left after) (dispatched next deadline head others
        head.current)).queue) B
        (R ++ results_of (cond over (with_results left after) (dispatched next deadline head others
        head.current)).results) free
    by true rest =
        subst (λ (l : List ℕ). Apart (numbers after.queue) B l free)
        (append_assoc R (results_of left) (results_of after.results)
        ∙ ap (λ (l : List ℕ). R ++ l) (sym (map-append (λ (r : Result). r.broadcast) left after.results))) rest
    by false rest = given head.current

settle_order : (foreground : Bool) (now : ℕ) (all : Broadcasts) → AreInOrder all
    → AreInOrder (settle foreground now all)
settle_order true now all order =
    let after = settled all.next_delivery (now + span true) all.foreground in
    record {
      apart = subst (λ (l : List ℕ). Apart (numbers after.queue) (numbers all.background) l all.next_broadcast)
          (sym (map-append (λ (r : Result). r.broadcast) all.results after.results))
          (settled_apart all.next_delivery (now + span true) all.foreground (numbers all.background)
          (results_of all.results) all.next_broadcast order.apart);
      foreground = settled_only all.next_delivery (now + span true) all.foreground order.foreground;
      background = order.background;
    }
settle_order false now all order =
    let after = settled all.next_delivery (now + span false) all.background in
    record {
      apart = subst (λ (l : List ℕ). Apart (numbers all.foreground) (numbers after.queue) l all.next_broadcast)
          (sym (map-append (λ (r : Result). r.broadcast) all.results after.results))
          (apart_turned (numbers after.queue) (numbers all.foreground)
          (results_of all.results ++ results_of after.results) all.next_broadcast
          (settled_apart all.next_delivery (now + span false) all.background (numbers all.foreground)
          (results_of all.results) all.next_broadcast
          (apart_turned (numbers all.foreground) (numbers all.background) (results_of all.results) all.next_broadcast
          order.apart)));
      foreground = order.foreground;
      background = settled_only all.next_delivery (now + span false) all.background order.background;
    }

pub both_order : (now : ℕ) (all : Broadcasts) → AreInOrder all → AreInOrder (settle_both now all)
both_order now all order = settle_order false now (settle true now all) (settle_order true now all order)

-- a change of a broadcast that keeps its number, and gives it no delivery
pub record Keeps (f : InTurn → InTurn) : Type 0 where
  pub number : (b : InTurn) → (f b).number ≡ b.number
  pub none : (b : InTurn) → b.current ≡ None → (f b).current ≡ None

kept_numbers : (f : InTurn → InTurn) → Keeps f → (queue : List InTurn) → numbers (map f queue) ≡ numbers queue
kept_numbers f keeps [] = refl
kept_numbers f keeps (b ∷ others) = ap (λ (n : ℕ). n ∷ numbers (map f others)) (keeps.number b)
    ∙ ap (λ (l : List ℕ). b.number ∷ l) (kept_numbers f keeps others)

kept_only : (f : InTurn → InTurn) → Keeps f → (queue : List InTurn) → OnlyHead queue → OnlyHead (map f queue)
kept_only f keeps [] only = tt
kept_only f keeps (head ∷ others) only =
    All-map (λ (b : InTurn). b.current ≡ None) f others (All-weaker (λ (b : InTurn). b.current ≡ None)
    (λ (b : InTurn). (f b).current ≡ None) keeps.none others only)

-- the queues are changed so, and some results go
pub kept_order : (f g : InTurn → InTurn) → Keeps f → Keeps g → (all left : Broadcasts) → left.foreground
    ≡ map f all.foreground → left.background ≡ map g all.background
    → IsPart (results_of left.results) (results_of all.results) → left.next_broadcast ≡ all.next_broadcast
    → AreInOrder all → AreInOrder left
kept_order f g keeps holds all left front back part next order = record {
  apart = subst (λ (n : ℕ). Apart (numbers left.foreground) (numbers left.background) (results_of left.results) n)
      (sym next)
      (subst (λ (l : List InTurn). Apart (numbers l) (numbers left.background) (results_of left.results)
      all.next_broadcast) (sym front)
      (subst (λ (l : List InTurn). Apart (numbers (map f all.foreground)) (numbers l) (results_of left.results)
      all.next_broadcast) (sym back)
      (subst (λ (l : List ℕ). Apart l (numbers (map g all.background)) (results_of left.results) all.next_broadcast)
      (sym (kept_numbers f keeps all.foreground))
      (subst (λ (l : List ℕ). Apart (numbers all.foreground) l (results_of left.results) all.next_broadcast)
      (sym (kept_numbers g holds all.background))
      (apart_part (numbers all.foreground) (numbers all.background) (results_of all.results) (numbers all.foreground)
      (numbers all.background) (results_of left.results) all.next_broadcast
      (IsPart-whole (numbers all.foreground)) (IsPart-whole (numbers all.background)) part order.apart)))));
  foreground = subst OnlyHead (sym front) (kept_only f keeps all.foreground order.foreground);
  background = subst OnlyHead (sym back) (kept_only g holds all.background order.background);
}

-- nothing is changed
pub keeps_all : Keeps (λ b. b)
keeps_all = record { number = λ b. refl; none = λ b is. is }

pub map_all : (queue : List InTurn) → map (λ b. b) queue ≡ queue
map_all [] = refl
map_all (b ∷ others) = ap (λ (l : List InTurn). b ∷ l) (map_all others)

-- a broadcast whose delivery passes a test has its turn
abbrev pub turning : (Option Current → Bool) → Doing → InTurn → InTurn
turning test doing b = cond (test b.current) (turn doing b) b

keeps_turning : (test : Option Current → Bool) (doing : Doing) → Keeps (turning test doing)
keeps_turning test doing = record { number = λ b. number b (test b.current); none = λ b is. none b is (test b.current) }
  where
    number : (b : InTurn) (passes : Bool) → (cond passes (turn doing b) b).number ≡ b.number
    number b true = by b.rest
      where
        by : (rest : List Spot) → (turned doing b rest).number ≡ b.number
        by [] = refl
        by (spot ∷ rest) = refl
    number b false = refl

    none : (b : InTurn) → b.current ≡ None → (passes : Bool) → (cond passes (turn doing b) b).current ≡ None
    none b is true = by b.rest
      where
        by : (rest : List Spot) → (turned doing b rest).current ≡ None
        by [] = refl
        by (spot ∷ rest) = refl
    none b is false = is

-- with a test that fails without a delivery, the others don't turn
others_stay : (test : Option Current → Bool) (doing : Doing) → test None ≡ false → (others : List InTurn)
    → All (λ (b : InTurn). b.current ≡ None) others
    → map (turning test doing) others ≡ others
others_stay test doing fails [] all = refl
others_stay test doing fails (b ∷ others) all =
    let first : test b.current ≡ false = ap test (All-head (λ (b : InTurn). b.current ≡ None) b others all) ∙ fails in
    ap (λ (passes : Bool). cond passes (turn doing b) b ∷ map (turning test doing) others) first
    ∙ ap (λ (l : List InTurn). b ∷ l) (others_stay test doing fails others
    (All-tail (λ (b : InTurn). b.current ≡ None) b others all))

-- so if the head turns, it turns among all
head_turns : (test : Option Current → Bool) (doing : Doing) → test None ≡ false → (head : InTurn) (others : List InTurn)
    → OnlyHead (head ∷ others) → cond (test head.current) (turn doing head ∷ others) (head ∷ others)
    ≡ map (turning test doing) (head ∷ others)
head_turns test doing fails head others only =
    by (test head.current) ∙ ap (λ (l : List InTurn). turning test doing head ∷ l)
    (sym (others_stay test doing fails others only))
  where
    by : (b : Bool) → cond b (turn doing head ∷ others) (head ∷ others) ≡ cond b (turn doing head) head ∷ others
    by true = refl
    by false = refl

-- a late head, or one that is answered, is a turn where that is due
pub late_turns : (now : ℕ) (queue : List InTurn) → OnlyHead queue → late_head now queue
    ≡ map (turning (is_late now) Late) queue
late_turns now [] only = refl
late_turns now (head ∷ others) only = head_turns (is_late now) Late refl head others only

pub answer_turns : (number : ℕ) (doing : Doing) (queue : List InTurn) → OnlyHead queue
    → answered_head number doing queue ≡ map (turning (is_current number) doing) queue
answer_turns number doing [] only = refl
answer_turns number doing (head ∷ others) only = head_turns (is_current number) doing refl head others only

-- the passing of time
expired_queue_order : (foreground : Bool) (now : ℕ) (all : Broadcasts) → AreInOrder all
    → AreInOrder (expired_queue foreground now all)
expired_queue_order foreground now all order = after_deadline AreInOrder foreground now all
    (settle_order foreground now (with_queue foreground (late_head now (queue_of foreground all)) all)
    (late foreground)) order
  where
    late : (b : Bool) → AreInOrder (with_queue b (late_head now (queue_of b all)) all)
    late true = kept_order (turning (is_late now) Late) (λ b. b) (keeps_turning (is_late now) Late) keeps_all all
        (record all { foreground = late_head now all.foreground })
        (late_turns now all.foreground order.foreground) (sym (map_all all.background))
        (IsPart-whole (results_of all.results)) refl order
    late false = kept_order (λ b. b) (turning (is_late now) Late) keeps_all (keeps_turning (is_late now) Late) all
        (record all { background = late_head now all.background })
        (sym (map_all all.foreground)) (late_turns now all.background order.background)
        (IsPart-whole (results_of all.results)) refl order

pub expired_order : (all : Broadcasts) (now : ℕ) → AreInOrder all → AreInOrder (expired all now)
expired_order all now order =
    let after = expired_queue_order false now (expired_queue true now all) (expired_queue_order true now all order) in
    record { apart = after.apart; foreground = after.foreground; background = after.background }

-- a delivery that is finished
pub finished_order : (all : Broadcasts) (number : ℕ) (answer : Answer) (now : ℕ) → AreInOrder all
    → AreInOrder (finished all number answer now)
finished_order all number answer now order = both_order now (with_answered all number answer)
    (kept_order (turning (is_current number) (Answered answer)) (turning (is_current number) (Answered answer))
    (keeps_turning (is_current number) (Answered answer))
    (keeps_turning (is_current number) (Answered answer)) all (with_answered all number answer)
    (answer_turns number (Answered answer) all.foreground order.foreground)
    (answer_turns number (Answered answer) all.background order.background)
    (part_made (λ (r : Result). r.broadcast) (λ (r : Result). not (r.delivery == number)) all.results) refl order)

-- receivers that are struck
keeps_strike : (struck : Spot → Bool) → Keeps (strike struck)
keeps_strike struck = record {
  number = λ b. number b b.rest b.current;
  none = λ b is. ap
      (λ (o : Option Current). (strike_from struck b b.rest o).current) is ∙ is;
}
  where
    gone : (b : InTurn) (rest : List Spot) → (strike_rest struck (turned Gone b rest)).number ≡ b.number
    gone b [] = refl
    gone b (spot ∷ rest) = refl

    number : (b : InTurn) (rest : List Spot) (current : Option Current) → (strike_from struck b rest current).number
        ≡ b.number
    number b rest None = refl
    number b [] (Some current) = refl
    number b (spot ∷ rest) (Some current) = by (struck spot)
      where
        by : (test : Bool) → (cond test (strike_rest struck (turn Gone b)) (strike_rest struck b)).number ≡ b.number
        by true = gone b b.rest
        by false = refl

pub forget_order : (all : Broadcasts) (struck : Spot → Bool) (now : ℕ) → AreInOrder all
    → AreInOrder (sending.forget all struck now)
forget_order all struck now order = both_order now (without_struck all struck)
    (kept_order (strike struck) (strike struck) (keeps_strike struck) (keeps_strike struck) all
    (without_struck all struck) refl refl (IsPart-whole (results_of all.results)) refl order)

-- a sender that wants no result any more
keeps_unwanted : (uid : ℕ) → Keeps (unwanted uid)
keeps_unwanted uid = record { number = λ b. number b (b.sender == uid); none = λ b is. none b is (b.sender == uid) }
  where
    number : (b : InTurn) (same : Bool) → (cond same (record b { wanted = false }) b).number ≡ b.number
    number b true = refl
    number b false = refl

    none : (b : InTurn) → b.current ≡ None → (same : Bool) → (cond same (record b { wanted = false }) b).current ≡ None
    none b is true = is
    none b is false = is

pub forget_uid_order : (all : Broadcasts) (uid now : ℕ) → AreInOrder all → AreInOrder (sending.forget_uid all uid now)
forget_uid_order all uid now order = forget_order (with_unwanted all uid) (λ (spot : Spot). spot.uid == uid) now
    (kept_order (unwanted uid) (unwanted uid) (keeps_unwanted uid) (keeps_unwanted uid) all (with_unwanted all uid) refl
    refl
    (part_made (λ (r : Result). r.broadcast) (λ (r : Result). not (r.sender == uid)) all.results) refl order)

-- one more broadcast
push_only : (queue : List InTurn) (b : InTurn) → b.current ≡ None → OnlyHead queue → OnlyHead (queue ++ b ∷ [])
push_only [] b none only = All-nil (λ (b : InTurn). b.current ≡ None)
push_only (head ∷ others) b none only = All-push (λ (b : InTurn). b.current ≡ None) others b only none

pub sent_order : (all : Broadcasts) (sent : Sending) (ordered : Option Ordered) → AreInOrder all
    → AreInOrder (with_sent all sent ordered)
sent_order all sent None order = record {
  apart = apart_raised (numbers all.foreground) (numbers all.background) (results_of all.results) all.next_broadcast
      order.apart;
  foreground = order.foreground;
  background = order.background;
}
sent_order all sent (Some ordered) order = settle_order sent.foreground sent.now (with_last sent.foreground one all)
    (by sent.foreground)
  where
    one : InTurn
    one = in_turn all.next_broadcast sent ordered

    by : (b : Bool) → AreInOrder (with_last b one all)
    by true = record {
      apart = subst (λ (l : List ℕ). Apart l (numbers all.background) (results_of all.results) (all.next_broadcast + 1))
          (sym (map-append (λ (b : InTurn). b.number) all.foreground (one ∷ [])))
          (apart_more (numbers all.foreground) (numbers all.background) (results_of all.results) all.next_broadcast
          order.apart);
      foreground = push_only all.foreground one refl order.foreground;
      background = order.background;
    }
    by false = record {
      apart = subst (λ (l : List ℕ). Apart (numbers all.foreground) l (results_of all.results) (all.next_broadcast + 1))
          (sym (map-append (λ (b : InTurn). b.number) all.background (one ∷ [])))
          (apart_turned (numbers all.background ++ all.next_broadcast ∷ []) (numbers all.foreground)
          (results_of all.results) (all.next_broadcast + 1)
          (apart_more (numbers all.background) (numbers all.foreground) (results_of all.results) all.next_broadcast
          (apart_turned (numbers all.foreground) (numbers all.background) (results_of all.results) all.next_broadcast
          order.apart)));
      foreground = order.foreground;
      background = push_only all.background one refl order.background;
    }
