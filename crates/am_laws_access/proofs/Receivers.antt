-- What holds of each receiver of each broadcast holds of it whatever is done with broadcasts.
use Rattle.std.proofs.Common.{ℕ, ◌+◌, Bool, true, false, not, cond, List, [], ◌∷◌, ◌++◌, map}
use Rattle.std.specs.Prelude.{All, Option, Some, None, ◌==◌, length}
use Rattle.std.proofs.lemmas.List.Elements.{All-nil, All-cons, All-head, All-tail, All-push, All-map, All-filter, All-weaker}
use Rattle.am_types.specs.declared.intent.Intent.{Intent}
use Rattle.am_types.specs.declared.broadcast.Spot.{Spot}
use Rattle.am_types.specs.declared.broadcast.Answer.{Answer}
use Rattle.am_types.specs.declared.broadcast.Ordered.{Ordered}
use Rattle.am_types.specs.declared.broadcast.Sending.{Sending}
use Rattle.am_model.specs.Filters.{is_empty}
use Rattle.am_model.specs.Broadcasts.{Broadcasts, InTurn, Normal, Delivery, Current, Past, Doing, Late, Gone, Answered, no_broadcasts, span, result_of, dispatched, with_results, settled, queue_of, with_queue, settle, settle_both, is_over, turned, turn, is_late, late_head, expired_queue, is_delivery_due, keeping, normals_keeping, expired}
use Rattle.am_model.specs.Sending as sending
use Rattle.am_model.specs.Sending.{deliveries_from, at_once, in_turn, with_last, with_sent, answered_head, is_current, finished, strike_rest, strike_from, strike, unwanted, with_answered, with_unwanted, without_struck}
use Rattle.am_model.proofs.QueueLaws.{after_deadline}
use Rattle.am_laws.specs.Access.{OfTurn, OfNormal, OfEach}

module _ (B : ℕ → Intent → Spot → Type 0) where
  -- no broadcast
  pub of_none : OfEach B no_broadcasts
  of_none = record { normal = All-nil (OfNormal B); foreground = All-nil (OfTurn B); background = All-nil (OfTurn B) }

  -- a receiver's turn
  turned_of : (doing : Doing) (b : InTurn) (rest : List Spot) → All (λ (spot : Spot). B b.sender b.intent spot) rest
      → OfTurn B b → OfTurn B (turned doing b rest)
  turned_of doing b [] each of = record { past = of.past; rest = of.rest }
  turned_of doing b (spot ∷ rest) each of = record {
    past = All-push (λ (p : Past). B b.sender b.intent p.spot) b.past (record { spot = spot; doing = doing }) of.past
        (All-head (λ (s : Spot). B b.sender b.intent s) spot rest each);
    rest = All-tail (λ (s : Spot). B b.sender b.intent s) spot rest each;
  }

  turn_of : (doing : Doing) (b : InTurn) → OfTurn B b → OfTurn B (turn doing b)
  turn_of doing b of = turned_of doing b b.rest of.rest of

  -- the head of a queue may have its turn
  head_of : (test : Bool) (doing : Doing) (head : InTurn) (others : List InTurn) → All (OfTurn B) (head ∷ others)
      → All (OfTurn B) (cond test (turn doing head ∷ others) (head ∷ others))
  head_of true doing head others all =
      All-cons (OfTurn B) (turn doing head) others (turn_of doing head (All-head (OfTurn B) head others all))
      (All-tail (OfTurn B) head others all)
  head_of false doing head others all = all

  late_of : (now : ℕ) (queue : List InTurn) → All (OfTurn B) queue → All (OfTurn B) (late_head now queue)
  late_of now [] all = all
  late_of now (head ∷ others) all = head_of (is_late now head.current) Late head others all

  answered_of : (number : ℕ) (doing : Doing) (queue : List InTurn) → All (OfTurn B) queue
      → All (OfTurn B) (answered_head number doing queue)
  answered_of number doing [] all = all
  answered_of number doing (head ∷ others) all = head_of (is_current number head.current) doing head others all

  -- a queue settles
  dispatched_of : (next deadline : ℕ) (head : InTurn) (others : List InTurn) (current : Option Current)
      → All (OfTurn B) (head ∷ others)
      → All (OfTurn B) (dispatched next deadline head others current).queue
  dispatched_of next deadline head others (Some current) all = all
  dispatched_of next deadline head others None all =
      let of = All-head (OfTurn B) head others all in
      All-cons (OfTurn B) (record head { current = Some (record { number = next; deadline = deadline }) }) others
      (record { past = of.past; rest = of.rest }) (All-tail (OfTurn B) head others all)

  settled_of : (next deadline : ℕ) (queue : List InTurn) → All (OfTurn B) queue
      → All (OfTurn B) (settled next deadline queue).queue
  settled_of next deadline [] all = all
  settled_of next deadline (head ∷ others) all =
      by (is_over head) (settled_of (next + length (result_of next head)) deadline others
      (All-tail (OfTurn B) head others all))
    where
      by : (over : Bool) → All (OfTurn B) (settled (next + length (result_of next head)) deadline others).queue
          → All (OfTurn B) (cond over (with_results (result_of next head)
          (settled (next + length (result_of next head)) deadline others))
          (dispatched next deadline head others head.current)).queue
      by true rest = rest
      by false rest = dispatched_of next deadline head others head.current all

  settle_of : (foreground : Bool) (now : ℕ) (all : Broadcasts) → OfEach B all → OfEach B (settle foreground now all)
  settle_of true now all of = record {
    normal = of.normal;
    foreground = settled_of all.next_delivery (now + span true)
        all.foreground of.foreground;
    background = of.background;
  }
  settle_of false now all of = record {
    normal = of.normal;
    foreground = of.foreground;
    background = settled_of
        all.next_delivery (now + span false) all.background of.background;
  }

  both_of : (now : ℕ) (all : Broadcasts) → OfEach B all → OfEach B (settle_both now all)
  both_of now all of = settle_of false now (settle true now all) (settle_of true now all of)

  -- deliveries that are kept
  normals_of : (keeps : Delivery → Bool) (normal : List Normal) → All (OfNormal B) normal
      → All (OfNormal B) (normals_keeping keeps normal)
  normals_of keeps normal all =
      All-filter (λ (n : Normal). not (is_empty n.deliveries)) (OfNormal B) (map (keeping keeps) normal)
      (All-map (OfNormal B) (keeping keeps) normal
      (All-weaker (OfNormal B) (λ (n : Normal). OfNormal B (keeping keeps n))
      (λ n each. All-filter keeps (λ (d : Delivery). B n.sender n.intent d.spot) n.deliveries each) normal all))

  -- the passing of time
  expired_queue_of : (foreground : Bool) (now : ℕ) (all : Broadcasts) → OfEach B all
      → OfEach B (expired_queue foreground now all)
  expired_queue_of foreground now all of = after_deadline (OfEach B) foreground now all
      (settle_of foreground now (with_queue foreground (late_head now (queue_of foreground all)) all) (late foreground))
      of
    where
      late : (b : Bool) → OfEach B (with_queue b (late_head now (queue_of b all)) all)
      late true = record {
        normal = of.normal;
        foreground = late_of now all.foreground of.foreground;
        background =
            of.background;
      }
      late false = record {
        normal = of.normal;
        foreground = of.foreground;
        background = late_of now all.background
            of.background;
      }

  pub expired_of : (all : Broadcasts) (now : ℕ) → OfEach B all → OfEach B (expired all now)
  expired_of all now of =
      let passed = expired_queue false now (expired_queue true now all) in
      let after = expired_queue_of false now (expired_queue true now all) (expired_queue_of true now all of) in
      record {
        normal = normals_of (λ (d : Delivery). not (is_delivery_due now d)) passed.normal after.normal;
        foreground = after.foreground;
        background = after.background;
      }

  -- a delivery that is finished
  pub finished_of : (all : Broadcasts) (number : ℕ) (answer : Answer) (now : ℕ) → OfEach B all
      → OfEach B (finished all number answer now)
  finished_of all number answer now of =
      both_of now (with_answered all number answer) (record {
        normal = normals_of (λ (d : Delivery). not (d.number == number)) all.normal of.normal;
        foreground = answered_of number (Answered answer) all.foreground of.foreground;
        background = answered_of number (Answered answer) all.background of.background;
      })

  -- receivers that are struck
  strike_rest_of : (struck : Spot → Bool) (b : InTurn) → OfTurn B b → OfTurn B (strike_rest struck b)
  strike_rest_of struck b of = record {
    past = of.past;
    rest = All-filter (λ (spot : Spot). not (struck spot))
        (λ (s : Spot). B b.sender b.intent s) b.rest of.rest;
  }

  strike_from_of : (struck : Spot → Bool) (b : InTurn) (rest : List Spot) (current : Option Current) → OfTurn B b
      → OfTurn B (strike_from struck b rest current)
  strike_from_of struck b rest None of = strike_rest_of struck b of
  strike_from_of struck b [] (Some current) of = of
  strike_from_of struck b (spot ∷ rest) (Some current) of = by (struck spot)
    where
      by : (gone : Bool) → OfTurn B (cond gone (strike_rest struck (turn Gone b)) (strike_rest struck b))
      by true = strike_rest_of struck (turn Gone b) (turn_of Gone b of)
      by false = strike_rest_of struck b of

  strikes_of : (struck : Spot → Bool) (queue : List InTurn) → All (OfTurn B) queue
      → All (OfTurn B) (map (strike struck) queue)
  strikes_of struck queue all =
      All-map (OfTurn B) (strike struck) queue
      (All-weaker (OfTurn B) (λ (b : InTurn). OfTurn B (strike struck b))
      (λ b of. strike_from_of struck b b.rest b.current of) queue all)

  pub forget_of : (all : Broadcasts) (struck : Spot → Bool) (now : ℕ) → OfEach B all
      → OfEach B (sending.forget all struck now)
  forget_of all struck now of =
      both_of now (without_struck all struck) (record {
        normal = normals_of (λ (d : Delivery). not (struck d.spot)) all.normal of.normal;
        foreground = strikes_of struck all.foreground of.foreground;
        background = strikes_of struck all.background of.background;
      })

  -- a sender that wants no result any more
  unwanted_of : (uid : ℕ) (b : InTurn) → OfTurn B b → OfTurn B (unwanted uid b)
  unwanted_of uid b of = by (b.sender == uid)
    where
      by : (same : Bool) → OfTurn B (cond same (record b { wanted = false }) b)
      by true = record { past = of.past; rest = of.rest }
      by false = of

  all_unwanted_of : (uid : ℕ) (queue : List InTurn) → All (OfTurn B) queue → All (OfTurn B) (map (unwanted uid) queue)
  all_unwanted_of uid queue all = All-map (OfTurn B) (unwanted uid) queue
      (All-weaker (OfTurn B) (λ (b : InTurn). OfTurn B (unwanted uid b)) (unwanted_of uid) queue all)

  pub forget_uid_of : (all : Broadcasts) (uid now : ℕ) → OfEach B all → OfEach B (sending.forget_uid all uid now)
  forget_uid_of all uid now of =
      forget_of (with_unwanted all uid) (λ (spot : Spot). spot.uid == uid) now (record {
        normal = of.normal;
        foreground = all_unwanted_of uid all.foreground of.foreground;
        background = all_unwanted_of uid all.background of.background;
      })

  -- the deliveries of a normal broadcast
  deliveries_of : (sender : ℕ) (intent : Intent) (number deadline : ℕ) (to : List Spot)
      → All (λ (spot : Spot). B sender intent spot) to
      → All (λ (d : Delivery). B sender intent d.spot) (deliveries_from number deadline to)
  deliveries_of sender intent number deadline [] each = All-nil (λ (d : Delivery). B sender intent d.spot)
  deliveries_of sender intent number deadline (spot ∷ others) each =
      All-cons (λ (d : Delivery). B sender intent d.spot) (record { number = number; spot = spot; deadline = deadline })
      (deliveries_from (number + 1) deadline others)
      (All-head (λ (s : Spot). B sender intent s) spot others each)
      (deliveries_of sender intent (number + 1) deadline others (All-tail (λ (s : Spot). B sender intent s) spot others
      each))

  -- one more broadcast
  pub sent_of : (all : Broadcasts) (sent : Sending) (ordered : Option Ordered)
      → All (λ (spot : Spot). B sent.sender sent.intent spot) sent.to → OfEach B all
      → OfEach B (with_sent all sent ordered)
  sent_of all sent None each of = record {
    normal = by (is_empty sent.to);
    foreground = of.foreground;
    background =
        of.background;
  }
    where
      one : Normal
      one = at_once all.next_broadcast all.next_delivery sent

      by : (none : Bool) → All (OfNormal B) (cond none all.normal (all.normal ++ one ∷ []))
      by true = of.normal
      by false = All-push (OfNormal B) all.normal one of.normal (deliveries_of sent.sender sent.intent all.next_delivery
          _ sent.to each)
  sent_of all sent (Some ordered) each of = settle_of sent.foreground sent.now (with_last sent.foreground one all)
      (by sent.foreground)
    where
      one : InTurn
      one = in_turn all.next_broadcast sent ordered

      begun : OfTurn B one
      begun = record { past = All-nil (λ (p : Past). B sent.sender sent.intent p.spot); rest = each }

      by : (b : Bool) → OfEach B (with_last b one all)
      by true = record {
        normal = of.normal;
        foreground = All-push (OfTurn B) all.foreground one of.foreground begun;
        background = of.background;
      }
      by false = record {
        normal = of.normal;
        foreground = of.foreground;
        background = All-push (OfTurn B)
            all.background one of.background begun;
      }

-- what follows from it holds too
module _ (B C : ℕ → Intent → Spot → Type 0) (follows : (sender : ℕ) (intent : Intent) (spot : Spot)
    → B sender intent spot → C sender intent spot) where
  turn_follows : (b : InTurn) → OfTurn B b → OfTurn C b
  turn_follows b of = record {
    past = All-weaker (λ (p : Past). B b.sender b.intent p.spot) (λ (p : Past). C b.sender b.intent p.spot)
        (λ p h. follows b.sender b.intent p.spot h) b.past of.past;
    rest = All-weaker (λ (s : Spot). B b.sender b.intent s) (λ (s : Spot). C b.sender b.intent s)
        (λ s h. follows b.sender b.intent s h) b.rest of.rest;
  }

  pub each_follows : (all : Broadcasts) → OfEach B all → OfEach C all
  each_follows all of = record {
    normal = All-weaker (OfNormal B) (OfNormal C)
        (λ n h. All-weaker (λ (d : Delivery). B n.sender n.intent d.spot) (λ (d : Delivery). C n.sender n.intent d.spot)
        (λ d k. follows n.sender n.intent d.spot k) n.deliveries h) all.normal of.normal;
    foreground = All-weaker (OfTurn B) (OfTurn C) turn_follows all.foreground of.foreground;
    background = All-weaker (OfTurn B) (OfTurn C) turn_follows all.background of.background;
  }
