-- Each number is for one uid when time passes, when a delivery is finished, when receivers are forgotten and when a
-- broadcast is
-- sent.
use Rattle.std.proofs.Common.{◌≡◌, ℕ, ◌+◌, Bool, true, false, not, cond, List, [], ◌∷◌, ◌++◌, length, map, refl, sym, subst, arith}
use Rattle.std.specs.Prelude.{All, Option, Some, None, filter, ◌==◌}
use Rattle.std.proofs.lemmas.List.Elements.{All-nil, All-cons, All-tail, All-push, All-map, All-filter, All-weaker}
use Rattle.am_types.specs.declared.broadcast.Spot.{Spot}
use Rattle.am_types.specs.declared.broadcast.Answer.{Answer}
use Rattle.am_types.specs.declared.broadcast.Ordered.{Ordered}
use Rattle.am_types.specs.declared.broadcast.Sending.{Sending}
use Rattle.am_model.specs.Filters.{is_empty}
use Rattle.am_model.specs.Broadcasts.{Broadcasts, InTurn, Normal, Delivery, Current, Result, Doing, Late, Gone, Answered, span, queue_of, with_queue, turned, turn, is_late, late_head, expired_queue, is_delivery_due, keeping, normals_keeping, expired}
use Rattle.am_model.specs.Sending as sending
use Rattle.am_model.specs.Sending.{deliveries_from, at_once, in_turn, with_last, with_sent, answered_head, is_current, finished, strike_rest, strike_from, strike, unwanted, with_answered, with_unwanted, without_struck, held}
use Rattle.am_model.proofs.QueueLaws.{after_deadline}
use Rattle.am_laws_courses.proofs.Holders.{IsFor, CurrentFor, TurnFor, NormalFor, ResultFor, HasHolders, Raises, raise_for, raise_queue, raise_normal, raise_results, raises_through, with_holder, raises_one, new_for, settle_held, both_held}

module _ (f : ℕ → ℕ) (next : ℕ) where
  -- after its turn nobody has the delivery
  turned_for : (doing : Doing) (b : InTurn) (rest : List Spot) → TurnFor f next (turned doing b rest)
  turned_for doing b [] = tt
  turned_for doing b (spot ∷ rest) = tt

  head_for : (test : Bool) (doing : Doing) (head : InTurn) (others : List InTurn) → All (TurnFor f next) (head ∷ others)
      → All (TurnFor f next) (cond test (turn doing head ∷ others) (head ∷ others))
  head_for true doing head others all = All-cons (TurnFor f next) (turn doing head) others
      (turned_for doing head head.rest) (All-tail (TurnFor f next) head others all)
  head_for false doing head others all = all

  late_for : (now : ℕ) (queue : List InTurn) → All (TurnFor f next) queue → All (TurnFor f next) (late_head now queue)
  late_for now [] all = all
  late_for now (head ∷ others) all = head_for (is_late now head.current) Late head others all

  answered_for : (number : ℕ) (doing : Doing) (queue : List InTurn) → All (TurnFor f next) queue
      → All (TurnFor f next) (answered_head number doing queue)
  answered_for number doing [] all = all
  answered_for number doing (head ∷ others) all = head_for (is_current number head.current) doing head others all

  -- deliveries that are kept
  normals_for : (keeps : Delivery → Bool) (normal : List Normal) → All (NormalFor f next) normal
      → All (NormalFor f next) (normals_keeping keeps normal)
  normals_for keeps normal all =
      All-filter (λ (n : Normal). not (is_empty n.deliveries)) (NormalFor f next) (map (keeping keeps) normal)
      (All-map (NormalFor f next) (keeping keeps) normal
      (All-weaker (NormalFor f next) (λ (n : Normal). NormalFor f next (keeping keeps n))
      (λ n each. All-filter keeps (λ (d : Delivery). IsFor f next d.number d.spot.uid) n.deliveries each) normal all))

  -- receivers that are struck: the first one that is left stays the first if it isn't struck
  rest_for : (struck : Spot → Bool) (spot : Spot) (rest : List Spot) (current : Current) → struck spot ≡ false
      → IsFor f next current.number spot.uid
      → CurrentFor f next (filter (λ (s : Spot). not (struck s)) (spot ∷ rest)) (Some current)
  rest_for struck spot rest current stays one =
      subst (λ (b : Bool). CurrentFor f next (cond (not b) (spot ∷ filter (λ (s : Spot). not (struck s)) rest)
      (filter (λ (s : Spot). not (struck s)) rest)) (Some current)) (sym stays) one

  none_for : (rest : List Spot) → CurrentFor f next rest None
  none_for rest = tt

  strike_for : (struck : Spot → Bool) (b : InTurn) → TurnFor f next b → TurnFor f next (strike struck b)
  strike_for struck b one = by b.rest b.current refl refl one
    where
      struck_first : (spot : Spot) (rest : List Spot) (current : Current) → b.rest ≡ spot ∷ rest → b.current
          ≡ Some current → IsFor f next current.number spot.uid
          → (gone : Bool) → struck spot ≡ gone → TurnFor f next (cond gone (strike_rest struck (turn Gone b))
          (strike_rest struck b))
      struck_first spot rest current is has one true test =
          subst (λ (l : List Spot). TurnFor f next (strike_rest struck (turned Gone b l))) (sym is) tt
      struck_first spot rest current is has one false test =
          subst (λ (o : Option Current). CurrentFor f next (filter (λ (s : Spot). not (struck s)) b.rest) o) (sym has)
          (subst (λ (l : List Spot). CurrentFor f next (filter (λ (s : Spot). not (struck s)) l) (Some current))
          (sym is) (rest_for struck spot rest current test one))

      by : (rest : List Spot) (current : Option Current) → b.rest ≡ rest → b.current ≡ current
          → CurrentFor f next rest current → TurnFor f next (strike_from struck b rest current)
      by rest None is has one = subst (λ (o : Option Current). CurrentFor f next
          (filter (λ (s : Spot). not (struck s)) b.rest) o) (sym has) tt
      by [] (Some current) is has one =
          subst (λ (l : List Spot). CurrentFor f next l b.current) (sym is)
          (subst (λ (o : Option Current). CurrentFor f next [] o) (sym has) tt)
      by (spot ∷ rest) (Some current) is has one = struck_first spot rest current is has one (struck spot) refl

  strikes_for : (struck : Spot → Bool) (queue : List InTurn) → All (TurnFor f next) queue
      → All (TurnFor f next) (map (strike struck) queue)
  strikes_for struck queue all =
      All-map (TurnFor f next) (strike struck) queue (All-weaker (TurnFor f next)
      (λ (b : InTurn). TurnFor f next (strike struck b)) (strike_for struck) queue all)

  unwanted_for : (uid : ℕ) (queue : List InTurn) → All (TurnFor f next) queue
      → All (TurnFor f next) (map (unwanted uid) queue)
  unwanted_for uid queue all =
      All-map (TurnFor f next) (unwanted uid) queue (All-weaker (TurnFor f next)
      (λ (b : InTurn). TurnFor f next (unwanted uid b)) (λ b one. by b one (b.sender == uid)) queue all)
    where
      by : (b : InTurn) → TurnFor f next b → (same : Bool) → TurnFor f next (cond same (record b { wanted = false }) b)
      by b one true = one
      by b one false = one

-- the deliveries of either queue are for their uids
queue_held : (foreground : Bool) (all : Broadcasts) (has : HasHolders all)
    → All (TurnFor has.holder all.next_delivery) (queue_of foreground all)
queue_held true all has = has.held.foreground
queue_held false all has = has.held.background

-- and so are those of another queue in its place
with_queue_held : (foreground : Bool) (queue : List InTurn) (all : Broadcasts) (next : ℕ) (has : HasHolders all)
    → All (TurnFor has.holder all.next_delivery) queue
    → HasHolders (with_queue foreground queue (record all { next_broadcast = next }))
with_queue_held true queue all next has one = record {
  holder = has.holder;
  held = record {
    normal = has.held.normal;
    foreground = one;
    background = has.held.background;
    results = has.held.results;
  };
}
with_queue_held false queue all next has one = record {
  holder = has.holder;
  held = record {
    normal = has.held.normal;
    foreground = has.held.foreground;
    background = one;
    results = has.held.results;
  };
}

-- the passing of time
expired_queue_held : (foreground : Bool) (now : ℕ) (all : Broadcasts) → HasHolders all
    → HasHolders (expired_queue foreground now all)
expired_queue_held foreground now all has = after_deadline HasHolders foreground now all
    (settle_held foreground now (with_queue foreground (late_head now (queue_of foreground all)) all)
    (with_queue_held foreground (late_head now (queue_of foreground all)) all all.next_broadcast has
    (late_for has.holder all.next_delivery now (queue_of foreground all) (queue_held foreground all has)))) has

pub expired_held : (all : Broadcasts) (now : ℕ) → HasHolders all → HasHolders (expired all now)
expired_held all now has =
    let passed = expired_queue false now (expired_queue true now all) in
    let after = expired_queue_held false now (expired_queue true now all) (expired_queue_held true now all has) in
    record {
      holder = after.holder;
      held = record {
        normal = normals_for after.holder passed.next_delivery (λ (d : Delivery). not (is_delivery_due now d))
            passed.normal after.held.normal;
        foreground = after.held.foreground;
        background = after.held.background;
        results = after.held.results;
      };
    }

-- a delivery that is finished
pub finished_held : (all : Broadcasts) (number : ℕ) (answer : Answer) (now : ℕ) → HasHolders all
    → HasHolders (finished all number answer now)
finished_held all number answer now has =
    both_held now (with_answered all number answer) (record {
      holder = has.holder;
      held = record {
        normal = normals_for has.holder all.next_delivery (λ (d : Delivery). not (d.number == number)) all.normal
            has.held.normal;
        foreground = answered_for has.holder all.next_delivery number (Answered answer) all.foreground
            has.held.foreground;
        background = answered_for has.holder all.next_delivery number (Answered answer) all.background
            has.held.background;
        results = All-filter (λ (r : Result). not (r.delivery == number)) (ResultFor has.holder all.next_delivery)
            all.results has.held.results;
      };
    })

-- receivers that are forgotten
pub forget_held : (all : Broadcasts) (struck : Spot → Bool) (now : ℕ) → HasHolders all
    → HasHolders (sending.forget all struck now)
forget_held all struck now has =
    both_held now (without_struck all struck) (record {
      holder = has.holder;
      held = record {
        normal = normals_for has.holder all.next_delivery (λ (d : Delivery). not (struck d.spot)) all.normal
            has.held.normal;
        foreground = strikes_for has.holder all.next_delivery struck all.foreground has.held.foreground;
        background = strikes_for has.holder all.next_delivery struck all.background has.held.background;
        results = has.held.results;
      };
    })

-- an app that is forgotten
pub forget_uid_held : (all : Broadcasts) (uid now : ℕ) → HasHolders all → HasHolders (sending.forget_uid all uid now)
forget_uid_held all uid now has =
    forget_held (with_unwanted all uid) (λ (spot : Spot). spot.uid == uid) now (record {
      holder = has.holder;
      held = record {
        normal = has.held.normal;
        foreground = unwanted_for has.holder all.next_delivery uid all.foreground has.held.foreground;
        background = unwanted_for has.holder all.next_delivery uid all.background has.held.background;
        results = All-filter (λ (r : Result). not (r.sender == uid)) (ResultFor has.holder all.next_delivery)
            all.results has.held.results;
      };
    })

-- deliveries with rising numbers
record DeliversFor (f : ℕ → ℕ) (next : ℕ) (to : List Spot) (deadline : ℕ) : Type 0 where
  pub holder : ℕ → ℕ
  pub raises : Raises f holder next (next + length to)
  pub deliveries : All (λ (d : Delivery). IsFor holder (next + length to) d.number d.spot.uid)
      (deliveries_from next deadline to)

deliveries_for : (f : ℕ → ℕ) (next deadline : ℕ) (to : List Spot) → DeliversFor f next to deadline
deliveries_for f next deadline [] = record {
  holder = f;
  raises = record { up = omega arith; same = λ n low. refl };
  deliveries = All-nil (λ (d : Delivery). IsFor f (next + length {A = Spot} []) d.number d.spot.uid);
}
deliveries_for f next deadline (spot ∷ others) =
    let g = with_holder f next spot.uid in
    let rest = deliveries_for g (next + 1) deadline others in
    let same : (next + 1) + length others ≡ next + length (spot ∷ others) = omega arith in
    let one = raise_for g rest.holder (next + 1) ((next + 1) + length others) rest.raises next spot.uid
    (new_for f next spot.uid) in
    let all = All-cons (λ (d : Delivery). IsFor rest.holder ((next + 1) + length others) d.number d.spot.uid)
    (record { number = next; spot = spot; deadline = deadline })
    (deliveries_from (next + 1) deadline others) one rest.deliveries in
    record {
      holder = rest.holder;
      raises = subst (λ (m : ℕ). Raises f rest.holder next m) same
          (raises_through f g rest.holder next (next + 1) ((next + 1) + length others) (raises_one f next spot.uid)
          rest.raises);
      deliveries = subst (λ (m : ℕ). All (λ (d : Delivery). IsFor rest.holder m d.number d.spot.uid)
          (deliveries_from next deadline (spot ∷ others))) same all;
    }

-- one more broadcast
pub sent_held : (all : Broadcasts) (sent : Sending) (ordered : Option Ordered) → HasHolders all
    → HasHolders (with_sent all sent ordered)
sent_held all sent None has = record {
  holder = to.holder;
  held = record {
    normal = by (is_empty sent.to);
    foreground = raise_queue has.holder to.holder all.next_delivery more to.raises all.foreground has.held.foreground;
    background = raise_queue has.holder to.holder all.next_delivery more to.raises all.background has.held.background;
    results = raise_results has.holder to.holder all.next_delivery more to.raises all.results has.held.results;
  };
}
  where
    more : ℕ
    more = all.next_delivery + length sent.to

    to : DeliversFor has.holder all.next_delivery sent.to (sent.now + span sent.foreground)
    to = deliveries_for has.holder all.next_delivery (sent.now + span sent.foreground) sent.to

    old : All (NormalFor to.holder more) all.normal
    old = raise_normal has.holder to.holder all.next_delivery more to.raises all.normal has.held.normal

    by : (none : Bool) → All (NormalFor to.holder more) (cond none all.normal
        (all.normal ++ at_once all.next_broadcast all.next_delivery sent ∷ []))
    by true = old
    by false = All-push (NormalFor to.holder more) all.normal (at_once all.next_broadcast all.next_delivery sent) old
        to.deliveries
sent_held all sent (Some ordered) has = settle_held sent.foreground sent.now (with_last sent.foreground one all)
    (with_queue_held sent.foreground (queue_of sent.foreground all ++ one ∷ []) all (all.next_broadcast + 1) has
    (All-push (TurnFor has.holder all.next_delivery) (queue_of sent.foreground all) one
    (queue_held sent.foreground all has) (none_for has.holder all.next_delivery sent.to)))
  where
    one : InTurn
    one = in_turn all.next_broadcast sent ordered
