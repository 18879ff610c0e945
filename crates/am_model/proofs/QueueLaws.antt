-- Laws of queues: after everything that is done with broadcasts each normal one has a delivery left, and the head of
-- each
-- queue, if there is one, isn't over and has a delivery.
use Rattle.std.proofs.Common.{◌≡◌, ℕ, ◌+◌, Bool, true, false, not, ◌&&◌, cond, List, [], ◌∷◌, ◌++◌, length, map, refl, ap, ◌∙◌, subst}
use Rattle.std.specs.Prelude.{Option, Some, None, Ok, Err, ◌==◌, nat_le, nat_lt}
use Rattle.std.specs.List.{list_all, filter}
use Rattle.am_types.specs.declared.broadcast.Spot.{Spot}
use Rattle.am_types.specs.declared.broadcast.Answer.{Answer}
use Rattle.am_types.specs.declared.broadcast.Ordered.{Ordered}
use Rattle.am_types.specs.declared.broadcast.Sending.{Sending}
use Rattle.am_types.specs.declared.broadcast.SendFault.TheVariants.{Full, TooMany}
use Rattle.am_types.specs.declared.broadcast.FinishFault.TheVariants.{NotYours, NotOrdered}
use Rattle.am_model.specs.Filters.{is_empty}
use Rattle.am_model.specs.Broadcasts.{Broadcasts, Normal, Delivery, InTurn, no_broadcasts, span, queue_of, with_queue, settle, settle_both, expired_queue, late_head, is_head_due, is_delivery_due, keeping, normals_keeping, expired}
use Rattle.am_model.specs.Sending.{live, in_turn, at_once, deliveries_from, with_sent, send, held, Held, is_for_ordered, finished, finish_held, finish, with_answered, with_unwanted, without_struck, is_registered, forget, forget_registered, forget_uid}
use Rattle.am_model.proofs.BroadcastLaws.{AreLive, IsSettled, settled_is_settled}

-- each normal broadcast has a delivery left, and both queues are settled
pub record IsStanding (all : Broadcasts) : Type 0 where
  pub normal : AreLive all.normal
  pub foreground : IsSettled all.foreground
  pub background : IsSettled all.background

-- before the first broadcast
pub none_stand : IsStanding no_broadcasts
none_stand = record { normal = refl; foreground = tt; background = tt }

-- all that a test kept passes it
all_kept : {X : Type 0} (test : X → Bool) (xs : List X) → list_all test (filter test xs) ≡ true
all_kept test [] = refl
all_kept test (x ∷ xs) = by (test x) refl (all_kept test xs)
  where
    by : (b : Bool) → test x ≡ b → list_all test (filter test xs) ≡ true
        → list_all test (cond b (x ∷ filter test xs) (filter test xs)) ≡ true
    by true is rest = ap (λ b. b && list_all test (filter test xs)) is ∙ rest
    by false is rest = rest

-- what is kept of the normal broadcasts has a delivery left
kept_live : (keeps : Delivery → Bool) (normal : List Normal) → AreLive (normals_keeping keeps normal)
kept_live keeps normal = all_kept (λ (n : Normal). not (is_empty n.deliveries)) (map (keeping keeps) normal)

-- all pass, and so does one more
all_and_one : {X : Type 0} (test : X → Bool) (xs : List X) (x : X) → list_all test xs ≡ true → test x ≡ true
    → list_all test (xs ++ x ∷ []) ≡ true
all_and_one test [] x pass last = ap (λ b. b && true) last
all_and_one test (first ∷ others) x pass last = by (test first) (λ rest. all_and_one test others x rest last) pass
  where
    by : (b : Bool) → (list_all test others ≡ true → list_all test (others ++ x ∷ []) ≡ true)
        → b && list_all test others ≡ true → b && list_all test (others ++ x ∷ []) ≡ true
    by true rest pass = rest pass
    by false rest pass = cc

-- a queue that is put in place and settled
queue_settles : (foreground : Bool) (now : ℕ) (all : Broadcasts) (queue : List InTurn) → IsStanding all
    → IsStanding (settle foreground now (with_queue foreground queue all))
queue_settles true now all queue stands =
    let settled = settled_is_settled all.next_delivery (now + span true) queue in
    record { normal = stands.normal; foreground = settled; background = stands.background }
queue_settles false now all queue stands =
    let settled = settled_is_settled all.next_delivery (now + span false) queue in
    record { normal = stands.normal; foreground = stands.foreground; background = settled }

-- both queues settle
both_settle : (now : ℕ) (all : Broadcasts) → AreLive all.normal → IsStanding (settle_both now all)
both_settle now all live = record {
  normal = live;
  foreground = settled_is_settled all.next_delivery (now + span true) all.foreground;
  background = settled_is_settled (settle true now all).next_delivery (now + span false) all.background;
}

-- a normal broadcast that is sent has a delivery, if it is live
live_at_once : (number delivery : ℕ) (sending : Sending) (normal : List Normal) → AreLive normal
    → AreLive (cond (is_empty sending.to) normal (normal ++ at_once number delivery sending ∷ []))
live_at_once number delivery sending normal live = by sending.to refl
  where
    by : (to : List Spot) → sending.to ≡ to → AreLive (cond (is_empty to) normal
        (normal ++ at_once number delivery sending ∷ []))
    by [] is = live
    by (spot ∷ others) is =
        all_and_one (λ (n : Normal). not (is_empty n.deliveries)) normal (at_once number delivery sending) live
        (ap (λ (list : List Spot). not (is_empty (deliveries_from delivery (sending.now + span sending.foreground)
        list))) is)

-- one more broadcast
pub sent_stand : (all : Broadcasts) (sending : Sending) (ordered : Option Ordered) → IsStanding all
    → IsStanding (with_sent all sending ordered)
sent_stand all sending None stands =
    record {
      normal = live_at_once all.next_broadcast all.next_delivery sending all.normal stands.normal;
      foreground =
          stands.foreground;
      background = stands.background;
    }
sent_stand all sending (Some ordered) stands =
    let sent = in_turn all.next_broadcast sending ordered ∷ [] in
    queue_settles sending.foreground sending.now (record all { next_broadcast = all.next_broadcast + 1 })
    (queue_of sending.foreground all ++ sent)
    (record { normal = stands.normal; foreground = stands.foreground; background = stands.background })

-- a sending that isn't refused
pub send_stands : (all after : Broadcasts) (sending : Sending) (number : ℕ) → IsStanding all → send all sending
    ≡ Ok (number, after) → IsStanding after
unfolding send
send_stands all after sending number stands done = by (nat_le 64 (live all sending.sender))
    (nat_lt 1024 (length sending.to)) done
  where
    sent : ℕ × Broadcasts
    sent = (all.next_broadcast, with_sent all sending sending.ordered)

    by : (full many : Bool) → cond full (Err Full) (cond many (Err TooMany) (Ok sent)) ≡ Ok (number, after)
        → IsStanding after
    by true many done = absurd cc
    by false true done = absurd cc
    by false false done =
        let e : sent ≡ (number, after) = cc in
        subst IsStanding (ap (λ (p : ℕ × Broadcasts). p.1) e) (sent_stand all sending sending.ordered stands)

-- a delivery or a result that is finished
pub finish_stands : (all after : Broadcasts) (number uid : ℕ) (answer : Answer) (now : ℕ)
    → finish all number uid answer now ≡ Ok after → IsStanding after
unfolding finish
finish_stands all after number uid answer now done = by (held all number) done
  where
    tests : (other unfit : Bool) → cond other (Err NotYours) (cond unfit (Err NotOrdered)
        (Ok (finished all number answer now))) ≡ Ok after → IsStanding after
    tests true unfit done = absurd cc
    tests false true done = absurd cc
    tests false false done =
        let e : finished all number answer now ≡ after = cc in
        subst IsStanding e (both_settle now (with_answered all number answer)
        (kept_live (λ delivery. not (delivery.number == number)) all.normal))

    by : (found : Option Held) → finish_held all number uid answer now found ≡ Ok after → IsStanding after
    by None done = absurd cc
    by (Some holder) done = tests (not (holder.uid == uid)) (is_for_ordered answer && not holder.ordered) done

-- receivers that are forgotten
pub forget_stands : (all : Broadcasts) (struck : Spot → Bool) (now : ℕ) → IsStanding (forget all struck now)
forget_stands all struck now = both_settle now (without_struck all struck)
    (kept_live (λ delivery. not (struck delivery.spot)) all.normal)

-- an app that is forgotten
pub forget_uid_stands : (all : Broadcasts) (uid now : ℕ) → IsStanding (forget_uid all uid now)
forget_uid_stands all uid now = forget_stands (with_unwanted all uid) (λ (spot : Spot). spot.uid == uid) now

-- a registered receiver that is taken away
pub forget_registered_stands : (all : Broadcasts) (number now : ℕ) → IsStanding (forget_registered all number now)
forget_registered_stands all number now = forget_stands all (λ (spot : Spot). is_registered number spot.aim) now

-- what holds where a head that is late was passed over and its queue settled, and where nothing was due, holds after
-- the
-- deadline of a queue
pub after_deadline : (P : Broadcasts → Type 0) (foreground : Bool) (now : ℕ) (all : Broadcasts)
    → P (settle foreground now (with_queue foreground (late_head now (queue_of foreground all)) all)) → P all
    → P (expired_queue foreground now all)
after_deadline P foreground now all late same = by (is_head_due now (queue_of foreground all))
  where
    by : (due : Bool) → P (cond due (settle foreground now (with_queue foreground
        (late_head now (queue_of foreground all)) all)) all)
    by true = late
    by false = same

-- a queue whose deadline may be due
expired_queue_stands : (foreground : Bool) (now : ℕ) (all : Broadcasts) → IsStanding all
    → IsStanding (expired_queue foreground now all)
expired_queue_stands foreground now all stands = after_deadline IsStanding foreground now all
    (queue_settles foreground now all (late_head now (queue_of foreground all)) stands) stands

-- the passing of time
pub expired_stand : (all : Broadcasts) (now : ℕ) → IsStanding all → IsStanding (expired all now)
expired_stand all now stands = record {
  normal = kept_live (λ delivery. not (is_delivery_due now delivery)) passed.normal;
  foreground = after.foreground;
  background = after.background;
}
  where
    passed : Broadcasts
    passed = expired_queue false now (expired_queue true now all)

    after : IsStanding passed
    after = expired_queue_stands false now (expired_queue true now all) (expired_queue_stands true now all stands)
