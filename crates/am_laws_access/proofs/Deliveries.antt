-- What holds of each delivery of each normal broadcast holds of it whatever is done with broadcasts.
use Rattle.std.proofs.Common.{◌≡◌, ℕ, ◌+◌, Bool, true, false, not, cond, List, [], ◌∷◌, ◌++◌, map, refl}
use Rattle.std.specs.Prelude.{All, Option, Some, None, ◌==◌}
use Rattle.std.proofs.lemmas.List.Elements.{All-nil, All-cons, All-head, All-tail, All-push, All-map, All-filter, All-weaker}
use Rattle.am_types.specs.declared.intent.Intent.{Intent}
use Rattle.am_types.specs.declared.broadcast.Spot.{Spot}
use Rattle.am_types.specs.declared.broadcast.Answer.{Answer}
use Rattle.am_types.specs.declared.broadcast.Ordered.{Ordered}
use Rattle.am_types.specs.declared.broadcast.Sending.{Sending}
use Rattle.am_model.specs.Filters.{is_empty}
use Rattle.am_model.specs.Broadcasts.{Broadcasts, Normal, Delivery, is_delivery_due, keeping, normals_keeping, expired_queue, expired}
use Rattle.am_model.specs.Sending as sending
use Rattle.am_model.specs.Sending.{deliveries_from, at_once, finished, with_sent}
use Rattle.am_model.proofs.QueueLaws.{after_deadline}

module _ (D : ℕ → ℕ → Intent → Delivery → Type 0) where
  -- this holds of each delivery of some normal broadcasts, with the number, the sender and the intent of its broadcast
  abbrev pub OfDeliveries : List Normal → Type 0
  OfDeliveries normal = All (λ (n : Normal). All (λ (d : Delivery). D n.number n.sender n.intent d) n.deliveries) normal

  -- deliveries that are kept
  kept_of : (keeps : Delivery → Bool) (normal : List Normal) → OfDeliveries normal
      → OfDeliveries (normals_keeping keeps normal)
  kept_of keeps normal all =
      All-filter (λ (n : Normal). not (is_empty n.deliveries)) Each (map (keeping keeps) normal)
      (All-map Each (keeping keeps) normal
      (All-weaker Each (λ (n : Normal). Each (keeping keeps n)) (λ n each. All-filter keeps
      (λ (d : Delivery). D n.number n.sender n.intent d) n.deliveries each) normal all))
    where
      Each : Normal → Type 0
      Each n = All (λ (d : Delivery). D n.number n.sender n.intent d) n.deliveries

  -- a queue whose deadline has come leaves them
  expired_queue_of : (foreground : Bool) (now : ℕ) (all : Broadcasts) → OfDeliveries all.normal
      → OfDeliveries (expired_queue foreground now all).normal
  expired_queue_of true now all of = after_deadline (λ (left : Broadcasts). OfDeliveries left.normal) true now all of of
  expired_queue_of false now all of = after_deadline (λ (left : Broadcasts). OfDeliveries left.normal) false now all of
      of

  -- the passing of time
  pub expired_of : (all : Broadcasts) (now : ℕ) → OfDeliveries all.normal → OfDeliveries (expired all now).normal
  expired_of all now of =
      kept_of (λ (d : Delivery). not (is_delivery_due now d)) (expired_queue false now
      (expired_queue true now all)).normal
      (expired_queue_of false now (expired_queue true now all) (expired_queue_of true now all of))

  -- a delivery that is finished, receivers that are struck, and a uid that is forgotten
  pub finished_of : (all : Broadcasts) (number : ℕ) (answer : Answer) (now : ℕ) → OfDeliveries all.normal
      → OfDeliveries (finished all number answer now).normal
  finished_of all number answer now of = kept_of (λ (d : Delivery). not (d.number == number)) all.normal of

  pub forget_of : (all : Broadcasts) (struck : Spot → Bool) (now : ℕ) → OfDeliveries all.normal
      → OfDeliveries (sending.forget all struck now).normal
  forget_of all struck now of = kept_of (λ (d : Delivery). not (struck d.spot)) all.normal of

  pub forget_uid_of : (all : Broadcasts) (uid now : ℕ) → OfDeliveries all.normal
      → OfDeliveries (sending.forget_uid all uid now).normal
  forget_uid_of all uid now of = kept_of (λ (d : Delivery). not (d.spot.uid == uid)) all.normal of

  -- the deliveries to some receivers
  deliveries_of : (broadcast sender : ℕ) (intent : Intent) (number deadline : ℕ) (to : List Spot)
      → All (λ (spot : Spot). (delivery deadline : ℕ) → D broadcast sender intent
      (record { number = delivery; spot = spot; deadline = deadline })) to
      → All (λ (d : Delivery). D broadcast sender intent d) (deliveries_from number deadline to)
  deliveries_of broadcast sender intent number deadline [] each = All-nil
      (λ (d : Delivery). D broadcast sender intent d)
  deliveries_of broadcast sender intent number deadline (spot ∷ others) each =
      All-cons (λ (d : Delivery). D broadcast sender intent d) (record
      { number = number; spot = spot; deadline = deadline }) (deliveries_from (number + 1) deadline others)
      (All-head To spot others each number deadline) (deliveries_of broadcast sender intent (number + 1) deadline others
      (All-tail To spot others each))
    where
      To : Spot → Type 0
      To s = (delivery deadline : ℕ) → D broadcast sender intent (record
          { number = delivery; spot = s; deadline = deadline })

  -- one more broadcast
  pub sent_of : (all : Broadcasts) (sent : Sending) (ordered : Option Ordered)
      → (ordered ≡ None → All (λ (spot : Spot). (delivery deadline : ℕ)
      → D all.next_broadcast sent.sender sent.intent (record { number = delivery; spot = spot; deadline = deadline }))
      sent.to)
      → OfDeliveries all.normal → OfDeliveries (with_sent all sent ordered).normal
  sent_of all sent None each of = by (is_empty sent.to)
    where
      one : Normal
      one = at_once all.next_broadcast all.next_delivery sent

      by : (none : Bool) → OfDeliveries (cond none all.normal (all.normal ++ one ∷ []))
      by true = of
      by false =
          All-push (λ (n : Normal). All (λ (d : Delivery). D n.number n.sender n.intent d) n.deliveries) all.normal one
          of
          (deliveries_of all.next_broadcast sent.sender sent.intent all.next_delivery _ sent.to (each refl))
  sent_of all sent (Some ordered) each of = by sent.foreground
    where
      by : (b : Bool) → OfDeliveries (sending.with_ordered all (record sent { foreground = b }) ordered).normal
      by true = of
      by false = of
