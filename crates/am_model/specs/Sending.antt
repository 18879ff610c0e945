-- What is done with broadcasts: sending, finishing, and forgetting receivers; and what waits in an inbox.
use Rattle.std.specs.Prelude.{ℕ, ◌+◌, Bool, true, false, not, ◌&&◌, ◌||◌, ◌==◌, nat_lt, nat_le, List, [], ◌∷◌, ◌++◌, length, map, filter, take, if◌then◌else◌, Option, Some, None, is_some, Result, Ok, Err}
use Rattle.std.specs.List.{count_by, flat_map}
use Rattle.am_types.specs.declared.broadcast.Aim.{Aim}
use Rattle.am_types.specs.declared.broadcast.Aim.TheVariants.{Declared, Registered}
use Rattle.am_types.specs.declared.broadcast.Spot.{Spot}
use Rattle.am_types.specs.declared.broadcast.Answer.{Answer}
use Rattle.am_types.specs.declared.broadcast.Ordered.{Ordered}
use Rattle.am_types.specs.declared.broadcast.Sending.{Sending}
use Rattle.am_types.specs.declared.broadcast.Item.{Item}
use Rattle.am_types.specs.declared.broadcast.ItemKind.TheVariants as kinds
use Rattle.am_types.specs.declared.broadcast.SendFault.{SendFault}
use Rattle.am_types.specs.declared.broadcast.SendFault.TheVariants.{Full, TooMany}
use Rattle.am_types.specs.declared.broadcast.FinishFault.{FinishFault}
use Rattle.am_types.specs.declared.broadcast.FinishFault.TheVariants.{NoDelivery, NotYours, NotOrdered}
use Rattle.am_model.specs.Filters.{is_empty}
use Rattle.am_model.specs.Broadcasts as broadcasts
use Rattle.am_model.specs.Broadcasts.{Broadcasts, Normal, Delivery, InTurn, Current, Doing, Answered, Gone, span, turn, outcome_of, queue_of, with_queue, settle, settle_both, normals_keeping}

-- how many broadcasts of a sender are live
abbrev pub live : Broadcasts → ℕ → ℕ
live all sender =
    ((count_by (λ (n : Normal). n.sender == sender) all.normal
    + count_by (λ (b : InTurn). b.sender == sender) all.foreground)
    + count_by (λ (b : InTurn). b.sender == sender) all.background)
    + count_by (λ (r : broadcasts.Result). r.sender == sender) all.results

-- a delivery to each receiver, with rising numbers
abbrev pub deliveries_from : ℕ → ℕ → List Spot → List Delivery
deliveries_from number deadline [] = []
deliveries_from number deadline (spot ∷ others) =
    record { number = number; spot = spot; deadline = deadline } ∷ deliveries_from (number + 1) deadline others

-- a normal broadcast with its deliveries
abbrev pub at_once : ℕ → ℕ → Sending → Normal
at_once number delivery sending = record {
  number = number;
  sender = sending.sender;
  intent = sending.intent;
  deliveries = deliveries_from delivery (sending.now + span sending.foreground) sending.to;
}

-- a normal broadcast: all deliveries at once; without a receiver it is never live
abbrev pub with_normal : Broadcasts → Sending → Broadcasts
with_normal all sending =
    record all {
      normal = if is_empty sending.to then all.normal else all.normal
          ++ at_once all.next_broadcast all.next_delivery sending ∷ [];
      next_broadcast = all.next_broadcast + 1;
      next_delivery = all.next_delivery + length sending.to;
    }

-- an ordered broadcast before its first delivery
abbrev pub in_turn : ℕ → Sending → Ordered → InTurn
in_turn number sending ordered = record {
  number = number;
  sender = sending.sender;
  intent = sending.intent;
  no_abort = sending.no_abort;
  initial = ordered.initial;
  wanted = ordered.wanted;
  past = [];
  rest = sending.to;
  current = None;
}

-- the broadcasts with one more at the end of one of the two queues
abbrev pub with_last : Bool → InTurn → Broadcasts → Broadcasts
with_last foreground sent all =
    with_queue foreground (queue_of foreground all ++ sent ∷ [])
    (record all { next_broadcast = all.next_broadcast + 1 })

-- an ordered broadcast: at the end of its queue, which settles
abbrev pub with_ordered : Broadcasts → Sending → Ordered → Broadcasts
with_ordered all sending ordered =
    settle sending.foreground sending.now
    (with_last sending.foreground (in_turn all.next_broadcast sending ordered) all)

-- the broadcasts with one more
abbrev pub with_sent : Broadcasts → Sending → Option Ordered → Broadcasts
with_sent all sending None = with_normal all sending
with_sent all sending (Some ordered) = with_ordered all sending ordered

-- a broadcast is sent: its number, and the broadcasts with it
unfoldable pub send : Broadcasts → Sending → Result (ℕ × Broadcasts) SendFault
send all sending =
    if nat_le 64 (live all sending.sender) then Err Full
    else if nat_lt 1024 (length sending.to) then Err TooMany
    else Ok (all.next_broadcast, with_sent all sending sending.ordered)

-- whose a delivery is, and whether it is an ordered broadcast's
pub record Held : Type 0 where
  pub uid : ℕ
  pub ordered : Bool

-- the first of two
abbrev pub or_held : Option Held → Option Held → Option Held
or_held (Some held) other = Some held
or_held None other = other

-- the delivery among a normal broadcast's
abbrev pub held_in_deliveries : ℕ → List Delivery → Option Held
held_in_deliveries number [] = None
held_in_deliveries number (first ∷ others) =
    if first.number == number then Some (record { uid = first.spot.uid; ordered = false }) else held_in_deliveries
    number others

-- the delivery among the normal broadcasts'
abbrev pub held_in_normals : ℕ → List Normal → Option Held
held_in_normals number [] = None
held_in_normals number (first ∷ others) = or_held (held_in_deliveries number first.deliveries)
    (held_in_normals number others)

-- the delivery is the current one
abbrev pub is_current : ℕ → Option Current → Bool
is_current number None = false
is_current number (Some current) = current.number == number

-- the delivery to the first receiver that is left
abbrev pub held_by : List Spot → Option Held
held_by [] = None
held_by (spot ∷ others) = Some (record { uid = spot.uid; ordered = true })

-- the delivery at the head of a queue
abbrev pub held_at_head : ℕ → List InTurn → Option Held
held_at_head number [] = None
held_at_head number (head ∷ others) = if is_current number head.current then held_by head.rest else None

-- the result of that number
abbrev pub held_in_results : ℕ → List broadcasts.Result → Option Held
held_in_results number [] = None
held_in_results number (first ∷ others) =
    if first.delivery == number then Some (record { uid = first.sender; ordered = false }) else held_in_results number
    others

-- the delivery, or the result, of that number
abbrev pub held : Broadcasts → ℕ → Option Held
held all number =
    or_held (held_in_normals number all.normal)
    (or_held (held_at_head number all.foreground)
    (or_held (held_at_head number all.background)
    (held_in_results number all.results)))

-- the queue whose head did this, if the delivery is its current one
abbrev pub answered_head : ℕ → Doing → List InTurn → List InTurn
answered_head number doing [] = []
answered_head number doing (head ∷ others) =
    if is_current number head.current then turn doing head ∷ others else head ∷ others

-- the broadcasts after that delivery or result was finished, before their queues settle
abbrev pub with_answered : Broadcasts → ℕ → Answer → Broadcasts
with_answered all number answer = record all {
  normal = normals_keeping (λ delivery. not (delivery.number == number)) all.normal;
  foreground = answered_head number (Answered answer) all.foreground;
  background = answered_head number (Answered answer) all.background;
  results = filter (λ (r : broadcasts.Result). not (r.delivery == number)) all.results;
}

-- and once they have settled
abbrev pub finished : Broadcasts → ℕ → Answer → ℕ → Broadcasts
finished all number answer now = settle_both now (with_answered all number answer)

-- the answer sets an outcome or aborts, which only an ordered delivery takes
abbrev pub is_for_ordered : Answer → Bool
is_for_ordered answer = is_some answer.set || answer.abort

-- the broadcasts after a uid finished what it holds, or why not
abbrev pub finish_held : Broadcasts → ℕ → ℕ → Answer → ℕ → Option Held → Result Broadcasts FinishFault
finish_held all number uid answer now None = Err NoDelivery
finish_held all number uid answer now (Some holder) =
    if not (holder.uid == uid) then Err NotYours
    else if is_for_ordered answer && not holder.ordered then Err NotOrdered
    else Ok (finished all number answer now)

-- a uid finishes a delivery or takes a result
unfoldable pub finish : Broadcasts → ℕ → ℕ → Answer → ℕ → Result Broadcasts FinishFault
finish all number uid answer now = finish_held all number uid answer now (held all number)

-- the ordered broadcast without the receivers among those left that are struck
abbrev pub strike_rest : (Spot → Bool) → InTurn → InTurn
strike_rest struck broadcast = record broadcast { rest = filter (λ spot. not (struck spot)) broadcast.rest }

-- the ordered broadcast without the receivers that are struck; one that had the delivery is gone
abbrev pub strike_from : (Spot → Bool) → InTurn → List Spot → Option Current → InTurn
strike_from struck broadcast rest None = strike_rest struck broadcast
strike_from struck broadcast [] (Some current) = broadcast
strike_from struck broadcast (spot ∷ rest) (Some current) =
    if struck spot then strike_rest struck (turn Gone broadcast) else strike_rest struck broadcast

-- the ordered broadcast after its receivers were struck
abbrev pub strike : (Spot → Bool) → InTurn → InTurn
strike struck broadcast = strike_from struck broadcast broadcast.rest broadcast.current

-- the broadcasts without the receivers that are struck, before their queues settle
abbrev pub without_struck : Broadcasts → (Spot → Bool) → Broadcasts
without_struck all struck = record all {
  normal = normals_keeping (λ delivery. not (struck delivery.spot)) all.normal;
  foreground = map (strike struck) all.foreground;
  background = map (strike struck) all.background;
}

-- and once they have settled
abbrev pub forget : Broadcasts → (Spot → Bool) → ℕ → Broadcasts
forget all struck now = settle_both now (without_struck all struck)

-- the spot is that registered receiver
abbrev pub is_registered : ℕ → Aim → Bool
is_registered number (Declared component) = false
is_registered number (Registered other) = other == number

-- the broadcasts without that registered receiver
abbrev pub forget_registered : Broadcasts → ℕ → ℕ → Broadcasts
forget_registered all number now = forget all (λ (spot : Spot). is_registered number spot.aim) now

-- the sender no longer gets a result
abbrev pub unwanted : ℕ → InTurn → InTurn
unwanted uid broadcast = if broadcast.sender == uid then record broadcast { wanted = false } else broadcast

-- the broadcasts with a uid no longer getting results
abbrev pub with_unwanted : Broadcasts → ℕ → Broadcasts
with_unwanted all uid = record all {
  foreground = map (unwanted uid) all.foreground;
  background = map (unwanted uid) all.background;
  results = filter (λ (r : broadcasts.Result). not (r.sender == uid)) all.results;
}

-- the broadcasts without the receivers of a uid, which no longer gets results
abbrev pub forget_uid : Broadcasts → ℕ → ℕ → Broadcasts
forget_uid all uid now = forget (with_unwanted all uid) (λ (spot : Spot). spot.uid == uid) now

-- the deliveries of a normal broadcast to a uid, as items
abbrev pub normal_items : ℕ → Normal → List Item
normal_items uid broadcast =
    map (λ (d : Delivery). record {
      delivery = d.number;
      broadcast = broadcast.number;
      what = kinds.Normal d.spot.aim
          broadcast.intent;
    })
    (filter (λ (d : Delivery). d.spot.uid == uid) broadcast.deliveries)

-- the delivery of an ordered broadcast, if it is to the uid, with the outcome so far
abbrev pub turn_item : ℕ → InTurn → List Spot → Option Current → List Item
turn_item uid broadcast [] current = []
turn_item uid broadcast (spot ∷ others) None = []
turn_item uid broadcast (spot ∷ others) (Some current) =
    if spot.uid == uid
    then record {
      delivery = current.number;
      broadcast = broadcast.number;
      what = kinds.InOrder spot.aim
          broadcast.intent (outcome_of broadcast);
    } ∷ []
    else []

-- the current delivery of an ordered broadcast, if it is to the uid, as an item
abbrev pub turn_items : ℕ → InTurn → List Item
turn_items uid broadcast = turn_item uid broadcast broadcast.rest broadcast.current

-- the results for a uid, as items
abbrev pub result_items : ℕ → List broadcasts.Result → List Item
result_items uid results =
    map (λ (r : broadcasts.Result). record {
      delivery = r.delivery;
      broadcast = r.broadcast;
      what = kinds.Final
          r.outcome;
    })
    (filter (λ (r : broadcasts.Result). r.sender == uid) results)

-- an item in its place by number
abbrev pub place_item : Item → List Item → List Item
place_item item [] = item ∷ []
place_item item (first ∷ others) =
    if nat_lt item.delivery first.delivery then item ∷ first ∷ others else first ∷ place_item item others

-- the items by rising number
abbrev pub by_number : List Item → List Item
by_number [] = []
by_number (first ∷ others) = place_item first (by_number others)

-- the first 64 deliveries and results of a uid by rising number
abbrev pub inbox : Broadcasts → ℕ → List Item
inbox all uid =
    take 64 (by_number (((flat_map (normal_items uid) all.normal
    ++ flat_map (turn_items uid) all.foreground)
    ++ flat_map (turn_items uid) all.background)
    ++ result_items uid all.results))
