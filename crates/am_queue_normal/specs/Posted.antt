-- The deliveries of normal broadcasts as the code keeps them: by rising number, each with what was sent.
use Rattle.std.specs.Prelude.{⊤, ◌≡◌, ℕ, zero, suc, ◌+◌, ◌<◌, ◌≤◌, ◌⊎◌, Bool, true, false, ◌&&◌, ◌==◌, nat_le, nat_lt, List, [], ◌∷◌, Option, Some, None}
use Rattle.std.specs.List.{AllByRecursion}
use Rattle.std.specs.Map.{lookup, remove_entry}
use Rattle.std.specs.Ordering.{nat_cmp}
use Rattle.std.specs.BTreeMap.{is_at}
use Rattle.am_types.specs.declared.broadcast.Spot.{Spot}
use Rattle.am_types.specs.declared.broadcast.Item.{Item}
use Rattle.am_types.specs.declared.broadcast.ItemKind.TheVariants as kinds
use Rattle.am_model.specs.Broadcasts.{Normal, Delivery}
use Rattle.am_queue_normal.specs.declared.delivery.Broadcast.{Broadcast}
use Rattle.am_queue_normal.specs.Pairs.{has}

-- a delivery with what was sent
pub record Posted : Type 0 where
  pub sent : Broadcast
  pub spot : Spot
  pub deadline : ℕ

-- the delivery of what was sent to a receiver, with a deadline
abbrev pub posted_as : Broadcast → ℕ → Spot → Posted
posted_as sent deadline spot = record { sent = sent; spot = spot; deadline = deadline }

-- the delivery under its number
abbrev pub delivery_of : ℕ × Posted → Delivery
delivery_of entry = record { number = entry.0; spot = entry.1.spot; deadline = entry.1.deadline }

-- the broadcast with these deliveries
abbrev pub broadcast_of : Broadcast → List Delivery → Normal
broadcast_of sent deliveries =
    record { number = sent.number; sender = sent.sender; intent = sent.intent; deliveries = deliveries }

-- the broadcasts with one more delivery in front, which joins the first broadcast or begins one of its own
abbrev pub joined : ℕ × Posted → Bool → List Normal → List Normal
joined entry false normal = broadcast_of entry.1.sent (delivery_of entry ∷ []) ∷ normal
joined entry true [] = broadcast_of entry.1.sent (delivery_of entry ∷ []) ∷ []
joined entry true (first ∷ others) = broadcast_of entry.1.sent (delivery_of entry ∷ first.deliveries) ∷ others

-- the first delivery belongs to the broadcast whose deliveries begin with this number
abbrev pub begin_with : ℕ → List (ℕ × Posted) → Bool
begin_with number [] = false
begin_with number (entry ∷ others) = entry.1.sent.first == number

-- the normal broadcasts that these deliveries belong to; the deliveries of a broadcast follow each other
abbrev pub grouped : List (ℕ × Posted) → List Normal
grouped [] = []
grouped (entry ∷ others) = joined entry (begin_with entry.1.sent.first others) (grouped others)

-- the delivery's number is one of its broadcast's numbers, which are below an end
pub record IsWithin (end : ℕ) (entry : ℕ × Posted) : Type 0 where
  pub from : entry.1.sent.first ≤ entry.0
  pub below : entry.0 < entry.1.sent.end
  pub ended : entry.1.sent.end ≤ end

-- the delivery's number is lower than the other's, and it is of the same broadcast or of one with lower numbers
pub record IsBefore (entry other : ℕ × Posted) : Type 0 where
  pub number : entry.0 < other.0
  pub sent : (entry.1.sent ≡ other.1.sent) ⊎ (entry.1.sent.end ≤ other.1.sent.first)

-- the deliveries are within an end and in order
abbrev pub AreInOrder : ℕ → List (ℕ × Posted) → Type 0
AreInOrder end [] = ⊤
AreInOrder end (entry ∷ others) = IsWithin end entry × AllByRecursion (IsBefore entry) others × AreInOrder end others

-- the delivery with this number
abbrev pub posted_at : ℕ → List (ℕ × Posted) → Option Posted
posted_at number entries = lookup (is_at (nat_cmp number)) entries

-- there is a delivery, and it passes the test
abbrev pub passes : (Posted → Bool) → Option Posted → Bool
passes test None = false
passes test (Some posted) = test posted

-- a delivery has the number, and it passes the test
abbrev pub passes_at : (Posted → Bool) → List (ℕ × Posted) → ℕ → Bool
passes_at test entries number = passes test (posted_at number entries)

-- the delivery has this deadline
abbrev pub has_deadline : ℕ → Posted → Bool
has_deadline deadline posted = posted.deadline == deadline

-- the delivery's deadline is at most this moment
abbrev pub is_late : ℕ → Posted → Bool
is_late now posted = nat_le posted.deadline now

-- no delivery is ever late
abbrev pub NoneLate : List (ℕ × Posted) → Type 0
NoneLate entries = (now number : ℕ) → passes_at (is_late now) entries number ≡ false

-- a delivery becomes late at this moment, and none is late before it
abbrev pub IsSoonest : List (ℕ × Posted) → ℕ → Type 0
IsSoonest entries deadline =
    ((number : ℕ) × (passes_at (has_deadline deadline) entries number ≡ true))
    × ((now number : ℕ) → now < deadline → passes_at (is_late now) entries number ≡ false)

-- the delivery is to this uid
abbrev pub is_to : ℕ → Posted → Bool
is_to uid posted = posted.spot.uid == uid

-- the delivery's receiver is struck
abbrev pub is_struck : (Spot → Bool) → Posted → Bool
is_struck struck posted = struck posted.spot

-- the pairs are the deadline and the number of each delivery, and the uid and the number of each
pub record AreIndexed (by_deadline : List (ℕ × ℕ)) (by_uid : List (ℕ × ℕ)) (entries : List (ℕ × Posted)) : Type 0 where
  pub deadlines : (deadline number : ℕ) → has by_deadline deadline number
      ≡ passes_at (has_deadline deadline) entries number
  pub uids : (uid number : ℕ) → has by_uid uid number ≡ passes_at (is_to uid) entries number

-- the delivery's number is at least the first number and below the other
abbrev pub is_between : ℕ → ℕ → ℕ × Posted → Bool
is_between first end entry = nat_le first entry.0 && nat_lt entry.0 end

-- the deliveries of what was sent to some receivers, with rising numbers
abbrev pub posted_to : Broadcast → ℕ → ℕ → List Spot → List (ℕ × Posted)
posted_to sent deadline number [] = []
posted_to sent deadline number (spot ∷ others) =
    (number, posted_as sent deadline spot) ∷ posted_to sent deadline (number + 1) others

-- the deliveries without this many numbers, from a given one on
abbrev pub without : ℕ → ℕ → List (ℕ × Posted) → List (ℕ × Posted)
without number zero entries = entries
without number (suc count) entries = without (number + 1) count (remove_entry (is_at (nat_cmp number)) entries)

-- a delivery as an item of its receiver's inbox
abbrev pub item_of : ℕ × Posted → Item
item_of entry = record {
  delivery = entry.0;
  broadcast = entry.1.sent.number;
  what = kinds.Normal entry.1.spot.aim entry.1.sent.intent;
}

-- the item of a delivery, if there is one
abbrev pub items_at : ℕ → Option Posted → List Item
items_at number None = []
items_at number (Some posted) = item_of (number, posted) ∷ []
