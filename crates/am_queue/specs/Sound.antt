-- What always holds of all broadcasts: numbers that are still free, and heads whose deliveries differ.
use Rattle.std.specs.Prelude.{◌≡◌, ℕ, ◌+◌, ◌*◌, ◌≤◌, Bool, true, List, [], ◌∷◌, length, Option, Some, None}
use Rattle.std.specs.List.{list_any, sum_by}
use Rattle.am_types.specs.declared.broadcast.Spot.{Spot}
use Rattle.am_model.specs.Broadcasts as broadcasts
use Rattle.am_model.specs.Broadcasts.{Broadcasts, Normal, InTurn, Current}
use Rattle.am_model.specs.Sending.{live, is_current}
use Rattle.am_queue_ordered.specs.Counts.{count_of}
use Rattle.am_queue.specs.Results.{AreRising}

-- the remaining receivers that have had no delivery yet
abbrev pub undelivered : List Spot → Option Current → List Spot
undelivered rest None = rest
undelivered [] (Some current) = []
undelivered (spot ∷ rest) (Some current) = rest

-- how many delivery numbers an ordered broadcast may still take: one for each such receiver, and one for its result
abbrev pub owed : InTurn → ℕ
owed broadcast = length (undelivered broadcast.rest broadcast.current) + 1

-- how many delivery numbers a queue may still take
abbrev pub owed_in : List InTurn → ℕ
owed_in queue = sum_by owed queue

-- an ordered broadcast in the queue has a delivery with this number
abbrev pub has_current : ℕ → List InTurn → Bool
has_current number queue = list_any (λ (b : InTurn). is_current number b.current) queue

-- two queues: the delivery numbers below a bound suffice for both, those from the next one on are free, and no delivery
-- in one queue has the number of a delivery in the other
pub record ShareNumbers (next : ℕ) (bound : ℕ) (one : List InTurn) (other : List InTurn) : Type 0 where
  pub suffice : next + owed_in one + owed_in other ≤ bound
  pub one_free : (number : ℕ) → next ≤ number → has_current number one ≡ true → ⊥
  pub other_free : (number : ℕ) → next ≤ number → has_current number other ≡ true → ⊥
  pub differ : (number : ℕ) → has_current number one ≡ true → has_current number other ≡ true → ⊥

-- the queues share the delivery numbers, the numbers of broadcasts are bounded, and the numbers of the results rise
pub record IsSound (all : Broadcasts) : Type 0 where
  pub queues : ShareNumbers all.next_delivery (1025 * all.next_broadcast) all.foreground all.background
  pub broadcasts : all.next_broadcast ≤ 1125899906842625
  pub rising : AreRising 0 all.next_delivery all.results

-- each sender's number is the number of its live broadcasts
abbrev pub AreCounted : List (ℕ × ℕ) → Broadcasts → Type 0
AreCounted counts all = (uid : ℕ) → count_of counts uid ≡ live all uid

-- all broadcasts, assembled from their parts
abbrev pub all_of : List Normal → List InTurn → List InTurn → List broadcasts.Result → ℕ → ℕ → Broadcasts
all_of normal foreground background results next_broadcast next_delivery = record {
  normal = normal;
  foreground = foreground;
  background = background;
  results = results;
  next_broadcast = next_broadcast;
  next_delivery = next_delivery;
}

-- the parts are sound, their senders' numbers count them, and there is room for a result of each broadcast in the
-- queues
pub record AreSound (end : ℕ) (room : ℕ) (counts : List (ℕ × ℕ)) (all : Broadcasts) : Type 0 where
  pub sound : IsSound all
  pub counted : AreCounted counts all
  pub end_before : end ≤ all.next_delivery
  pub results_fit : length all.foreground + length all.background ≤ room
