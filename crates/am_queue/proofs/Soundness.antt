-- What is done with the queues keeps them sound.
use Rattle.std.proofs.Common.{◌≡◌, ℕ, ◌+◌, ◌<◌, ◌≤◌, Bool, true, false, not, ◌||◌, cond, List, [], ◌∷◌, length, map, refl, ap, arith, suc, ◌⊎◌, inl, inr}
use Rattle.std.proofs.lemmas.Bool.Decides.{nat_tests}
use Rattle.std.proofs.lemmas.List.Sums.{sum_by-cons}
use Rattle.std.specs.Prelude.{Option, Some, None, ◌==◌}
use Rattle.std.proofs.lemmas.Bool.{or_parts, or_right}
use Rattle.am_types.specs.declared.broadcast.Spot.{Spot}
use Rattle.am_model.specs.Broadcasts.{InTurn, Current, Doing, Gone, Settled, turn, turned, settled, is_over, result_of, with_results, dispatched}
use Rattle.am_model.specs.Filters.{is_empty}
use Rattle.am_model.specs.Sending.{is_current, strike, strike_from, strike_rest, unwanted}
use Rattle.am_queue_ordered.proofs.Counting.{count_by-cons}
use Rattle.am_queue_ordered.proofs.Settling.{one_result}
use Rattle.am_queue_ordered.specs.Heads.{head_turned}
use Rattle.am_queue_ordered.specs.Counts.{queued_of}
use Rattle.am_queue.specs.Sound.{undelivered, owed, owed_in, has_current}
use Rattle.am_model.proofs.Lists.{length_left}

-- a change of ordered broadcasts that takes no number, gives no delivery and changes no sender
pub record IsMild (before after : InTurn) : Type 0 where
  pub owes_less : owed after ≤ owed before
  pub current : (number : ℕ) → is_current number after.current ≡ true → is_current number before.current ≡ true
  pub sender : after.sender ≡ before.sender

-- a turn
pub turn_mild : (doing : Doing) (b : InTurn) → IsMild b (turn doing b)
turn_mild doing b = record {
  owes_less = less b.rest b.current refl refl;
  current = λ number is. absurd
      (gone b.rest number is);
  sender = same b.rest;
}
  where
    less : (rest : List Spot) (current : Option Current) → b.rest ≡ rest → b.current ≡ current
        → owed (turned doing b rest) ≤ length (undelivered rest current) + 1
    less [] None is now = rw is (omega arith)
    less [] (Some current) is now = rw is (omega arith)
    less (spot ∷ rest) None is now = omega arith
    less (spot ∷ rest) (Some current) is now = omega arith

    gone : (rest : List Spot) (number : ℕ) → is_current number (turned doing b rest).current ≡ true → ⊥
    gone [] number is = cc
    gone (spot ∷ rest) number is = cc

    same : (rest : List Spot) → (turned doing b rest).sender ≡ b.sender
    same [] = refl
    same (spot ∷ rest) = refl

-- a strike
pub strike_mild : (struck : Spot → Bool) (b : InTurn) → IsMild b (strike struck b)
strike_mild struck b = record {
  owes_less = less b.rest b.current refl refl;
  current = still b.rest b.current refl refl;
  sender = same b.rest b.current;
}
  where
    keeps : Spot → Bool
    keeps = λ spot. not (struck spot)

    shown : (rest : List Spot) (current : Option Current) → b.rest ≡ rest → b.current ≡ current → owed b
        ≡ length (undelivered rest current) + 1
    shown rest current is now = rw (is, now) refl

    less : (rest : List Spot) (current : Option Current) → b.rest ≡ rest → b.current ≡ current
        → owed (strike_from struck b rest current) ≤ length (undelivered rest current) + 1
    less rest None is now = rw (now, is) (omega (arith, length_left keeps rest))
    less [] (Some current) is now = rw (shown [] (Some current) is now) (omega arith)
    less (spot ∷ rest) (Some current) is now = either (struck spot) refl
      where
        either : (gone : Bool) → struck spot ≡ gone → owed (cond gone (strike_rest struck (turn Gone b))
            (strike_rest struck b)) ≤ length rest + 1
        either true on = rw is (omega (arith, length_left keeps rest))
        either false on = rw (now, is, on) (omega (arith, length_left keeps rest))

    still : (rest : List Spot) (current : Option Current) → b.rest ≡ rest → b.current ≡ current → (number : ℕ)
        → is_current number (strike_from struck b rest current).current ≡ true → is_current number b.current ≡ true
    still rest None is now number on = on
    still [] (Some current) is now number on = on
    still (spot ∷ rest) (Some current) is now number on = either (struck spot) on
      where
        gone : (rest' : List Spot) → is_current number (turned Gone b rest').current ≡ true
            → is_current number b.current ≡ true
        gone [] is = cc
        gone (spot' ∷ rest') is = cc

        either : (gone' : Bool) → is_current number (cond gone' (strike_rest struck (turn Gone b))
            (strike_rest struck b)).current ≡ true → is_current number b.current ≡ true
        either true on = gone b.rest on
        either false on = on

    same : (rest : List Spot) (current : Option Current) → (strike_from struck b rest current).sender ≡ b.sender
    same rest None = refl
    same [] (Some current) = refl
    same (spot ∷ rest) (Some current) = either (struck spot)
      where
        gone : (rest' : List Spot) → (turned Gone b rest').sender ≡ b.sender
        gone [] = refl
        gone (spot' ∷ rest') = refl

        either : (gone' : Bool) → (cond gone' (strike_rest struck (turn Gone b)) (strike_rest struck b)).sender
            ≡ b.sender
        either true = gone b.rest
        either false = refl

-- a uid that no longer wants results
pub unwanted_mild : (uid : ℕ) (b : InTurn) → IsMild b (unwanted uid b)
unwanted_mild uid b = by (b.sender == uid)
  where
    by : (own : Bool) → IsMild b (cond own (record b { wanted = false }) b)
    by true = record { owes_less = omega arith; current = λ number is. is; sender = refl }
    by false = record { owes_less = omega arith; current = λ number is. is; sender = refl }

-- a change of queues that takes no number, gives no delivery and changes no sender
pub record AreMild (before after : List InTurn) : Type 0 where
  pub owe_less : owed_in after ≤ owed_in before
  pub current : (number : ℕ) → has_current number after ≡ true → has_current number before ≡ true
  pub senders : (uid : ℕ) → queued_of after uid ≡ queued_of before uid
  pub as_many : length after ≡ length before

-- no change
pub unchanged_mild : (queue : List InTurn) → AreMild queue queue
unchanged_mild queue = record {
  owe_less = omega arith;
  current = λ number is. is;
  senders = λ uid. refl;
  as_many = refl;
}

-- one more in front
one_mild : (b b' : InTurn) (others others' : List InTurn) → IsMild b b' → AreMild others others'
    → AreMild (b ∷ others) (b' ∷ others')
one_mild b b' others others' head rest = record {
  owe_less = rw (sum_by-cons, sum_by-cons) (omega (arith, head.owes_less, rest.owe_less));
  current = λ number. either (is_current number b'.current) (is_current number b.current) (has_current number others')
      (has_current number others) (head.current number) (rest.current number);
  senders = λ uid. rw (count_by-cons, count_by-cons, head.sender, rest.senders uid) refl;
  as_many = ap suc rest.as_many;
}
  where
    either : (x y more more' : Bool) → (x ≡ true → y ≡ true) → (more ≡ true → more' ≡ true) → x || more ≡ true
        → y || more' ≡ true
    either true y more more' first others is = rw (first refl) refl
    either false true more more' first others is = refl
    either false false more more' first others is = others is

-- the head's turn
pub head_turned_mild : (doing : Doing) (queue : List InTurn) → AreMild queue (head_turned doing queue)
head_turned_mild doing [] = unchanged_mild []
head_turned_mild doing (head ∷ others) = one_mild head (turn doing head) others others (turn_mild doing head)
    (unchanged_mild others)

-- a change of each
map_mild : (change : InTurn → InTurn) → ((b : InTurn) → IsMild b (change b)) → (queue : List InTurn)
    → AreMild queue (map change queue)
map_mild change mild [] = unchanged_mild []
map_mild change mild (b ∷ others) = one_mild b (change b) others (map change others) (mild b)
    (map_mild change mild others)

-- a strike of all
pub struck_mild : (struck : Spot → Bool) (queue : List InTurn) → AreMild queue (map (strike struck) queue)
struck_mild struck queue = map_mild (strike struck) (strike_mild struck) queue

-- a uid that wants no result
pub all_unwanted_mild : (uid : ℕ) (queue : List InTurn) → AreMild queue (map (unwanted uid) queue)
all_unwanted_mild uid queue = map_mild (unwanted uid) (unwanted_mild uid) queue

-- the delivery numbers that a queue may still take, after it settled
pub settled_owes : (next deadline : ℕ) (queue : List InTurn) → (settled next deadline queue).next + owed_in
    (settled next deadline queue).queue ≤ next + owed_in queue
settled_owes next deadline [] = omega arith
settled_owes next deadline (head ∷ others) =
    by (is_over head) refl (settled_owes (next + length (result_of next head)) deadline others)
  where
    rest_first : (rest : List Spot) → is_empty rest ≡ false → 1 ≤ length rest
    rest_first [] some = cc
    rest_first (spot ∷ rest) some = omega arith

    begun : (rest : List Spot) (number : ℕ) → is_empty rest ≡ false
        → length (undelivered rest (Some (record { number = number; deadline = deadline }))) + 1 ≤ length rest
    begun [] number some = cc
    begun (spot ∷ rest) number some = omega arith

    current : (c : Option Current) → head.current ≡ c → is_over head ≡ false
        → (dispatched next deadline head others c).next + owed_in (dispatched next deadline head others c).queue ≤ next
        + owed_in (head ∷ others)
    current (Some c) is on = omega arith
    current None is on =
        let some : is_empty head.rest ≡ false = (or_parts _ _ on).0 in
        let had : owed head ≡ length head.rest + 1 = rw is refl in
        rw (sum_by-cons, sum_by-cons) (omega (arith, had, begun head.rest next some))

    by : (over : Bool) → is_over head ≡ over
        → (settled (next + length (result_of next head)) deadline others).next + owed_in
        (settled (next + length (result_of next head)) deadline others).queue ≤
        (next + length (result_of next head)) + owed_in others
        → (cond over (with_results (result_of next head) (settled (next + length (result_of next head)) deadline
        others)) (dispatched next deadline head others head.current)).next
        + owed_in (cond over (with_results (result_of next head) (settled (next + length (result_of next head)) deadline
        others)) (dispatched next deadline head others head.current)).queue
        ≤ next + owed_in (head ∷ others)
    by true over rest = rw sum_by-cons (omega (arith, rest, one_result next head))
    by false over rest = current head.current refl over

-- its delivery numbers rise
pub settled_rises : (next deadline : ℕ) (queue : List InTurn) → next ≤ (settled next deadline queue).next
settled_rises next deadline [] = omega arith
settled_rises next deadline (head ∷ others) = by (is_over head) (settled_rises (next + length (result_of next head))
    deadline others)
  where
    current : (c : Option Current) → next ≤ (dispatched next deadline head others c).next
    current (Some c) = omega arith
    current None = omega arith

    by : (over : Bool) → next + length (result_of next head) ≤ (settled (next + length (result_of next head)) deadline
        others).next
        → next ≤ (cond over (with_results (result_of next head) (settled (next + length (result_of next head)) deadline
        others)) (dispatched next deadline head others head.current)).next
    by true rest = omega (arith, rest)
    by false rest = current head.current

-- a delivery of a queue that settled was there earlier, or has a number that was free
pub settled_current : (next deadline : ℕ) (queue : List InTurn) (number : ℕ)
    → has_current number (settled next deadline queue).queue ≡ true
    → (has_current number queue ≡ true) ⊎ ((next ≤ number) × (number < (settled next deadline queue).next))
settled_current next deadline [] number is = inl is
settled_current next deadline (head ∷ others) number is =
    by (is_over head) (settled_current (next + length (result_of next head)) deadline others number) is
  where
    rest : Settled
    rest = settled (next + length (result_of next head)) deadline others

    later : (has_current number others ≡ true) ⊎ ((next + length (result_of next head) ≤ number) × (number < rest.next))
        → (has_current number (head ∷ others) ≡ true) ⊎ ((next ≤ number) × (number < rest.next))
    later (inl old) = inl (or_right (is_current number head.current) (has_current number others) old)
    later (inr new) = inr (omega (arith, new.0), new.1)

    fresh : (same : Bool) → next == number ≡ same → same || has_current number others ≡ true
        → (has_current number (head ∷ others) ≡ true) ⊎ ((next ≤ number) × (number < next + 1))
    fresh true same is = let e : next ≡ number = number_of next number same in inr (omega arith, omega arith)
      where
        number_of : (a b : ℕ) → a == b ≡ true → a ≡ b
        number_of a b same = grind (arith, nat_tests)
    fresh false same is = inl (or_right (is_current number head.current) (has_current number others) is)

    current : (c : Option Current) → head.current ≡ c → has_current number
        (dispatched next deadline head others c).queue ≡ true
        → (has_current number (head ∷ others) ≡ true) ⊎ ((next ≤ number)
        × (number < (dispatched next deadline head others c).next))
    current (Some c) at is = inl is
    current None at is = fresh (next == number) refl is

    by : (over : Bool) → (has_current number rest.queue ≡ true → (has_current number others ≡ true) ⊎
        ((next + length (result_of next head) ≤ number) × (number < rest.next)))
        → has_current number (cond over (with_results (result_of next head) rest)
        (dispatched next deadline head others head.current)).queue ≡ true
        → (has_current number (head ∷ others) ≡ true) ⊎ ((next ≤ number)
        × (number < (cond over (with_results (result_of next head) rest)
        (dispatched next deadline head others head.current)).next))
    by true found is = later (found is)
    by false found is = current head.current refl is
