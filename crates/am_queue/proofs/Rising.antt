-- Results by rising delivery number.
use Rattle.std.proofs.Common.{◌≡◌, ℕ, ◌+◌, ◌<◌, ◌≤◌, Bool, true, false, not, cond, List, [], ◌∷◌, ◌++◌, length, get_or, refl, ap, arith, zero, suc, ◌⊎◌, inl, inr}
use Rattle.std.proofs.lemmas.Bool.{cases_lt}
use Rattle.std.proofs.lemmas.Bool.Decides.{nat_tests}
use Rattle.std.specs.List.{HoldsAt, filter}
use Rattle.std.specs.List.Sorted.{IsNonDecreasingBy, IsPartitionPoint}
use Rattle.std.specs.Ordering.{nat_cmp, ordering_index}
use Rattle.std.specs.declared.cmp.Ordering.TheVariants.{Less, Equal, Greater}
use Rattle.std.specs.Prelude.{Option, Some, None, ◌==◌}
use Rattle.am_model.specs.Broadcasts as broadcasts
use Rattle.am_model.specs.Broadcasts.{InTurn, Current, settled, is_over, result_of, with_results, dispatched}
use Rattle.am_model.specs.Sending.{held_in_results}
use Rattle.am_queue_normal.specs.Kept.{at_once_by}
use Rattle.am_queue.specs.Results.{AreRising, IsOnly, of_number}

-- they may rise from an earlier number
pub rising_earlier : (from from' end : ℕ) (results : List broadcasts.Result) → from' ≤ from → AreRising from end results
    → AreRising from' end results
rising_earlier from from' end [] less rising = omega (arith, less, rising)
rising_earlier from from' end (first ∷ others) less rising = (omega (arith, less, rising.0), rising.1)

-- and up to a later one
pub rising_further : (from end end' : ℕ) (results : List broadcasts.Result) → end ≤ end' → AreRising from end results
    → AreRising from end' results
rising_further from end end' [] more rising = omega (arith, more, rising)
rising_further from end end' (first ∷ others) more rising = (
  rising.0,
  rising_further (first.delivery + 1) end end'
      others more rising.1,
)

-- results after others that end where they begin
pub rising_behind : (from mid end : ℕ) (results more : List broadcasts.Result) → AreRising from mid results
    → AreRising mid end more → AreRising from end (results ++ more)
rising_behind from mid end [] more rising behind = rising_earlier mid from end more rising behind
rising_behind from mid end (first ∷ others) more rising behind = (
  rising.0,
  rising_behind (first.delivery + 1) mid end
      others more rising.1 behind,
)

-- those that a test keeps rise
pub rising_kept : (keeps : broadcasts.Result → Bool) (from end : ℕ) (results : List broadcasts.Result)
    → AreRising from end results → AreRising from end (filter keeps results)
rising_kept keeps from end [] rising = rising
rising_kept keeps from end (first ∷ others) rising = by (keeps first)
    (rising_kept keeps (first.delivery + 1) end others rising.1)
  where
    by : (b : Bool) → AreRising (first.delivery + 1) end (filter keeps others)
        → AreRising from end (cond b (first ∷ filter keeps others) (filter keeps others))
    by true rest = (rising.0, rest)
    by false rest = rising_earlier (first.delivery + 1) from end (filter keeps others) (omega (arith, rising.0)) rest

-- the results of a queue that settles have the numbers that were free
pub settled_fresh : (next deadline : ℕ) (queue : List InTurn) → AreRising next (settled next deadline queue).next
    (settled next deadline queue).results
settled_fresh next deadline [] = omega arith
settled_fresh next deadline (head ∷ others) = by (is_over head) (settled_fresh (next + length (result_of next head))
    deadline others)
  where
    one : broadcasts.Result
    one = record {
      delivery = next;
      broadcast = head.number;
      sender = head.sender;
      outcome = broadcasts.outcome_of head;
    }

    current : (c : Option Current) → AreRising next (dispatched next deadline head others c).next
        (dispatched next deadline head others c).results
    current (Some c) = omega arith
    current None = omega arith

    over : (wanted : Bool) → AreRising (next + length (cond wanted (one ∷ []) []))
        (settled (next + length (cond wanted (one ∷ []) [])) deadline others).next
        (settled (next + length (cond wanted (one ∷ []) [])) deadline others).results
        → AreRising next (settled (next + length (cond wanted (one ∷ []) [])) deadline others).next
        (cond wanted (one ∷ []) [] ++ (settled (next + length (cond wanted (one ∷ []) [])) deadline others).results)
    over true rest = (omega arith, rest)
    over false rest = rising_earlier (next + 0) next _ _ (omega arith) rest

    by : (b : Bool) → AreRising (next + length (result_of next head))
        (settled (next + length (result_of next head)) deadline others).next
        (settled (next + length (result_of next head)) deadline others).results
        → AreRising next (cond b (with_results (result_of next head)
        (settled (next + length (result_of next head)) deadline others))
        (dispatched next deadline head others head.current)).next
        (cond b (with_results (result_of next head) (settled (next + length (result_of next head)) deadline others))
        (dispatched next deadline head others head.current)).results
    by true rest = over head.wanted rest
    by false rest = current head.current

-- so they rise after the earlier ones
pub settled_rising : (next deadline : ℕ) (queue : List InTurn) (results : List broadcasts.Result)
    → AreRising 0 next results
    → AreRising 0 (settled next deadline queue).next (results ++ (settled next deadline queue).results)
settled_rising next deadline queue results rising =
    rising_behind 0 next (settled next deadline queue).next results (settled next deadline queue).results rising
    (settled_fresh next deadline queue)

above_differs : (n number : ℕ) → number < n → n == number ≡ false
above_differs n number above = grind (arith, nat_tests)

below_differs : (n number : ℕ) → n < number → n == number ≡ false
below_differs n number below = grind (arith, nat_tests)

-- no result has a number below the first
pub none_before : (number from end : ℕ) (results : List broadcasts.Result) → AreRising from end results → number < from
    → of_number number results ≡ []
none_before number from end [] rising below = refl
none_before number from end (first ∷ others) rising below =
    rw (above_differs first.delivery number (omega (arith, rising.0, below)))
    (none_before number (first.delivery + 1) end others rising.1 (omega (arith, rising.0, below)))

-- the numbers begin with the first
begins_from : (from end : ℕ) (results : List broadcasts.Result) (i : ℕ) (d : broadcasts.Result)
    → AreRising from end results → i < length results → from ≤ (get_or results i d).delivery
begins_from from end [] i d rising within = absurd (omega arith)
begins_from from end (first ∷ others) zero d rising within = rising.0
begins_from from end (first ∷ others) (suc i) d rising within =
    omega (arith, rising.0, begins_from (first.delivery + 1) end others i d rising.1 (omega arith))

-- a result is the only one with its number
pub only_one : (number from end : ℕ) (results : List broadcasts.Result) (i : ℕ) (d : broadcasts.Result)
    → AreRising from end results → i < length results
    → (get_or results i d).delivery ≡ number → of_number number results ≡ get_or results i d ∷ []
only_one number from end [] i d rising within is = absurd (omega arith)
only_one number from end (first ∷ others) zero d rising within is =
    rw (same first.delivery is) (ap (λ l. first ∷ l) (none_before number (first.delivery + 1) end others rising.1
    (omega (arith, is))))
  where
    same : (n : ℕ) → n ≡ number → n == number ≡ true
    same n is = grind (arith, nat_tests)
only_one number from end (first ∷ others) (suc i) d rising within is =
    rw (below_differs first.delivery number (omega (
      arith,
      is,
      begins_from (first.delivery + 1) end others i d rising.1
          (omega arith),
    )))
    (only_one number (first.delivery + 1) end others i d rising.1 (omega arith) is)

-- if no result has the number
pub none_of : (number : ℕ) (results : List broadcasts.Result) → ((i : ℕ) (d : broadcasts.Result) → i < length results
    → (get_or results i d).delivery == number ≡ false) → of_number number results ≡ []
none_of number [] none = refl
none_of number (first ∷ others) none = rw (none 0 first (omega arith))
    (none_of number others (λ i d within. none (suc i) d (omega arith)))

-- the numbers rise
numbers_rise : (from end : ℕ) (results : List broadcasts.Result) (i j : ℕ) (d : broadcasts.Result)
    → AreRising from end results → i ≤ j → j < length results
    → (get_or results i d).delivery ≤ (get_or results j d).delivery
numbers_rise from end [] i j d rising less within = absurd (omega arith)
numbers_rise from end (first ∷ others) zero zero d rising less within = omega arith
numbers_rise from end (first ∷ others) zero (suc j) d rising less within = omega
    (arith, begins_from (first.delivery + 1) end others j d rising.1 (omega arith))
numbers_rise from end (first ∷ others) (suc i) zero d rising less within = absurd (omega arith)
numbers_rise from end (first ∷ others) (suc i) (suc j) d rising less within = numbers_rise (first.delivery + 1) end
    others i j d rising.1 (omega arith) (omega arith)

-- a search by number finds the only one that has it
pub found_at : (number end : ℕ) (results : List broadcasts.Result) (place : ℕ) → AreRising 0 end results
    → place < length results
    → HoldsAt (λ (r : broadcasts.Result). nat_cmp r.delivery number ≡ Equal) results place → IsOnly number results place
found_at number end results place rising within at =
    (within, λ d. only_one number 0 end results place d rising within (same (get_or results place d).delivery (at d)))
  where
    same : (n : ℕ) → nat_cmp n number ≡ Equal → n ≡ number
    same n is = grind (arith, nat_tests)

-- and one that doesn't find it tells that none has it
pub found_nowhere : (number end : ℕ) (results : List broadcasts.Result) (place : ℕ) → AreRising 0 end results
    → (IsNonDecreasingBy (λ (r : broadcasts.Result). ordering_index (nat_cmp r.delivery number)) results
    → IsPartitionPoint (λ (r : broadcasts.Result). nat_cmp r.delivery number ≡ Less)
    (λ (r : broadcasts.Result). nat_cmp r.delivery number ≡ Greater) results place)
    → of_number number results ≡ []
found_nowhere number end results place rising searched = none_of number results
    (λ i d within. by i d within (cases_lt i place))
  where
    higher : (a b : ℕ) → a ≤ b → ordering_index (nat_cmp a number) ≤ ordering_index (nat_cmp b number)
    higher a b less = grind (arith, nat_tests)

    less_differs : (n : ℕ) → nat_cmp n number ≡ Less → n == number ≡ false
    less_differs n is = grind (arith, nat_tests)

    greater_differs : (n : ℕ) → nat_cmp n number ≡ Greater → n == number ≡ false
    greater_differs n is = grind (arith, nat_tests)

    parted : IsPartitionPoint (λ (r : broadcasts.Result). nat_cmp r.delivery number ≡ Less)
        (λ (r : broadcasts.Result). nat_cmp r.delivery number ≡ Greater) results place
    parted = searched (λ i j d less within. higher (get_or results i d).delivery (get_or results j d).delivery
        (numbers_rise 0 end results i j d rising less within))

    by : (i : ℕ) (d : broadcasts.Result) → i < length results → (i < place) ⊎ (place ≤ i)
        → (get_or results i d).delivery == number ≡ false
    by i d within (inl below) = less_differs (get_or results i d).delivery (parted.0 i d (omega arith) below)
    by i d within (inr from) = greater_differs (get_or results i d).delivery (parted.1 i d from within)

-- what has a number holds it
pub held_by_first : (number : ℕ) (results : List broadcasts.Result) (first : broadcasts.Result)
    → of_number number results ≡ first ∷ [] → held_in_results number results ≡ Some (at_once_by first.sender)
held_by_first number [] first is = cc
held_by_first number (r ∷ others) first is = by (r.delivery == number) is (held_by_first number others first)
  where
    by : (b : Bool) → cond b (r ∷ of_number number others) (of_number number others) ≡ first ∷ []
        → (of_number number others ≡ first ∷ [] → held_in_results number others ≡ Some (at_once_by first.sender))
        → cond b (Some (at_once_by r.sender)) (held_in_results number others) ≡ Some (at_once_by first.sender)
    by true is rest = let e : r ≡ first = cc in ap (λ (x : broadcasts.Result). Some (at_once_by x.sender)) e
    by false is rest = rest is

-- if none has it, nobody does
pub held_by_none : (number : ℕ) (results : List broadcasts.Result) → of_number number results ≡ []
    → held_in_results number results ≡ None
held_by_none number [] none = refl
held_by_none number (r ∷ others) none = by (r.delivery == number) none (held_by_none number others)
  where
    by : (b : Bool) → cond b (r ∷ of_number number others) (of_number number others) ≡ []
        → (of_number number others ≡ [] → held_in_results number others ≡ None)
        → cond b (Some (at_once_by r.sender)) (held_in_results number others) ≡ None
    by true none rest = cc
    by false none rest = rest none

-- and all stay without it
pub unheld_result : (number : ℕ) (results : List broadcasts.Result) → held_in_results number results ≡ None
    → filter (λ (r : broadcasts.Result). not (r.delivery == number)) results ≡ results
unheld_result number [] none = refl
unheld_result number (r ∷ others) none = by (r.delivery == number) none (unheld_result number others)
  where
    left : List broadcasts.Result
    left = filter (λ (r : broadcasts.Result). not (r.delivery == number)) others

    by : (b : Bool) → cond b (Some (at_once_by r.sender)) (held_in_results number others) ≡ None
        → (held_in_results number others ≡ None → left ≡ others)
        → cond (not b) (r ∷ left) left ≡ r ∷ others
    by true none rest = cc
    by false none rest = ap (λ l. r ∷ l) (rest none)
