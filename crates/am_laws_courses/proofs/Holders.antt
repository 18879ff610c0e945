-- Each number of a delivery or a result is for one uid, also when queues settle.
use Rattle.std.proofs.Common.{◌≡◌, ℕ, ◌+◌, ◌<◌, ◌≤◌, Bool, true, false, cond, eqb, List, [], ◌∷◌, ◌++◌, length, refl, ap, ◌∙◌, arith}
use Rattle.std.specs.Prelude.{All, Option, Some, None}
use Rattle.std.proofs.lemmas.Bool.{eqb-true}
use Rattle.std.proofs.lemmas.List.Elements.{All-nil, All-cons, All-tail, All-append, All-weaker}
use Rattle.am_types.specs.declared.broadcast.Spot.{Spot}
use Rattle.am_model.specs.Broadcasts.{Broadcasts, InTurn, Normal, Delivery, Current, Result, Settled, no_broadcasts, span, outcome_of, result_of, dispatched, with_results, settled, settle, settle_both, is_over}

-- a number that was given out is for the uid
pub record IsFor (f : ℕ → ℕ) (next number uid : ℕ) : Type 0 where
  pub below : number < next
  pub is : f number ≡ uid

-- the delivery of an ordered broadcast, if there is one, is for the first receiver that is left
abbrev pub CurrentFor : (ℕ → ℕ) → ℕ → List Spot → Option Current → Type 0
CurrentFor f next rest None = Unit {0}
CurrentFor f next [] (Some current) = Unit {0}
CurrentFor f next (spot ∷ rest) (Some current) = IsFor f next current.number spot.uid

abbrev pub TurnFor : (ℕ → ℕ) → ℕ → InTurn → Type 0
TurnFor f next b = CurrentFor f next b.rest b.current

-- the deliveries of a normal broadcast are for their receivers
abbrev pub NormalFor : (ℕ → ℕ) → ℕ → Normal → Type 0
NormalFor f next n = All (λ (d : Delivery). IsFor f next d.number d.spot.uid) n.deliveries

-- a result is for its sender
abbrev pub ResultFor : (ℕ → ℕ) → ℕ → Result → Type 0
ResultFor f next r = IsFor f next r.delivery r.sender

-- each number that was given out is for one uid
pub record IsHeldBy (f : ℕ → ℕ) (all : Broadcasts) : Type 0 where
  pub normal : All (NormalFor f all.next_delivery) all.normal
  pub foreground : All (TurnFor f all.next_delivery) all.foreground
  pub background : All (TurnFor f all.next_delivery) all.background
  pub results : All (ResultFor f all.next_delivery) all.results

-- some function tells whom each number is for
pub record HasHolders (all : Broadcasts) : Type 0 where
  pub holder : ℕ → ℕ
  pub held : IsHeldBy holder all

-- another function that tells the same of the numbers that were given out
pub record Raises (f g : ℕ → ℕ) (next more : ℕ) : Type 0 where
  pub up : next ≤ more
  pub same : (n : ℕ) → n < next → g n ≡ f n

module _ (f g : ℕ → ℕ) (next more : ℕ) (raises : Raises f g next more) where
  pub raise_for : (number uid : ℕ) → IsFor f next number uid → IsFor g more number uid
  raise_for number uid one = record {
    below = let up : next ≤ more = raises.up in let low : number < next = one.below in
        omega arith;
    is = raises.same number one.below ∙ one.is;
  }

  raise_current : (rest : List Spot) (current : Option Current) → CurrentFor f next rest current
      → CurrentFor g more rest current
  raise_current rest None one = tt
  raise_current [] (Some current) one = tt
  raise_current (spot ∷ rest) (Some current) one = raise_for current.number spot.uid one

  pub raise_queue : (queue : List InTurn) → All (TurnFor f next) queue → All (TurnFor g more) queue
  raise_queue queue all = All-weaker (TurnFor f next) (TurnFor g more) (λ b one. raise_current b.rest b.current one)
      queue all

  pub raise_normal : (normal : List Normal) → All (NormalFor f next) normal → All (NormalFor g more) normal
  raise_normal normal all =
      All-weaker (NormalFor f next) (NormalFor g more)
      (λ n each. All-weaker (λ (d : Delivery). IsFor f next d.number d.spot.uid)
      (λ (d : Delivery). IsFor g more d.number d.spot.uid) (λ d one. raise_for d.number d.spot.uid one) n.deliveries
      each)
      normal all

  pub raise_results : (results : List Result) → All (ResultFor f next) results → All (ResultFor g more) results
  raise_results results all = All-weaker (ResultFor f next) (ResultFor g more)
      (λ r one. raise_for r.delivery r.sender one) results all

-- the same function, and one behind another
raises_same : (f : ℕ → ℕ) (next : ℕ) → Raises f f next next
raises_same f next = record { up = omega arith; same = λ n low. refl }

pub raises_through : (f g h : ℕ → ℕ) (next more most : ℕ) → Raises f g next more → Raises g h more most
    → Raises f h next most
raises_through f g h next more most first second = record {
  up = let one : next ≤ more = first.up in let two : more ≤ most = second.up in omega arith;
  same = λ n low. let one : next ≤ more = first.up in let lower : n < more = omega arith in second.same n lower
      ∙ first.same n low;
}

-- one more number
pub with_holder : (ℕ → ℕ) → ℕ → ℕ → ℕ → ℕ
with_holder f next uid n = cond (eqb n next) uid (f n)

pub raises_one : (f : ℕ → ℕ) (next uid : ℕ) → Raises f (with_holder f next uid) next (next + 1)
unfolding with_holder
raises_one f next uid = record { up = omega arith; same = λ n low. by n low (eqb n next) refl }
  where
    by : (n : ℕ) → n < next → (b : Bool) → eqb n next ≡ b → cond b uid (f n) ≡ f n
    by n low true same = absurd (let e : n ≡ next = eqb-true n next same in omega arith)
    by n low false same = refl

pub new_for : (f : ℕ → ℕ) (next uid : ℕ) → IsFor (with_holder f next uid) (next + 1) next uid
unfolding with_holder
new_for f next uid = record { below = omega arith; is = ap (λ b. cond b uid (f next)) (itself next) }
  where
    itself : (n : ℕ) → eqb n n ≡ true
    itself n = grind (arith)

-- a queue that settled
record SettlesFor (f : ℕ → ℕ) (next : ℕ) (after : Settled) : Type 0 where
  pub holder : ℕ → ℕ
  pub raises : Raises f holder next after.next
  pub queue : All (TurnFor holder after.next) after.queue
  pub results : All (ResultFor holder after.next) after.results

dispatched_for : (f : ℕ → ℕ) (next deadline : ℕ) (head : InTurn) (others : List InTurn) (current : Option Current)
    → head.current ≡ current
    → All (TurnFor f next) (head ∷ others) → SettlesFor f next (dispatched next deadline head others current)
dispatched_for f next deadline head others (Some current) is all = record
    { holder = f; raises = raises_same f next; queue = all; results = All-nil (ResultFor f next) }
dispatched_for f next deadline head others None is all = by head.rest
  where
    given : Current
    given = record { number = next; deadline = deadline }

    first : (rest : List Spot) → ℕ
    first [] = 0
    first (spot ∷ rest) = spot.uid

    one : (rest : List Spot) → CurrentFor (with_holder f next (first rest)) (next + 1) rest (Some given)
    one [] = tt
    one (spot ∷ rest) = new_for f next spot.uid

    by : List Spot → SettlesFor f next (dispatched next deadline head others None)
    by rest = record {
      holder = with_holder f next (first head.rest);
      raises = raises_one f next (first head.rest);
      queue = All-cons (TurnFor (with_holder f next (first head.rest)) (next + 1))
          (record head { current = Some given }) others (one head.rest)
          (raise_queue f (with_holder f next (first head.rest)) next (next + 1) (raises_one f next (first head.rest))
          others (All-tail (TurnFor f next) head others all));
      results = All-nil (ResultFor (with_holder f next (first head.rest)) (next + 1));
    }

-- the results of a head that is over
record ResultsFor (f : ℕ → ℕ) (next : ℕ) (left : List Result) : Type 0 where
  pub holder : ℕ → ℕ
  pub raises : Raises f holder next (next + length left)
  pub results : All (ResultFor holder (next + length left)) left

result_for : (f : ℕ → ℕ) (next : ℕ) (head : InTurn) → ResultsFor f next (result_of next head)
result_for f next head = by head.wanted
  where
    one : Result
    one = record { delivery = next; broadcast = head.number; sender = head.sender; outcome = outcome_of head }

    by : (wanted : Bool) → ResultsFor f next (cond wanted (one ∷ []) [])
    by true =
        let g = with_holder f next head.sender in
        record {
          holder = g;
          raises = raises_one f next head.sender;
          results = All-cons (ResultFor g (next + 1)) one []
              (new_for f next head.sender) (All-nil (ResultFor g (next + 1)));
        }
    by false = record {
      holder = f;
      raises = record { up = omega arith; same = λ n low. refl };
      results = All-nil
          (ResultFor f (next + 0));
    }

settled_for : (f : ℕ → ℕ) (next deadline : ℕ) (queue : List InTurn) → All (TurnFor f next) queue
    → SettlesFor f next (settled next deadline queue)
settled_for f next deadline [] all = record {
  holder = f;
  raises = raises_same f next;
  queue = all;
  results = All-nil
      (ResultFor f next);
}
settled_for f next deadline (head ∷ others) all =
    by (is_over head)
    (settled_for gone.holder more deadline others (raise_queue f gone.holder next more gone.raises others
    (All-tail (TurnFor f next) head others all)))
  where
    results : List Result
    results = result_of next head

    more : ℕ
    more = next + length results

    gone : ResultsFor f next results
    gone = result_for f next head

    by : (over : Bool) → SettlesFor gone.holder more (settled more deadline others)
        → SettlesFor f next (cond over (with_results results (settled more deadline others))
        (dispatched next deadline head others head.current))
    by true rest =
        let after = settled more deadline others in
        record {
          holder = rest.holder;
          raises = raises_through f gone.holder rest.holder next more after.next gone.raises rest.raises;
          queue = rest.queue;
          results = All-append (ResultFor rest.holder after.next) results after.results
              (raise_results gone.holder rest.holder more after.next rest.raises results gone.results) rest.results;
        }
    by false rest = dispatched_for f next deadline head others head.current refl all

-- no broadcast
pub none_held : HasHolders no_broadcasts
none_held = record {
  holder = λ n. 0;
  held = record {
    normal = All-nil (NormalFor (λ n. 0) 1);
    foreground = All-nil (TurnFor (λ n. 0) 1);
    background = All-nil (TurnFor (λ n. 0) 1);
    results = All-nil (ResultFor (λ n. 0) 1);
  };
}

-- one queue settled, and the other one has turns as before
settled_held : (all : Broadcasts) (has : HasHolders all) (after : Settled)
    (settles : SettlesFor has.holder all.next_delivery after) (foreground background : List InTurn)
    → All (TurnFor settles.holder after.next) foreground → All (TurnFor settles.holder after.next) background
    → HasHolders (record all {
      foreground = foreground;
      background = background;
      results = all.results
          ++ after.results;
      next_delivery = after.next;
    })
settled_held all has after settles foreground background ahead behind = record {
  holder = settles.holder;
  held = record {
    normal = raise_normal has.holder settles.holder all.next_delivery after.next settles.raises all.normal
        has.held.normal;
    foreground = ahead;
    background = behind;
    results = All-append (ResultFor settles.holder after.next) all.results after.results
        (raise_results has.holder settles.holder all.next_delivery after.next settles.raises all.results
        has.held.results) settles.results;
  };
}

-- a queue of all broadcasts settles
pub settle_held : (foreground : Bool) (now : ℕ) (all : Broadcasts) → HasHolders all
    → HasHolders (settle foreground now all)
settle_held true now all has =
    let after = settled all.next_delivery (now + span true) all.foreground in
    let settles = settled_for has.holder all.next_delivery (now + span true) all.foreground has.held.foreground in
    settled_held all has after settles after.queue all.background settles.queue
    (raise_queue has.holder settles.holder all.next_delivery after.next settles.raises all.background
    has.held.background)
settle_held false now all has =
    let after = settled all.next_delivery (now + span false) all.background in
    let settles = settled_for has.holder all.next_delivery (now + span false) all.background has.held.background in
    settled_held all has after settles all.foreground after.queue
    (raise_queue has.holder settles.holder all.next_delivery after.next settles.raises all.foreground
    has.held.foreground) settles.queue

pub both_held : (now : ℕ) (all : Broadcasts) → HasHolders all → HasHolders (settle_both now all)
both_held now all has = settle_held false now (settle true now all) (settle_held true now all has)
