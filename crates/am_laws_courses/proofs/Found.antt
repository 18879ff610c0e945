-- The delivery of a broadcast in a queue is found by the broadcast's number, and none is found for a result.
use Rattle.std.proofs.Common.{◌≡◌, ℕ, ◌<◌, Bool, true, false, cond, eqb, List, [], ◌∷◌, ◌++◌, refl, sym, ap, ◌∙◌, arith}
use Rattle.std.specs.Prelude.{All, Option, Some, None, ◌==◌}
use Rattle.std.specs.List.{find}
use Rattle.std.proofs.lemmas.List.{append-nil}
use Rattle.std.proofs.lemmas.List.Elements.{All-nil, All-cons, All-head, All-tail, All-weaker}
use Rattle.am_model.specs.Broadcasts.{Broadcasts, InTurn, Result}
use Rattle.am_laws_courses.specs.Course.{turn_of, delivery_to, delivery_in, delivery_of}
use Rattle.am_laws_courses.proofs.Apart.{All-unmap, Differs, differs_test, Distinct}
use Rattle.am_laws_courses.proofs.Order.{numbers, AreInOrder}

-- the first broadcast of a number
abbrev pub found_in : List InTurn → ℕ → Option InTurn
found_in queue number = find (λ (b : InTurn). b.number == number) queue

-- it isn't in a queue of other numbers
pub passes_by : (number : ℕ) (queue others : List InTurn) → All (Differs number) (numbers queue)
    → found_in (queue ++ others) number ≡ found_in others number
passes_by number [] others all = refl
passes_by number (b ∷ queue) others all =
    let first : eqb b.number number ≡ false = differs_test number b.number
    (All-head (Differs number) b.number (numbers queue) all) in
    ap (λ (test : Bool). cond test (Some b) (found_in (queue ++ others) number)) first
    ∙ passes_by number queue others (All-tail (Differs number) b.number (numbers queue) all)

-- each of a queue of distinct numbers is found
each_found : (queue others : List InTurn) → Distinct (numbers queue)
    → All (λ (b : InTurn). found_in (queue ++ others) b.number ≡ Some b) queue
each_found [] others distinct = All-nil (λ (b : InTurn). found_in others b.number ≡ Some b)
each_found (head ∷ queue) others distinct =
    All-cons P head queue (ap (λ (test : Bool). cond test (Some head) (found_in (queue ++ others) head.number))
    (itself head.number))
    (λ k d below. later _ (All-unmap (Differs head.number) (λ (b : InTurn). b.number) queue distinct.0 k d below)
    (each_found queue others distinct.1 k d below))
  where
    P : InTurn → Type 0
    P b = found_in ((head ∷ queue) ++ others) b.number ≡ Some b

    itself : (n : ℕ) → eqb n n ≡ true
    itself n = grind (arith)

    later : (b : InTurn) → Differs head.number b.number → found_in (queue ++ others) b.number ≡ Some b → P b
    later b differs is =
        ap (λ (test : Bool). cond test (Some head) (found_in (queue ++ others) b.number))
        (differs_test b.number head.number (λ same. differs (sym same))) ∙ is

-- a broadcast in a queue is found by its number
abbrev pub IsTurn : Broadcasts → InTurn → Type 0
IsTurn all b = turn_of all b.number ≡ Some b

pub foreground_turns : (all : Broadcasts) → AreInOrder all → All (IsTurn all) all.foreground
foreground_turns all order = each_found all.foreground all.background order.apart.one

pub background_turns : (all : Broadcasts) → AreInOrder all → All (IsTurn all) all.background
background_turns all order =
    λ k d below.
    found _ (All-unmap Q (λ (b : InTurn). b.number) all.background order.apart.second k d below)
    (each_found all.background [] order.apart.two k d below)
  where
    Q : ℕ → Type 0
    Q n = (n < all.next_broadcast) × All (Differs n) (numbers all.foreground)

    found : (b : InTurn) → Q b.number → found_in (all.background ++ []) b.number ≡ Some b → IsTurn all b
    found b apart is =
        passes_by b.number all.foreground all.background apart.1
        ∙ ap (λ (l : List InTurn). found_in l b.number) (sym (append-nil all.background)) ∙ is

-- so is the delivery that it has
abbrev pub IsFound : Broadcasts → InTurn → Type 0
IsFound all b = delivery_of all b.number ≡ delivery_to b.current b.rest

pub foreground_found : (all : Broadcasts) → AreInOrder all → All (IsFound all) all.foreground
foreground_found all order = All-weaker (IsTurn all) (IsFound all) (λ b is. ap delivery_in is) all.foreground
    (foreground_turns all order)

pub background_found : (all : Broadcasts) → AreInOrder all → All (IsFound all) all.background
background_found all order = All-weaker (IsTurn all) (IsFound all) (λ b is. ap delivery_in is) all.background
    (background_turns all order)

-- and that of a result isn't found
abbrev pub IsLost : Broadcasts → Result → Type 0
IsLost all r = delivery_of all r.broadcast ≡ None

pub results_lost : (all : Broadcasts) → AreInOrder all → All (IsLost all) all.results
results_lost all order =
    All-weaker (λ (r : Result). Q r.broadcast) (IsLost all) lost all.results
    (All-unmap Q (λ (r : Result). r.broadcast) all.results order.apart.left)
  where
    Q : ℕ → Type 0
    Q n = (n < all.next_broadcast) × All (Differs n) (numbers all.foreground) × All (Differs n) (numbers all.background)

    lost : (r : Result) → Q r.broadcast → IsLost all r
    lost r apart =
        ap delivery_in (passes_by r.broadcast all.foreground all.background apart.1
        ∙ ap (λ (l : List InTurn). found_in l r.broadcast) (sym (append-nil all.background))
        ∙ passes_by r.broadcast all.background [] apart.2)
