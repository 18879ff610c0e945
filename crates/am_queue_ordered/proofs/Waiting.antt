-- The broadcasts that wait after the head of a queue.
use Rattle.std.proofs.Common.{◌≡◌, ℕ, ◌<◌, Bool, true, false, ◌&&◌, cond, List, [], ◌∷◌, ◌++◌, length, map, get_or, refl, sym, ap, ◌∙◌, arith}
use Rattle.std.specs.Prelude.{Option, Some, None, is_none, ◌==◌}
use Rattle.std.specs.List.{flat_map, list_all}
use Rattle.am_types.specs.declared.broadcast.Spot.{Spot}
use Rattle.am_types.specs.declared.broadcast.Item.{Item}
use Rattle.am_model.specs.Broadcasts.{InTurn, Current}
use Rattle.am_model.specs.Sending.{strike, unwanted, turn_item, turn_items}
use Rattle.am_queue_ordered.specs.Heads.{waits, AllWait}

-- what changes no broadcast that waits into one that doesn't
all_wait_after : (change : InTurn → InTurn) → ((b : InTurn) → waits b ≡ true → waits (change b) ≡ true)
    → (queue : List InTurn)
    → list_all waits queue ≡ true → list_all waits (map change queue) ≡ true
all_wait_after change keeps [] wait = refl
all_wait_after change keeps (first ∷ others) wait =
    let parts = both (waits first) (list_all waits others) wait in
    rw (keeps first parts.0) (all_wait_after change keeps others parts.1)
  where
    both : (a b : Bool) → a && b ≡ true → (a ≡ true) × (b ≡ true)
    both true b pass = (refl, pass)
    both false b pass = cc

-- leaves the queue waiting after its head
waiting_after : (change : InTurn → InTurn) → ((b : InTurn) → waits b ≡ true → waits (change b) ≡ true)
    → (queue : List InTurn) → AllWait queue → AllWait (map change queue)
waiting_after change keeps [] wait = refl
waiting_after change keeps (head ∷ others) wait = all_wait_after change keeps others wait

-- those that wait still do after a strike
pub waiting_struck : (struck : Spot → Bool) (queue : List InTurn) → AllWait queue → AllWait (map (strike struck) queue)
waiting_struck struck queue wait = waiting_after (strike struck) (λ b w. by b b.current refl w) queue wait
  where
    by : (b : InTurn) (current : Option Current) → b.current ≡ current → is_none b.current ≡ true
        → is_none (strike struck b).current ≡ true
    by b None is w = rw is refl
    by b (Some current) is w = absurd cc

-- and after a uid no longer wants results
pub waiting_unwanted : (uid : ℕ) (queue : List InTurn) → AllWait queue → AllWait (map (unwanted uid) queue)
waiting_unwanted uid queue wait = waiting_after (unwanted uid) (λ b w. by b (b.sender == uid) w) queue wait
  where
    by : (b : InTurn) (own : Bool) → is_none b.current ≡ true → is_none
        (cond own (record b { wanted = false }) b).current ≡ true
    by b true w = w
    by b false w = w

-- one that waits gives no item
no_item : (uid : ℕ) (b : InTurn) → waits b ≡ true → turn_items uid b ≡ []
no_item uid b wait = by b.rest b.current wait
  where
    by : (rest : List Spot) (current : Option Current) → is_none current ≡ true → turn_item uid b rest current ≡ []
    by [] current w = refl
    by (spot ∷ rest) None w = refl
    by (spot ∷ rest) (Some current) w = cc

-- nor do many
no_items : (uid : ℕ) (queue : List InTurn) → list_all waits queue ≡ true → flat_map (turn_items uid) queue ≡ []
no_items uid [] wait = refl
no_items uid (first ∷ others) wait =
    let parts = both (waits first) (list_all waits others) wait in
    rw (no_item uid first parts.0) (no_items uid others parts.1)
  where
    both : (a b : Bool) → a && b ≡ true → (a ≡ true) × (b ≡ true)
    both true b pass = (refl, pass)
    both false b pass = cc

-- the items of a queue are the head's
pub items_of_head : (uid : ℕ) (queue : List InTurn) (head : InTurn) → 0 < length queue → head ≡ get_or queue 0 head
    → AllWait queue
    → flat_map (turn_items uid) queue ≡ turn_items uid head
items_of_head uid [] head some is wait = absurd (omega arith)
items_of_head uid (first ∷ others) head some is wait = rw (no_items uid others wait)
    (append-nil _ ∙ ap (turn_items uid) (sym is))
  where
    append-nil : (items : List Item) → items ++ [] ≡ items
    append-nil [] = refl
    append-nil (x ∷ xs) = ap (λ l. x ∷ l) (append-nil xs)
