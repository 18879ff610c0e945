-- No broadcast has a number that wasn't given out yet.
use Rattle.std.proofs.Common.{◌≡◌, ℕ, ◌<◌, ◌≤◌, List, [], sym, ap, ◌∙◌, arith}
use Rattle.std.specs.Prelude.{All, None}
use Rattle.std.proofs.lemmas.List.{append-nil}
use Rattle.std.proofs.lemmas.List.Elements.{All-weaker}
use Rattle.am_model.specs.Broadcasts.{Broadcasts, InTurn}
use Rattle.am_laws_courses.specs.Course.{turn_of, delivery_in, delivery_of}
use Rattle.am_laws_courses.proofs.Apart.{Differs}
use Rattle.am_laws_courses.proofs.Order.{numbers, AreInOrder}
use Rattle.am_laws_courses.proofs.Found.{found_in, passes_by}

-- no broadcast has a number that wasn't given out
pub none_has : (all : Broadcasts) (number : ℕ) → AreInOrder all → all.next_broadcast ≤ number → turn_of all number
    ≡ None
none_has all number order free =
    passes_by number all.foreground all.background (All-weaker (λ n. (n < all.next_broadcast)
    × All (Differs n) (numbers all.background)) (Differs number)
    (λ n is same. let low : n < all.next_broadcast = is.0 in omega arith) (numbers all.foreground) order.apart.first)
    ∙ ap (λ (l : List InTurn). found_in l number) (sym (append-nil all.background))
    ∙ passes_by number all.background [] (All-weaker (λ n. (n < all.next_broadcast)
    × All (Differs n) (numbers all.foreground)) (Differs number)
    (λ n is same. let low : n < all.next_broadcast = is.0 in omega arith) (numbers all.background) order.apart.second)

pub none_delivered : (all : Broadcasts) (number : ℕ) → AreInOrder all → all.next_broadcast ≤ number
    → delivery_of all number ≡ None
none_delivered all number order free = ap delivery_in (none_has all number order free)
