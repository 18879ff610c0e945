-- A list that is mapped one element after the other.
use Rattle.std.proofs.Common.{◌≡◌, ℕ, ◌+◌, ◌<◌, List, [], ◌∷◌, ◌++◌, length, get_or, set, take, drop, map, sym, ap, ◌∙◌, arith, append_assoc}
use Rattle.std.proofs.lemmas.List.{drop_more, set_at, get_or_at, map_more, length-map, length-take-le}

-- one more element is mapped
pub mapped_more : {X : Type 0} (f : X → X) (xs whole : List X) (i : ℕ) (d y : X) → xs ≡ map f (take i whole)
    ++ drop i whole → i < length whole → y ≡ f (get_or xs i d)
    → set xs i y ≡ map f (take (i + 1) whole) ++ drop (i + 1) whole
mapped_more {X} f xs whole i d y is low mapped =
    let front : List X = map f (take i whole) in
    let x : X = get_or whole i d in
    let split : xs ≡ front ++ x ∷ drop (i + 1) whole = is ∙ ap (λ l. front ++ l) (drop_more whole i d low) in
    let count : length front ≡ i = length-map (take i whole) f ∙ length-take-le i whole (omega arith) in
    let here : get_or xs i d ≡ x = ap (λ l. get_or l i d) split ∙ get_or_at front x (drop (i + 1) whole) d i count in
    let put : set xs i y ≡ front ++ y ∷ drop (i + 1) whole = ap (λ l. set l i y) split
    ∙ set_at front x (drop (i + 1) whole) y i count in
    let new : y ≡ f x = mapped ∙ ap f here in
    put
    ∙ ap (λ v. front ++ v ∷ drop (i + 1) whole) new
    ∙ sym (append_assoc front (f x ∷ []) (drop (i + 1) whole))
    ∙ ap (λ l. l ++ drop (i + 1) whole) (sym (map_more f whole i d low))
