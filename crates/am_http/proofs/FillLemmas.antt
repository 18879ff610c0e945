-- Reading into the room behind the bytes of a window.
use Rattle.std.proofs.Common.{◌≡◌, ℕ, ◌+◌, ◌≤◌, List, ◌++◌, length, take, drop, sym, ap, ◌∙◌, arith, length-drop}
use Rattle.std.proofs.Math.Seq.{take-append_seam, take-add}
use Rattle.std.proofs.lemmas.List.{length-take}

-- what was written over a whole slice is the slice
written_back : (n : ℕ) (xs ys : List ℕ) → length xs ≡ n → take n (xs ++ ys) ≡ xs
written_back n xs ys h = ap (λ k. take k (xs ++ ys)) (sym h) ∙ take-append_seam xs ys

-- the bytes that were there, and then those that were read
pub filled : (items now s1 b1 s2 b2 y1 y2 : List ℕ) (start end e count n : ℕ)
    → drop start (take end items) ≡ now → s1 ≡ items → take e b1 ≡ drop start (take end s1)
    → s2 ≡ take n (b1 ++ y1) → length b1 ≡ n → take e b2 ≡ take e s2 → length b2 ≡ n
    → take (e + count) (take n (b2 ++ y2)) ≡ now ++ take count (drop e b2)
filled items now s1 b1 s2 b2 y1 y2 start end e count n view whole moved again fits front fits' =
    ap (take (e + count)) (written_back n b2 y2 fits')
    ∙ take-add e count b2
    ∙ ap (λ xs. xs ++ take count (drop e b2))
    (front
    ∙ ap (take e) (again ∙ written_back n b1 y1 fits)
    ∙ moved
    ∙ ap (λ xs. drop start (take end xs)) whole
    ∙ view)

-- as many as were read
pub filled_count : (b2 : List ℕ) (e count : ℕ) → e + count ≤ length b2 → length (take count (drop e b2)) ≡ count
filled_count b2 e count within = omega (arith, length-take count (drop e b2), length-drop e b2)
