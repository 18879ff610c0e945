-- The greatest uid of rows.
use Rattle.std.proofs.Common.{◌≡◌, ℕ, ◌++◌, List, max, sym, ap, ◌∙◌}
use Rattle.std.specs.Prelude.{filter, Bool}
use Rattle.std.specs.List.{fold}
use Rattle.std.proofs.lemmas.List.Sums.{fold-append}
use Rattle.std.proofs.lemmas.List.Elements.{filter-append}

-- of some, and of those that pass a test among others and yet others
pub greatest_through : (test : ℕ → Bool) (least first second : ℕ) (xs ys zs : List ℕ) → first ≡ fold max least xs
    → second ≡ fold max first (filter test ys)
    → fold max second (filter test zs) ≡ fold max least (xs ++ filter test (ys ++ zs))
greatest_through test least first second xs ys zs one two =
    ap (λ n. fold max n (filter test zs)) (two ∙ ap (λ n. fold max n (filter test ys)) one)
    ∙ sym (fold-append max (fold max least xs) (filter test ys) (filter test zs))
    ∙ ap (fold max (fold max least xs)) (sym (filter-append test ys zs))
    ∙ sym (fold-append max least xs (filter test (ys ++ zs)))
