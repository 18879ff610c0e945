-- Draws behind other draws.
use Rattle.std.proofs.Common.{◌≡◌, ℕ, zero, suc, ◌+◌, ◌*◌, [], ◌∷◌, ◌++◌, sym, ap, ◌∙◌, arith}
use Rattle.std.proofs.lemmas.List.FromFn.{map-range_with_len_more}
use Rattle.am_drill.specs.Draws.{after, next}
use Rattle.am_drill.specs.Devices.{package_of, packages_of}

-- draws behind others are draws of all of them
pub after_both : (m n state : ℕ) → after m (after n state) ≡ after (n + m) state
after_both m zero state = let e : 0 + m ≡ m = omega arith in rw e
after_both m (suc n) state =
    let e : suc n + m ≡ suc (n + m) = omega arith in
    rw e (after_both m n (next state))

-- four draws more
pub four_more : (i state : ℕ) → after 4 (after (4 * i) state) ≡ after (4 * (i + 1)) state
four_more i state =
    let e : 4 * i + 4 ≡ 4 * (i + 1) = omega arith in
    after_both 4 (4 * i) state ∙ ap (λ n. after n state) e

-- one package more
pub one_package_more : (i state : ℕ) → packages_of i state ++ package_of i (after (4 * i) state) ∷ []
    ≡ packages_of (i + 1) state
one_package_more i state = sym (map-range_with_len_more (λ i. package_of i (after (4 * i) state)) 0 i i (omega arith))
