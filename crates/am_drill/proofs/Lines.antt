-- Lines of statuses, one after the other.
use Rattle.std.proofs.Common.{◌≡◌, ℕ, suc, ◌+◌, ◌-◌, ◌<◌, List, [], ◌∷◌, ◌++◌, refl, sym, ap, ◌∙◌, append_assoc, arith}
use Rattle.std.specs.List.{range_with_len}
use Rattle.am_drill.specs.Tallies.{all_statuses, line_of, lines_of}

-- a number below the end is the first that is left
pub first_left : (i end : ℕ) → i < end → range_with_len i (end - i) ≡ i ∷ range_with_len (i + 1) (end - (i + 1))
first_left i end below =
    let e : end - i ≡ suc (end - (i + 1)) = omega arith in
    rw e

-- none is left at the end
pub none_left : (end : ℕ) → range_with_len end (end - end) ≡ []
none_left end =
    let e : end - end ≡ 0 = omega arith in
    rw e

pub lines_begin : (statuses : List ℕ) → lines_of statuses (range_with_len 100 (600 - 100))
    ≡ lines_of statuses all_statuses
unfolding all_statuses
lines_begin statuses = refl

pub lines_go_on : (lines line statuses whole : List ℕ) (status : ℕ) → status < 600 → line ≡ line_of statuses status
    → lines ++ lines_of statuses (range_with_len status (600 - status)) ≡ whole
    → (lines ++ line) ++ lines_of statuses (range_with_len (status + 1) (600 - (status + 1))) ≡ whole
lines_go_on lines line statuses whole status below is so_far =
    append_assoc lines line _
    ∙ ap (λ l. lines ++ (l ++ lines_of statuses (range_with_len (status + 1) (600 - (status + 1))))) is
    ∙ ap (λ all. lines ++ lines_of statuses all) (sym (first_left status 600 below))
    ∙ so_far
