-- What a read in memory has given.
use Rattle.std.proofs.Common.{◌≡◌, ℕ, ◌+◌, List, ◌++◌, take, drop, ap, sym, ◌∙◌}
use Rattle.std.proofs.Math.Seq.{take-add}

-- what was given before, and then the front of what was left
pub given_grows : (bytes given into : List ℕ) (at k : ℕ) → take at bytes ≡ given → take k into ≡ take k (drop at bytes)
    → take (at + k) bytes ≡ given ++ take k into
given_grows bytes given into at k before copied =
    take-add at k bytes ∙ (ap (λ front. front ++ take k (drop at bytes)) before
    ∙ ap (λ back. given ++ back) (sym copied))
