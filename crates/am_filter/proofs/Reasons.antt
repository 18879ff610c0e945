-- Two reasons, one after the other, as a result.
use Rattle.std.proofs.Common.{◌≡◌, Option, Some, None, Ok, Err, refl}
use Rattle.am_types.specs.declared.filter.Why.{Why}
use Rattle.am_model.specs.Filters.{or_else}
use Rattle.am_filter.specs.Answers.{answer_of}

-- the first counts
pub first_counts : (first other : Option Why) (reason : Why) → Err reason ≡ answer_of first
    → Err reason ≡ answer_of (or_else first other)
first_counts None other reason is = absurd cc
first_counts (Some found) other reason is = is

-- if there is none, the second
pub second_counts : (first other : Option Why) (none : Unit {0}) → Ok none ≡ answer_of first
    → answer_of other ≡ answer_of (or_else first other)
second_counts None other none is = refl
second_counts (Some found) other none is = absurd cc
