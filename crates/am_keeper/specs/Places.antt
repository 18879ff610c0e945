-- The place of an item in an ordered list.
use Rattle.std.specs.Prelude.{◌≡◌, ℕ, ◌<◌, ◌≤◌, List, length, slice_index_or}
use Rattle.std.specs.declared.cmp.Ordering.{Ordering}
use Rattle.std.specs.declared.cmp.Ordering.TheVariants.{Less, Equal, Greater}

-- the item at this place ties with x, and those before it come before x
pub record IsPlaceOf {X : Type 0} (order : X → X → Ordering) (x : X) (xs : List X) (at : ℕ) : Type 0 where
  pub within : at < length xs
  pub before : (k : ℕ) (d : X) → k < at → order (slice_index_or xs k d) x ≡ Less
  pub ties : (d : X) → order (slice_index_or xs at d) x ≡ Equal

-- x would go to this place: those before it come before x, and the others after x
pub record IsGapFor {X : Type 0} (order : X → X → Ordering) (x : X) (xs : List X) (at : ℕ) : Type 0 where
  pub within : at ≤ length xs
  pub before : (k : ℕ) (d : X) → k < at → order (slice_index_or xs k d) x ≡ Less
  pub behind : (k : ℕ) (d : X) → at ≤ k → k < length xs → order (slice_index_or xs k d) x ≡ Greater
