-- Items in order by number.
use Rattle.std.specs.Prelude.{ℕ, ◌+◌, nat_lt, List, [], ◌∷◌, if◌then◌else◌}
use Rattle.am_types.specs.declared.broadcast.Item.{Item}

-- how many items come before those above a number
abbrev pub place_of : ℕ → List Item → ℕ
place_of number [] = 0
place_of number (first ∷ others) = if nat_lt number first.delivery then 0 else place_of number others + 1
