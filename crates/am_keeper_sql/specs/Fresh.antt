-- A keeper that was just handed out, and what a keeper tells.
use Rattle.std.specs.Prelude.{◌≡◌, ℕ, List, Option, Some}
use Rattle.sqlite.specs.Store.{Ghosts}
use Rattle.am_keeper.specs.Keeping.{Seen}
use Rattle.am_keeper_sql.specs.Honest.{IsHonest, IsHonestForGood, state_of, told_by}
use Rattle.am_keeper_sql.specs.declared.keeper.SqlKeeper.{SqlKeeper}

-- it is at this place, or has none, and no fault was counted yet
abbrev pub IsFresh : {F : Type 0} {g : Ghosts F} → Option (List ℕ) → SqlKeeper F g → Type 0
IsFresh place keeper = (keeper.place ≡ place) × (keeper.faults ≡ 0)

-- what a keeper tells at a moment
abbrev pub seen_of : {F : Type 0} (g : Ghosts F) → SqlKeeper F g → Seen
seen_of g keeper = record {
  rows = Some (told_by (state_of g keeper.database));
  place = keeper.place;
  honest = IsHonest (state_of g keeper.database);
  for_good = IsHonestForGood g keeper.database;
  faults = keeper.faults;
  puts = keeper.puts;
}
