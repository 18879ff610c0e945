-- What can be said about any keeper.
use Rattle.am_keeper.specs.declared.keeper.Keeper.{Ghosts}
use Rattle.am_keeper.specs.Keeping.{Seen, seen_by}

-- what a keeper's ghosts say about it
abbrev pub seen : {K : Type 0} → Ghosts K → K → Seen
seen g = seen_by g.rows g.place g.is_honest g.stays_honest g.faults g.puts
