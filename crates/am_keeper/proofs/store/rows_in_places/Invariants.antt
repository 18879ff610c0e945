use Rattle.std.proofs.Common.{◌≡◌, drop}
use Rattle.am_keeper.specs.Shelf.{rows_in_places}
use Rattle.am_keeper.proofs.store.rows_in_places.Given as goal

abbrev pub invariant-loop-place : goal.invariant-loop-place
invariant-loop-place l = rows_in_places (drop l.place-index l.places) l.path ≡ rows_in_places l.places l.path
