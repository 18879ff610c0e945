use Rattle.std.proofs.Common.{◌≡◌, take}
use Rattle.am_index.specs.declared.key.Key.{Key}
use Rattle.am_index.specs.Lists.{spots_at, noted, asks_for, KeepsOthers}
use Rattle.am_index.proofs.lists.note_groups.Given as goal

-- the spot is listed if the groups so far ask for it, and other packages keep theirs
abbrev pub invariant-loop-i : goal.invariant-loop-i
invariant-loop-i l = record {
  noted : (key : Key) → spots_at l.lists key ≡ noted (asks_for l.kind l.owner (take l.i l.groups) key) l.spot
      (spots_at l.initial.lists key);
  others : KeepsOthers l.spot.uid l.initial.lists l.lists;
}
