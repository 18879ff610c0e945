use Rattle.std.proofs.Common.{◌≡◌}
use Rattle.sqlite.specs.Held.{state}
use Rattle.am_keeper_sql.specs.Table.{kept_schema}
use Rattle.am_keeper_sql.specs.Honest.{IsHonest}
use Rattle.am_keeper_sql.specs.Failing.{Lasts}
use Rattle.am_keeper_sql.proofs.Reading.{HasRead}
use Rattle.am_keeper_sql.proofs.table.select.Given as goal

abbrev pub invariant-rows : goal.invariant-rows
invariant-rows g l =
    let old = l.fn.conn in
    let now = l.found.conn.now in
    (l.found.conn.ghost_name ≡ l.initial.found.conn.ghost_name) × (IsHonest (state g.S.Store now)
    → IsHonest (state g.S.Store old))
    × (IsHonest (state g.S.Store now) → old.schema ≡ kept_schema → HasRead g.S.Store old now l.rows)
    × Lasts (state g.S.Store old) (state g.S.Store now)
