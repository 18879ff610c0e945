use Rattle.std.proofs.Common.{◌∙◌}
use Rattle.am_drill.proofs.Beginning.{tells_none}
use Rattle.am_drill.proofs.manager.manager_of.Goals as goal

pub begin_fresh-requires-clause-told : goal.begin_fresh-requires-clause-told
begin_fresh-requires-clause-told c honest told tells =
    tells_none c.new-keeper.result c.finish-rows.result told c.new-3.result c.new-keeper.ensures
    (c.finish-rows.ensures.rows ∙ c.new.ensures) tells
