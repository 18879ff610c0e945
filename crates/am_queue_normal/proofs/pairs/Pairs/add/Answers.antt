use Rattle.std.proofs.Common.{◌∙◌}
use Rattle.std.specs.BTreeMap.{is_at}
use Rattle.am_queue_normal.specs.Pairs.{has, by_both}
use Rattle.am_queue_normal.proofs.Keys.{same_key, added}
use Rattle.am_queue_normal.proofs.pairs.Pairs.add.Goals as goal

pub returns-clause-ok : goal.returns-clause-ok
returns-clause-ok c = λ key' number'.
    rw (← c.self.view_is, ← same_key c.args.key c.args.number key' number')
    (c.in_ok-insert.ensures.updates.0 (key', number') ∙ added (is_at (by_both (c.args.key, c.args.number))
    (key', number')) (has c.self.inside.keys.keys key' number'))
