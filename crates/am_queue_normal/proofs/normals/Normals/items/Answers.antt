use Rattle.std.proofs.Common.{◌≤◌, List, [], ◌∷◌, arith}
use Rattle.std.specs.List.{AllByRecursion}
use Rattle.am_queue_normal.proofs.Grouping.{items_grouped, items_rise}
use Rattle.am_queue_normal.proofs.Ordered.{Entry}
use Rattle.am_queue_normal.proofs.normals.Normals.items.Goals as goal

-- all numbers are from 0 on
from_zero : (es : List Entry) → AllByRecursion (λ (e : Entry). 0 ≤ e.0) es
from_zero [] = _
from_zero (e ∷ es) = (omega arith, from_zero es)

pub returns-clause-first : goal.returns-clause-first
returns-clause-first c =
    let q = c.self.inside in
    rw (← c.self.view_is, items_grouped c.args.uid q.end q.deliveries c.self.invariant) c.items.ensures

pub returns-clause-rise : goal.returns-clause-rise
returns-clause-rise c =
    let q = c.self.inside in
    rw (← c.self.view_is, items_grouped c.args.uid q.end q.deliveries c.self.invariant)
    (items_rise c.args.uid 0 q.end q.deliveries (from_zero q.deliveries) c.self.invariant)
