use Rattle.std.proofs.Common.{◌∙◌, sym}
use Rattle.am_model.specs.Broadcasts.{normals_keeping}
use Rattle.am_queue_normal.specs.Kept.{is_early}
use Rattle.am_queue_normal.proofs.Removing.{both_parts}
use Rattle.am_queue_normal.proofs.normals.Normals.expire.Goals as goal

pub returns-clause-normal : goal.returns-clause-normal
returns-clause-normal g c =
    both_parts c.loop-number.self (normals_keeping (is_early c.args.now) c.args.self.now.normal) c.args.self.now.end
    (sym c.in_default.ensures.late ∙ c.loop-number.invariant.early) c.loop-number.invariant.end
