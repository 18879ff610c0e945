use Rattle.std.proofs.Common.{ap, ◌∙◌, length}
use Rattle.am_manifest_queries.proofs.Lengths.{parts_long}
use Rattle.am_manifest_queries.proofs.device.read_described.Goals as goal

pub returns-in-Ok-clause-each : goal.returns-in-Ok-clause-each
returns-in-Ok-clause-each c =
    ap length c.new.ensures
    ∙ parts_long c.args.bytes.now c.in_ok-device.device c.in-Ok.queries.items c.in_ok-device.ensures.reads
    c.in-Ok.ensures
