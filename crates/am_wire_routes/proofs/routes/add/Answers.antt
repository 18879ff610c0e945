use Rattle.am_wire_routes.proofs.Adding.{adds}
use Rattle.am_wire_routes.proofs.routes.add.Goals as goal

pub out_of_memory-requires : goal.out_of_memory-requires
out_of_memory-requires c =
    let read = rw c.path.ensures.path at c.insert.ensures in
    rw c.in-Err.is at (adds c.args.endpoint c.args.router.now c.insert.new.self c.insert.result c.requires read)

pub returns-in-Ok : goal.returns-in-Ok
returns-in-Ok c =
    let read = rw c.path.ensures.path at c.insert.ensures in
    rw c.in-Ok.is at (adds c.args.endpoint c.args.router.now c.insert.new.self c.insert.result c.requires read)
