use Rattle.std.proofs.Common.{take}
use Rattle.am_wire_routes.specs.Table.{endpoints}
use Rattle.am_wire_routes.specs.Routers.{Holds}
use Rattle.am_wire_routes.proofs.routes.Routes.new.Given as goal

abbrev pub invariant-loop-endpoint : goal.invariant-loop-endpoint
invariant-loop-endpoint l = Holds (take l.endpoint-index endpoints) l.router
