use Rattle.std.proofs.Common.{◌≡◌, arith}
use Rattle.am_wire_routes.specs.declared.endpoint.Endpoint.TheVariants.{Query}
use Rattle.am_wire_routes.proofs.Adding.{next-lacks, holds-step, answers-table}
use Rattle.am_wire_routes.proofs.routes.Routes.new.Goals as goal

pub add-requires : goal.add-requires
add-requires c =
    next-lacks c.loop-endpoint.endpoint-index Query c.loop-endpoint.router c.loop-endpoint-test.true
    c.loop-endpoint.invariant

pub loop-endpoint-preserved : goal.loop-endpoint-preserved
loop-endpoint-preserved c =
    holds-step c.loop-endpoint.endpoint-index Query c.loop-endpoint.router c.add.new.router c.loop-endpoint-test.true
    c.loop-endpoint.invariant c.in_ok-add.ensures

pub invariant_of-result : goal.invariant_of-result
invariant_of-result c =
    let all : c.loop-endpoint.endpoint-index ≡ 27 = omega arith in
    answers-table c.loop-endpoint.router (rw all at c.loop-endpoint.invariant)
