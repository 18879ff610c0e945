-- What a start does to the next numbers.
use Rattle.std.proofs.Common.{◌≡◌, Ok, sym, subst, arith}
use Rattle.am_types.specs.declared.task.Landed.{Landed}
use Rattle.am_types.specs.declared.task.StartCall.{StartCall}
use Rattle.am_model.specs.Tasks.{Tasks}
use Rattle.am_model.specs.Placement.{Plan, NewTask, FreshOn, NewIntentTo, FrontOf, carried_out, place}
use Rattle.am_model.proofs.PlacementLaws.{plan_for, place_carries_out}
use Rattle.am_tasks.specs.Numbers.{NumbersRise}

-- a plan that is carried out gives at most one number of each kind
carried_rise : (all : Tasks) (start : StartCall) (plan : Plan) → NumbersRise all (carried_out all start plan).1
carried_rise all start (NewTask single) = (omega arith, omega arith)
carried_rise all start (FreshOn task kept) = (omega arith, omega arith)
carried_rise all start (NewIntentTo task kept number) = (omega arith, omega arith)
carried_rise all start (FrontOf task) = (omega arith, omega arith)

-- and so does a start
pub place_rises : (all after : Tasks) (start : StartCall) (landed : Landed) → place all start ≡ Ok (landed, after)
    → NumbersRise all after
place_rises all after start landed done =
    subst (λ (r : Landed × Tasks). NumbersRise all r.1) (sym (place_carries_out all start (landed, after) done))
    (carried_rise all start (plan_for all start))
