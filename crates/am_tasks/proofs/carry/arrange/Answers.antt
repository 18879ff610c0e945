use Rattle.std.proofs.Common.{◌-◌, ◌<◌, length, sym, ◌∙◌, arith}
use Rattle.am_model.specs.Tasks.{Instance}
use Rattle.am_tasks.specs.declared.plan.Keeping.TheVariants.{Below, Others}
use Rattle.am_tasks.proofs.Finding.{at_there}
use Rattle.am_tasks.proofs.Carrying.{kept_as, front_same, moved_same, moved_length}
use Rattle.am_tasks.proofs.carry.arrange.Goals as goal

pub overflow_sub-result : goal.overflow_sub-result
overflow_sub-result c =
    let low : c.args.place < length c.args.instances.now.items = omega (arith, c.args.instances.now.ok.0) in
    let same = moved_length c.args.instances.now.items c.move_to_top.new.instances.items c.args.place low
    c.move_to_top.ensures in
    omega (arith, same, c.len.ensures, c.move_to_top.new.instances.ok.0, c.args.instances.now.ok.0)

pub returns-in-Below-clause-kept : goal.returns-in-Below-clause-kept
returns-in-Below-clause-kept c =
    let low : c.args.place < length c.args.instances.now.items = omega (arith, c.args.instances.now.ok.0) in
    let d : Instance = (at_there c.args.instances.now.items c.args.place low).0 in
    rw c.in-Below.is (c.truncate.ensures.items ∙ sym (kept_as Below c.args.place c.args.instances.now.items d
    (record { once = c.requires.once }) low))

pub returns-in-Below-clause-same : goal.returns-in-Below-clause-same
returns-in-Below-clause-same c =
    let low : c.args.place < length c.args.instances.now.items = omega (arith, c.args.instances.now.ok.0) in
    rw c.truncate.ensures.items (front_same c.args.instances.now.items c.args.place low)

pub returns-in-Others-clause-kept : goal.returns-in-Others-clause-kept
returns-in-Others-clause-kept c =
    let low : c.args.place < length c.args.instances.now.items = omega (arith, c.args.instances.now.ok.0) in
    let d : Instance = (at_there c.args.instances.now.items c.args.place low).0 in
    rw c.in-Others.is (c.move_to_top.ensures d ∙ sym (kept_as Others c.args.place c.args.instances.now.items d
    (record { once = c.requires.once }) low))

pub returns-in-Others-clause-same : goal.returns-in-Others-clause-same
returns-in-Others-clause-same c =
    let low : c.args.place < length c.args.instances.now.items = omega (arith, c.args.instances.now.ok.0) in
    let same = moved_length c.args.instances.now.items c.move_to_top.new.instances.items c.args.place low
    c.move_to_top.ensures in
    moved_same c.args.instances.now.items c.move_to_top.new.instances.items c.args.place (c.len.result - 1) low
    c.move_to_top.ensures
    (omega (arith, same, c.len.ensures, c.move_to_top.new.instances.ok.0, c.args.instances.now.ok.0))

pub returns-in-Others-clause-within : goal.returns-in-Others-clause-within
returns-in-Others-clause-within c =
    let low : c.args.place < length c.args.instances.now.items = omega (arith, c.args.instances.now.ok.0) in
    let same = moved_length c.args.instances.now.items c.move_to_top.new.instances.items c.args.place low
    c.move_to_top.ensures in
    omega (arith, same, c.len.ensures, c.move_to_top.new.instances.ok.0, c.args.instances.now.ok.0)
