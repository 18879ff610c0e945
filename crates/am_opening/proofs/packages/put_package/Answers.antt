use Rattle.std.proofs.Common.{arith, sym}
use Rattle.am_model.proofs.Lists.{inserted_at, place_within}
use Rattle.am_history.specs.Opening.{before_package}
use Rattle.am_opening.proofs.packages.put_package.Goals as goal

pub insert-requires : goal.insert-requires
insert-requires c =
    rw (c.place_of-place.ensures, c.deref.ensures.value)
    (omega (arith, place_within before_package c.args.package c.args.packages.now.items, c.args.packages.now.ok.0))

pub returns : goal.returns
returns c =
    rw (c.in_ok-insert.ensures.items, c.place_of-place.ensures, c.deref.ensures.value)
    (sym (inserted_at before_package c.args.package c.args.packages.now.items))
