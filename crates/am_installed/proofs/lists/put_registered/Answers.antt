use Rattle.std.proofs.Common.{arith, sym}
use Rattle.am_model.proofs.Lists.{inserted_at, place_within}
use Rattle.am_installed.specs.Places.{before_registered}
use Rattle.am_installed.proofs.lists.put_registered.Goals as goal

pub insert-requires : goal.insert-requires
insert-requires c =
    rw (c.place_of-place.ensures, c.deref.ensures.value)
    (omega (
      arith,
      place_within before_registered c.args.registration c.args.registered.now.items,
      c.args.registered.now.ok.0,
    ))

pub returns-clause-put : goal.returns-clause-put
returns-clause-put c =
    rw (c.in_ok-insert.ensures.items, c.place_of-place.ensures, c.deref.ensures.value)
    (sym (inserted_at before_registered c.args.registration c.args.registered.now.items))
