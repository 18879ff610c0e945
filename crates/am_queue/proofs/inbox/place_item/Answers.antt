use Rattle.std.proofs.Common.{arith, ap, sym, take}
use Rattle.am_queue.proofs.Ordering.{placed, place_within}
use Rattle.am_queue.proofs.inbox.place_item.Goals as goal

pub insert-requires : goal.insert-requires
insert-requires c =
    rw (c.place_of-place.ensures, c.deref.ensures.value) (omega (
      arith,
      place_within c.args.item.delivery
          c.args.items.now.items,
      c.args.items.now.ok.0,
    ))

pub returns : goal.returns
returns c =
    rw (c.truncate.ensures.items, c.in_ok-insert.ensures.items, c.place_of-place.ensures, c.deref.ensures.value)
    (ap (take 64) (sym (placed c.args.item c.args.items.now.items)))
