use Rattle.am_packed.specs.Lists.{items_at}
use Rattle.am_packed.proofs.Reading.{reads_on, is_read}
use Rattle.am_packed.proofs.lists.items_at.Goals as goal

pub loop-preserved : goal.loop-preserved
loop-preserved g c =
    let read = g.T.Pack.form.read in
    rw c.in_ok-push.ensures.items
    (reads_on read c.loop.items.items c.args.count c.loop.counter c.loop.rest.now c.in_ok-item.item
    c.in_ok-item.after.now (items_at read c.args.count c.args.bytes.now) c.loop-test.true c.in_ok-item.ensures.read
    c.loop.invariant)

pub returns-clause-read : goal.returns-clause-read
returns-clause-read g c =
    let read = g.T.Pack.form.read in
    is_read read c.loop.items.items c.args.count c.loop.counter c.loop.rest.now
    (items_at read c.args.count c.args.bytes.now) c.loop-test.false c.loop.invariant
