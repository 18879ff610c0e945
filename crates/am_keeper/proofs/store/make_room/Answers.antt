use Rattle.am_keeper.proofs.Slots.{rows_in_slots-push, has_slot-push}
use Rattle.am_keeper.proofs.store.make_room.Goals as goal

pub returns-clause-rows : goal.returns-clause-rows
returns-clause-rows c = λ at otherwise. rw (c.in_ok-push.ensures.items)
    (rows_in_slots-push c.args.slots.now.items _ at otherwise)

pub returns-clause-ok : goal.returns-clause-ok
returns-clause-ok c = λ at. rw (c.in_ok-push.ensures.items, c.in_ok-clone.ensures.cases)
    (has_slot-push c.args.slots.now.items c.args.path.now at)
