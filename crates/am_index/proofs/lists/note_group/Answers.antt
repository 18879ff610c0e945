use Rattle.am_index.proofs.Noting.{both_noted}
use Rattle.am_index.proofs.lists.note_group.Goals as goal

pub returns-clause-noted : goal.returns-clause-noted
returns-clause-noted c =
    both_noted c.args.lists.now c.note.new.lists c.note-2.new.lists c.args.kind c.args.owner.now _ c.args.group.now _ _
    c.args.spot
    c.in_ok-clone.ensures.cases c.in_ok-clone-2.ensures.cases c.in_ok-clone-3.ensures.cases c.in_ok-note.ensures.noted _
    c.note-2.ensures.noted
