use Rattle.std.proofs.Common.{◌∙◌}
use Rattle.am_index.proofs.Listing.{listed_noted}
use Rattle.am_index.proofs.lists.note_enabled.Goals as goal

pub returns-clause-noted : goal.returns-clause-noted
returns-clause-noted c =
    listed_noted c.args.lists.now c.note_groups.new.lists c.args.owner.now c.args.decl.now _ c.args.spot
    c.if-not-decl.false
    (c.as_slice.ensures.value ∙ c.in_ok-groups.ensures) _ c.note_groups.ensures.noted
