use Rattle.am_wire_values.specs.Replies.{entry_data}
use Rattle.am_wire_replies.proofs.entries.print_entry.Goals as goal

pub returns : goal.returns
unfolding entry_data
returns c = rw (c.path-route.ensures.path, c.endpoint_of.ensures) at c.print_fields.ensures
