use Rattle.std.proofs.Common.{◌≡◌, ◌++◌, drop}
use Rattle.am_wire_replies.specs.Printing.{tokens_of_items}
use Rattle.am_wire_values.specs.Replies.{entries_data}
use Rattle.am_wire_replies.proofs.entries.print_entries.Given as goal

abbrev pub invariant-loop-entry : goal.invariant-loop-entry
invariant-loop-entry l =
    l.to ++ tokens_of_items (entries_data l.at (drop l.entry-index l.entries))
    ≡ l.initial.to ++ tokens_of_items (entries_data l.from l.entries)
