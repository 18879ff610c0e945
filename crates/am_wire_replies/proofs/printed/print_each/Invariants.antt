use Rattle.std.proofs.Common.{◌≡◌, ◌++◌, drop, map}
use Rattle.am_wire_replies.specs.Printing.{tokens_of_items}
use Rattle.am_wire_replies.proofs.printed.print_each.Given as goal

abbrev pub invariant-loop-one : goal.invariant-loop-one
invariant-loop-one g l =
    l.to ++ tokens_of_items (map g.T.Printed.as_data (drop l.one-index l.shown))
    ≡ l.initial.to ++ tokens_of_items (map g.T.Printed.as_data l.shown)
