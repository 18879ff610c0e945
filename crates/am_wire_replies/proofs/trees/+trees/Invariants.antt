use Rattle.std.proofs.Common.{◌≡◌, ◌++◌, drop, false, map}
use Rattle.serde_json.specs.View.{items_view, members_view, view}
use Rattle.serde_json.specs.Written.{items_have_float, members_have_float}
use Rattle.am_wire_replies.specs.Printing.{tokens_of_items, tokens_of_members}
use Rattle.am_wire_replies.proofs.trees.+trees.Given as goal

abbrev pub invariant-print_items-loop-item : goal.invariant-print_items-loop-item
invariant-print_items-loop-item l =
    (l.to ++ tokens_of_items (map view (drop l.item-index l.items))
    ≡ l.initial.to ++ tokens_of_items (map view l.items))
    × (items_have_float (items_view (drop l.item-index l.items)) ≡ false)

abbrev pub invariant-print_members-loop-name : goal.invariant-print_members-loop-name
invariant-print_members-loop-name l =
    (l.to ++ tokens_of_members (members_view l.name-iterator)
    ≡ l.initial.to ++ tokens_of_members (members_view l.members.entries))
    × (members_have_float (members_view l.name-iterator) ≡ false)
