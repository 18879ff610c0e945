use Rattle.std.proofs.Common.{◌≡◌, drop}
use Rattle.std.specs.Option.{option_copied}
use Rattle.am_pending.specs.Orders.{nearest, next_text}
use Rattle.am_pending.proofs.key.next_text.Given as goal

abbrev pub invariant-loop-text : goal.invariant-loop-text
invariant-loop-text l =
    nearest (option_copied l.last) (option_copied l.found) (drop l.text-index l.texts)
    ≡ next_text (option_copied l.last) l.texts
