use Rattle.std.proofs.Common.{◌≡◌, ◌-◌}
use Rattle.am_packed.specs.Lists.{items_at}
use Rattle.am_packed.proofs.Reading.{with_front}
use Rattle.am_packed.proofs.lists.items_at.Given as goal

-- what was read and what is still to be read are the whole
abbrev pub invariant-loop : goal.invariant-loop
invariant-loop g l =
    with_front l.items.items (items_at g.T.Pack.form.read (l.count - l.counter) l.rest)
    ≡ items_at g.T.Pack.form.read l.count l.bytes
