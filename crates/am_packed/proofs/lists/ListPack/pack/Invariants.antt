use Rattle.std.proofs.Common.{◌≡◌, ◌++◌, length, take}
use Rattle.std.specs.List.{flat_map}
use Rattle.am_packed.specs.Numbers.{number}
use Rattle.am_packed.proofs.lists.ListPack.pack.Given as goal

-- the items so far are out
abbrev pub invariant-loop-item : goal.invariant-loop-item
invariant-loop-item g l =
    l.out.items ≡ (l.fn.out.items ++ number.bytes (length l.items))
    ++ flat_map g.T.Pack.form.bytes (take l.item-index l.items)
