use Rattle.std.proofs.Common.{◌≡◌, [], sym}
use Rattle.am_queue.specs.Results.{IsOnly, of_number}
use Rattle.am_queue.proofs.Rising.{held_by_first, held_by_none}
use Rattle.am_queue.proofs.results.Results.holder.Goals as goal

pub returns-in-None : goal.returns-in-None
returns-in-None c =
    let kept = c.self.inside.kept.items in
    let none : of_number c.args.number kept ≡ [] = rw c.deref.ensures.value at c.in-None.ensures in
    rw (← c.self.view_is) (held_by_none c.args.number kept none)

pub returns-in-Some : goal.returns-in-Some
returns-in-Some c =
    let kept = c.self.inside.kept.items in
    let there : IsOnly c.args.number kept c.in-Some.place = rw c.deref.ensures.value at c.in-Some.ensures in
    let found = c.index.result.now in
    rw (c.sender.ensures, ← c.self.view_is) (held_by_first c.args.number kept found
    (rw (sym c.index.ensures) at (there.1 found)))
