use Rattle.std.specs.Prelude.{◌≡◌}
use Rattle.std.proofs.lemmas.List.Elements.{All-same, All-weaker}
use Rattle.am_history.specs.Desks.{DeskView}
use Rattle.am_history.specs.History.{Extends, entries_of}
use Rattle.am_baton.specs.Shared.{IsClosed, IsNumbered}
use Rattle.am_baton.proofs.closing.close.Goals as goal

pub returns-clause-seen : goal.returns-clause-seen
returns-clause-seen g c =
    let m = c.close_with.result in
    All-weaker (λ (d : DeskView). IsClosed d m) (λ (d : DeskView). Extends d.sharing.handed d.seen
    × Extends d.seen m.history)
    (λ d closed. (closed.begins, closed.grows)) c.args.desks.items
    (All-same (λ (d : DeskView). IsClosed d m) c.args.desks.items _ c.in-Some.ensures.items c.close_with.ensures)

pub returns-clause-own : goal.returns-clause-own
returns-clause-own g c =
    let m = c.close_with.result in
    All-weaker (λ (d : DeskView). IsClosed d m) (λ (d : DeskView). entries_of d.number m.history
    ≡ entries_of d.number d.seen)
    (λ d closed. closed.own) c.args.desks.items
    (All-same (λ (d : DeskView). IsClosed d m) c.args.desks.items _ c.in-Some.ensures.items c.close_with.ensures)

pub returns-clause-others : goal.returns-clause-others
returns-clause-others g c =
    let m = c.close_with.result in
    All-weaker (λ (d : DeskView). IsClosed d m) (λ (d : DeskView). IsNumbered d.sharing.desks d.sharing.handed
    m.history)
    (λ d closed. closed.others) c.args.desks.items
    (All-same (λ (d : DeskView). IsClosed d m) c.args.desks.items _ c.in-Some.ensures.items c.close_with.ensures)
