use Rattle.std.proofs.Common.{◌≡◌, [], ap, sym, ◌∙◌, arith}
use Rattle.std.proofs.lemmas.List.{nil_from_length}
use Rattle.crossbeam_queue.specs.Passes.{view}
use Rattle.am_baton.proofs.Desks.{among_popped, closed_desks, stands}
use Rattle.am_baton.proofs.closing.close_with.Goals as goal

pub join-requires-clause-same : goal.join-requires-clause-same
join-requires-clause-same g c =
    let inv = c.loop-desk.invariant in
    ap (λ s. s.id) (among_popped c.args.last.sharing c.args.desks.items c.loop-desk.desks.items c.pop.new.self.items _
    c.in-Some.desk c.args.last c.requires.all inv.parts c.in-Some.ensures.items)
    ∙ sym (ap (λ d. d.sharing.id) inv.own)

pub take_last-requires-clause-all : goal.take_last-requires-clause-all
take_last-requires-clause-all g c =
    let inv = c.loop-desk.invariant in
    let ok = c.loop-desk.desks.ok.0 in
    let none = c.in_default.ensures.cases.0 in
    let empty : c.loop-desk.desks.items ≡ [] = nil_from_length c.loop-desk.desks.items (omega arith) in
    stands c.loop-desk.pass.table_id (view c.loop-desk.pass) c.args.last c.args.desks.items c.loop-desk.desks.items
    c.requires.all inv.parts empty inv.own

pub returns : goal.returns
returns g c =
    let inv = c.loop-desk.invariant in
    let ok = c.loop-desk.desks.ok.0 in
    let none = c.in_default.ensures.cases.0 in
    let empty : c.loop-desk.desks.items ≡ [] = nil_from_length c.loop-desk.desks.items (omega arith) in
    closed_desks c.take_last.result c.loop-desk.pass.table_id (view c.loop-desk.pass) c.args.desks.items
    c.loop-desk.desks.items c.args.last inv.parts empty inv.own c.take_last.ensures
