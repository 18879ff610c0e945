use Rattle.std.proofs.Common.{◌≡◌, IsTrue, ap, sym, subst, ◌∙◌}
use Rattle.am_keeper.specs.Shelf.{Shelf, has_slot}
use Rattle.am_keeper.proofs.store.MemoryStoreStore.detach.Goals as goal

pub keep-requires : goal.keep-requires
keep-requires c =
    let place : c.args.keeper.place ≡ c.into_parts-rows.result.1 = sym (ap (λ parts. parts.1) c.into_parts-rows.ensures)
    in
    subst (λ (shelf : Shelf). IsTrue (has_slot shelf.slots c.in-Some.place)) (sym c.self.view_is)
    (c.requires c.in-Some.place (place ∙ c.in-Some.is))
