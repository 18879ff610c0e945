use Rattle.std.proofs.Common.{◌≡◌, ◌<◌, ◌∙◌, ℕ, ap, false, get_or, length, sym, true}
use Rattle.std.proofs.lemmas.List.Quantifiers.{position-Some}
use Rattle.am_keeper.specs.declared.store.Slot.{Slot}
use Rattle.am_keeper.specs.Keeping.{same_text}
use Rattle.am_keeper.proofs.Slots.{rows_in_slots-set, has_slot-set, never_lost}
use Rattle.am_keeper.proofs.store.keep.Goals as goal
use Rattle.am_keeper.proofs.store.keep.Goals.{After-index_mut}

-- the slot at the place where it was found is the one for the path
is_there : (c : After-index_mut) → (c.in-Some.at < length c.args.slots.now.items)
    × (same_text (get_or c.args.slots.now.items c.in-Some.at c.index_mut.result.now).path c.args.place.now ≡ true)
    × ((k : ℕ) → k < c.in-Some.at
    → same_text (get_or c.args.slots.now.items k c.index_mut.result.now).path c.args.place.now ≡ false)
is_there c = position-Some (λ (slot : Slot). same_text slot.path c.args.place.now) c.args.slots.now.items c.in-Some.at
    c.index_mut.result.now (sym (rw c.deref.ensures.value at c.place_for.ensures) ∙ c.in-Some.is)

pub returns-in-Some-clause-rows : goal.returns-in-Some-clause-rows
returns-in-Some-clause-rows c =
    let d = c.index_mut.result.now in
    let found = is_there (goal.at.returns-in-Some-clause-rows c).After-index_mut in
    rows_in_slots-set c.args.slots.now.items c.in-Some.at d.path c.args.place.now c.args.rows d
    (ap (λ (slot : Slot). slot.path) c.index_mut.ensures.value) found.0 found.1 found.2

pub returns-in-Some-clause-slots : goal.returns-in-Some-clause-slots
returns-in-Some-clause-slots c =
    let d = c.index_mut.result.now in
    has_slot-set c.args.slots.now.items c.in-Some.at d.path _ d (ap (λ (slot : Slot). slot.path) c.index_mut.ensures.value)
    (is_there (goal.at.returns-in-Some-clause-slots c).After-index_mut).0

pub returns-in_default-clause-rows : goal.returns-in_default-clause-rows
returns-in_default-clause-rows c at otherwise =
    never_lost c.args.place.now c.args.slots.now.items c.requires (sym (rw c.deref.ensures.value at c.place_for.ensures)
    ∙ c.in_default.is) _
