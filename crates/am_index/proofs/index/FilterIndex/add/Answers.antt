use Rattle.std.proofs.Common.{◌∙◌}
use Rattle.am_index.specs.declared.index.FilterIndex.{FilterIndex}
use Rattle.am_index.proofs.Stands.{as_before, on_err, stands_same, stands_with_ok}
use Rattle.am_index.proofs.index.FilterIndex.add.Goals as goal

pub returns-then-is_err-clause-as_before : goal.returns-then-is_err-clause-as_before
returns-then-is_err-clause-as_before c =
    let old = c.args.self.now in
    let new : FilterIndex = record { lists = c.drop_spots.new.lists; alloc = old.alloc } in
    on_err _ _ (as_before old new c.requires.0 c.args.«package».now c.requires.1.0 c.requires.1.1
    (λ key. c.drop_spots.ensures key ∙ c.note_package-noted.ensures.others key))

pub returns-then-is_err-clause-stands : goal.returns-then-is_err-clause-stands
returns-then-is_err-clause-stands c =
    let old = c.args.self.now in
    let new : FilterIndex = record { lists = c.drop_spots.new.lists; alloc = old.alloc } in
    on_err _ _ (stands_same old new (as_before old new c.requires.0 c.args.«package».now c.requires.1.0 c.requires.1.1
    (λ key. c.drop_spots.ensures key ∙ c.note_package-noted.ensures.others key)))

pub returns-else-is_err-clause-added : goal.returns-else-is_err-clause-added
returns-else-is_err-clause-added c =
    let old = c.args.self.now in
    let new : FilterIndex = record { lists = c.note_package-noted.new.lists; alloc = old.alloc } in
    stands_with_ok old new c.args.«package».now _ c.note_package-noted.ensures.noted
