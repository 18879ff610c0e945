use Rattle.std.proofs.Common.{◌≡◌, ◌+◌, ◌++◌, ◌∷◌, [], ◌∙◌, take, sym, ap}
use Rattle.std.proofs.lemmas.List.{take_more}
use Rattle.am_index.specs.Members.{spots_under, spots_of_package}
use Rattle.am_index.proofs.Stands.{spots_under-append}
use Rattle.am_index.proofs.index.FilterIndex.build.Goals as goal

pub loop-package-preserved : goal.loop-package-preserved
loop-package-preserved c =
    let at = c.loop-package.package-index in
    let packages = c.as_slice-package-items.result.now in
    let p = c.package-item.result in
    let more : take (at + 1) packages ≡ take at packages ++ p ∷ [] =
    take_more packages at p c.loop-package-test.true ∙ ap (λ x. take at packages ++ x ∷ []) (sym c.package-item.is) in
    λ key.
    c.in_ok-note_package.ensures.noted key
    ∙ ap (λ l. l ++ spots_of_package key p) (c.loop-package.invariant key)
    ∙ sym (spots_under-append key (take at packages) p)
    ∙ ap (spots_under key) (sym more)
