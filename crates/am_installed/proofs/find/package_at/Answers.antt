use Rattle.std.proofs.Common.{◌∙◌, sym, ap, subst, Some, Err, List, rules}
use Rattle.std.specs.Ordering.{nat_cmp}
use Rattle.std.specs.List.Sorted.{IsBinarySearchResult, IsStrictlyIncreasing}
use Rattle.std.proofs.lemmas.List.Sorted.{answers_always}
use Rattle.am_types.specs.declared.device.Package.{Package}
use Rattle.am_model.specs.Boards.{package_at}
use Rattle.am_model.specs.Sound.{uids_of}
use Rattle.am_installed.proofs.Searching.{found_by_search, absent_by_search}
use Rattle.am_installed.proofs.find.package_at.Goals as goal

pub returns-in-Ok : goal.returns-in-Ok
returns-in-Ok c =
    let said = c.in-Ok.ensures.position (λ p. p.uid) (answers_always _ _ _ (λ f a r g h. search rules)) in
    let up = subst (λ (l : List Package). IsStrictlyIncreasing (uids_of l)) (sym c.as_slice-packages.ensures) c.requires
    in
    ap Some c.index-packages-at.is
    ∙ found_by_search c.as_slice-packages.result.now c.args.uid up c.in-Ok.at c.index-packages-at.result
    c.in-Ok.ensures.bound said
    ∙ ap (λ l. package_at l c.args.uid) c.as_slice-packages.ensures

pub returns-in-Err : goal.returns-in-Err
returns-in-Err c =
    let said : IsBinarySearchResult (λ (p : Package). nat_cmp p.uid c.args.uid) c.as_slice-packages.result.now
    (Err c.in-Err.field-0) =
    c.in-Err.ensures.position (λ p. p.uid) (answers_always _ _ _ (λ f a r g h. search rules)) in
    let up = subst (λ (l : List Package). IsStrictlyIncreasing (uids_of l)) (sym c.as_slice-packages.ensures) c.requires
    in
    absent_by_search c.as_slice-packages.result.now c.args.uid up c.in-Err.field-0 said
    ∙ ap (λ l. package_at l c.args.uid) c.as_slice-packages.ensures
