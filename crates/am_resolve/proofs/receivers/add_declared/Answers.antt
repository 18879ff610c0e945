use Rattle.std.proofs.Common.{◌≡◌, ◌++◌, List, [], drop, sym, ap, ◌∙◌, subst}
use Rattle.std.specs.List.{AllByRecursion}
use Rattle.std.proofs.lemmas.List.{append-nil, at_drop_all}
use Rattle.am_types.specs.declared.device.Package.{Package}
use Rattle.am_types.specs.declared.resolve.Hit.{Hit}
use Rattle.am_resolve.specs.Ranking.{ranked_of_hits}
use Rattle.am_resolve.proofs.Owners.{IsFoundByUid, hits_found_by_uid}
use Rattle.am_resolve.proofs.Ranks.{of_hits}
use Rattle.am_resolve.proofs.receivers.add_declared.Goals as goal

pub returns : goal.returns
returns c =
    let sent = c.args.sent.now in
    let board = sent.installed.now in
    let before = c.args.ranked.now.items in
    let hits = c.as_slice-hit-items.result.now in
    let of = λ (packages : List Package) (hs : List Hit). ranked_of_hits sent packages hs in
    let none : of c.packages-packages.result.now (drop c.loop-hit.hit-index hits) ≡ [] =
    at_drop_all (of c.packages-packages.result.now) hits c.loop-hit.hit-index c.loop-hit-test.false in
    let all : c.loop-hit.ranked.items ≡ before ++ of c.packages-packages.result.now hits =
    sym (append-nil c.loop-hit.ranked.items) ∙ sym (ap (λ l. c.loop-hit.ranked.items ++ l) none)
    ∙ c.loop-hit.invariant in
    all
    ∙ ap (λ packages. before ++ of packages hits) c.packages-packages.ensures.packages
    ∙ ap (λ hs. before ++ of board.packages hs) c.as_slice-hit-items.ensures
    ∙ ap (λ l. before ++ l)
    (of_hits sent c.args.found.now
    (subst (AllByRecursion (IsFoundByUid board.packages)) (sym c.requires)
    (hits_found_by_uid board.rules board.packages sent.intent.now c.packages-packages.ensures.installed)))
