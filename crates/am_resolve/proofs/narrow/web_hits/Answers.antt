use Rattle.std.proofs.Common.{◌≤◌, ◌+◌, subst, sym, arith}
use Rattle.std.specs.Prelude.{true, List}
use Rattle.am_types.specs.declared.manifest.Kind.TheVariants.{Activity}
use Rattle.am_types.specs.declared.device.Package.{Package}
use Rattle.am_types.specs.declared.resolve.Hit.{Hit}
use Rattle.am_index.specs.Groups.{group_size}
use Rattle.am_resolve.specs.Narrowing.{cost_of}
use Rattle.am_resolve.proofs.Costs.{narrowing_cost}
use Rattle.am_resolve.proofs.narrow.web_hits.Goals as goal

pub returns-in-None-clause-tests : goal.returns-in-None-clause-tests
returns-in-None-clause-tests g c =
    let packages = c.args.installed.now.packages in
    let intent = c.args.intent.now in
    let most : cost_of packages intent c.args.found ≤ group_size packages Activity intent =
    subst (λ (l : List Hit). cost_of packages intent l ≤ group_size packages Activity intent) (sym c.requires)
    (narrowing_cost packages intent Activity true c.packages.ensures.installed) in
    let made : c.keep_general.new.steps ≤ c.args.steps.now + cost_of packages intent c.args.found =
    subst (λ (l : List Package). c.keep_general.new.steps ≤ c.args.steps.now + cost_of l intent c.args.found)
    c.packages.ensures.packages c.keep_general.ensures.tests in
    omega (arith, most, made)
