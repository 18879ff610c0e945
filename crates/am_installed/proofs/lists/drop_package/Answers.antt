use Rattle.std.proofs.Common.{not, eqb, rules}
use Rattle.std.proofs.lemmas.Fn.{filter_same}
use Rattle.am_types.specs.declared.device.Package.{Package}
use Rattle.am_installed.proofs.lists.drop_package.Goals as goal

pub returns : goal.returns
returns c = filter_same _ (λ (p : Package). not (eqb p.uid c.args.uid)) _ (λ x b f k. search rules) _ _
    c.retain.ensures.filtered
