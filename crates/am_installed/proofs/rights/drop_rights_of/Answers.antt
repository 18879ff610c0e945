use Rattle.std.proofs.Common.{not, eqb, rules}
use Rattle.std.proofs.lemmas.Fn.{filter_same}
use Rattle.am_installed.proofs.rights.drop_rights_of.Goals as goal

pub returns : goal.returns
returns g c = filter_same _ (λ r. not (eqb (g.T.Right.right_of r).0 c.args.uid)) _ (λ x b f k. search rules) _ _
    c.retain.ensures.filtered
