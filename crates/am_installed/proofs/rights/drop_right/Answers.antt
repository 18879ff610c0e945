use Rattle.std.proofs.Common.{not, rules}
use Rattle.std.proofs.lemmas.Fn.{filter_same}
use Rattle.am_model.specs.Rights.{is_right}
use Rattle.am_installed.proofs.rights.drop_right.Goals as goal

pub returns : goal.returns
returns g c = filter_same _ (λ r. not (is_right g.T.Right.right_of c.args.uid c.args.text.now r)) _
    (λ x b f k. search rules) _ _ c.retain.ensures.filtered
