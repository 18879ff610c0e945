use Rattle.std.proofs.Common.{not, eqb, rules}
use Rattle.std.proofs.lemmas.Fn.{filter_same}
use Rattle.am_types.specs.declared.resolve.Registration.{Registration}
use Rattle.am_installed.proofs.lists.drop_registered.Goals as goal

pub returns : goal.returns
returns c = filter_same _ (λ (r : Registration). not (eqb r.number c.args.number)) _ (λ x b f k. search rules) _ _
    c.retain.ensures.filtered
