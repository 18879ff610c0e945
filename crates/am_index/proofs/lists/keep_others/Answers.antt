use Rattle.std.proofs.Common.{not, eqb, rules, tests}
use Rattle.std.proofs.lemmas.Fn.{filter_same}
use Rattle.am_index.proofs.lists.keep_others.Goals as goal

pub returns-clause-spots : goal.returns-clause-spots
returns-clause-spots c =
    filter_same _ (λ s. not (eqb s.uid c.args.uid)) _ (λ x b q h. search (rules, tests)) _ _ c.retain.ensures.filtered
