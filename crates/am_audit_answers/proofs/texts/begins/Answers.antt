use Rattle.std.proofs.lemmas.Bool.Decides.{Decides-eqb}
use Rattle.std.proofs.lemmas.Slice.Eq.{starts_is}
use Rattle.am_audit_answers.proofs.texts.begins.Goals as goal

pub returns-clause-begins : goal.returns-clause-begins
returns-clause-begins c = (starts_is Decides-eqb c.args.bytes.now c.args.text.now c.starts_with.result
    c.starts_with.ensures.value).0

pub returns-clause-none : goal.returns-clause-none
returns-clause-none c = (starts_is Decides-eqb c.args.bytes.now c.args.text.now c.starts_with.result
    c.starts_with.ensures.value).1
