use Rattle.std.proofs.Common.{◌∙◌, rules, arith}
use Rattle.am_words.proofs.NumberLemmas.{none_long, none_other, none_short, some_parsed}
use Rattle.am_words.proofs.values.number_of.Goals.{then-text-lt1-via-then-text-lt1, then-text-lt1-via-else-text-lt1+then-text-gt20, then-text-lt1-via-else-text-lt1+else-text-gt20+then-not-are_digits}
use Rattle.am_words.proofs.values.number_of.Goals as goal

pub returns-then-text-lt1 : goal.returns-then-text-lt1
returns-then-text-lt1 c = elim c.then-text-lt1.branch [
  | then-text-lt1-via-then-text-lt1 w ↦ none_short c.args.text.now (omega arith)
  | then-text-lt1-via-else-text-lt1+then-text-gt20 w ↦ none_long c.args.text.now (omega arith)
  | then-text-lt1-via-else-text-lt1+else-text-gt20+then-not-are_digits w ↦ none_other c.args.text.now (search rules)
]

pub returns : goal.returns
returns c = c.ok.ensures.value ∙ some_parsed c.args.text.now c.parse.result c.parse.ensures.value.0 (omega arith)
    (omega arith) (search rules)
