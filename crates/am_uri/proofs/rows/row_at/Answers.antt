use Rattle.std.proofs.Common.{◌-◌, ◌∙◌, map, take, ap, sym, arith}
use Rattle.am_uri.specs.PathElements.{element_of, allowed_at}
use Rattle.am_uri.specs.PathWords.{passes, words_where}
use Rattle.am_uri.proofs.PathRows.{letter_row}
use Rattle.am_uri.proofs.PathWords.{take-words_where}
use Rattle.am_uri.proofs.rows.row_at.Goals as goal

pub returns-then-k-lt-ASKED : goal.returns-then-k-lt-ASKED
returns-then-k-lt-ASKED c m within = ap (take m) c.write_where.ensures
    ∙ take-words_where (passes c.test_of.result) 63 17 m (map element_of c.args.elements.now) within
    ∙ ap (λ test. words_where 63 (passes test) m (map element_of c.args.elements.now)) c.test_of.ensures.test

pub returns-else-k-lt-ASKED : goal.returns-else-k-lt-ASKED
returns-else-k-lt-ASKED c m within = ap (take m) (c.find.ensures (map element_of c.args.elements.now) c.requires.rows)
    ∙ take-words_where (allowed_at (c.args.k - 24)) 63 17 m (map element_of c.args.elements.now) within
    ∙ ap (λ test. words_where 63 (passes test) m (map element_of c.args.elements.now))
    (sym (letter_row c.args.k (c.args.k - 24) (omega arith)))
