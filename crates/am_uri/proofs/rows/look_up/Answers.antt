use Rattle.std.proofs.Common.{◌+◌, ◌∙◌, length, ap, refl, arith}
use Rattle.am_uri.specs.PathWords.{passes, words_where}
use Rattle.am_uri.proofs.PathRows.{letter_row}
use Rattle.am_uri.proofs.rows.look_up.Goals as goal

pub returns-then-code-lt128 : goal.returns-then-code-lt128
returns-then-code-lt128 c elements rows = c.copy_from_slice.ensures.after
    ∙ rows (24 + c.args.c) (length c.args.words.now) (omega arith) (omega arith)
    ∙ ap (λ test. words_where 63 (passes test) (length c.args.words.now) elements) (letter_row (24 + c.args.c) c.args.c
    refl)
