use Rattle.std.proofs.Common.{◌≡◌, ◌-◌, ◌∙◌, [], length, take, get_or, ap, sym, arith}
use Rattle.am_uri.specs.PathRows.{both, without}
use Rattle.am_uri.specs.PathWords.{words_where}
use Rattle.am_uri.proofs.PathRows.{is_above, found_start, set_left, clear_left, found_by, found_end}
use Rattle.am_uri.proofs.rows.find.Goals as goal
use Rattle.am_uri.proofs.rows.find.Goals.{then-code-lt128, else-code-lt128}

pub loop-b-init : goal.loop-b-init
loop-b-init c = record {
  within = elim c.if-code-lt128.branch [ then-code-lt128 w ↦ omega arith | else-code-lt128 w ↦ omega arith ];
  same_length = omega arith;
  so_far = λ elements rows. elim c.if-code-lt128.branch [
    | then-code-lt128 w ↦ w.words-is ∙ w.copy_from_slice.ensures.after
        ∙ rows 21 (length c.args.words.now) (omega arith) (omega arith)
        ∙ found_start (length c.args.words.now) 7 c.args.c elements w.if-code-lt128.true
        ∙ ap (λ b. words_where 63 (is_above b c.args.c) (length c.args.words.now) elements) (sym w.b-is)
    | else-code-lt128 w ↦ w.words-is ∙ w.copy_from_slice-else-code-lt128.ensures.after
        ∙ rows 22 (length c.args.words.now) (omega arith) (omega arith)
        ∙ found_start (length c.args.words.now) 21 c.args.c elements (omega arith)
        ∙ ap (λ b. words_where 63 (is_above b c.args.c) (length c.args.words.now) elements) (sym w.b-is)
  ];
}

pub loop-b-preserved-then-code-b-eq1 : goal.loop-b-preserved-then-code-b-eq1
loop-b-preserved-then-code-b-eq1 c =
    let l = c.loop-b in
    record {
      within = omega arith;
      same_length = omega arith;
      so_far = λ elements rows. found_by both (length c.args.words.now) (l.b - 1) l.b c.args.c elements
          (take (length c.args.words.now) (get_or c.args.rows.now (l.b - 1) [])) l.words c.keep.new.words (omega arith)
          (omega arith) (set_left (length c.args.words.now) (l.b - 1) c.args.c elements c.if-code-b-eq1.true)
          (rows (l.b - 1) (length c.args.words.now) (omega arith) (omega arith)) (l.invariant.so_far elements rows)
          c.keep.ensures;
    }

pub loop-b-preserved : goal.loop-b-preserved
loop-b-preserved c =
    let l = c.loop-b in
    record {
      within = omega arith;
      same_length = omega arith;
      so_far = λ elements rows. found_by without (length c.args.words.now) (l.b - 1) l.b c.args.c elements
          (take (length c.args.words.now) (get_or c.args.rows.now (l.b - 1) [])) l.words c.remove.new.words
          (omega arith) (omega arith) (clear_left (length c.args.words.now) (l.b - 1) c.args.c elements
          c.if-code-b-eq1.false) (rows (l.b - 1) (length c.args.words.now) (omega arith) (omega arith))
          (l.invariant.so_far elements rows) c.remove.ensures;
    }

pub returns : goal.returns
returns c = λ elements rows.
    let l = c.loop-b in
    let done : l.b ≡ 0 = omega arith in
    found_end (length c.args.words.now) c.args.c elements (take (length c.args.words.now)
    (get_or c.args.rows.now 23 [])) l.words c.add.new.words (rows 23 (length c.args.words.now) (omega arith)
    (omega arith)) (rw done at (l.invariant.so_far elements rows)) c.add.ensures
