use Rattle.std.proofs.Common.{◌≡◌, ◌≤◌, List, length}
use Rattle.am_model.specs.Paths.{Element}
use Rattle.am_uri.specs.PathRows.{AreRows}
use Rattle.am_uri.specs.PathWords.{words_where}
use Rattle.am_uri.proofs.PathRows.{is_above}
use Rattle.am_uri.proofs.rows.find.Given as goal

abbrev pub invariant-loop-b : goal.invariant-loop-b
invariant-loop-b l = record {
  within : l.b ≤ 21;
  same_length : length l.words ≡ length l.fn.words;
  so_far : (elements : List Element) → AreRows elements l.rows → l.words
      ≡ words_where 63 (is_above l.b l.code) (length l.fn.words) elements;
}

abbrev pub decreases-loop-b : goal.decreases-loop-b
decreases-loop-b l = l.b
