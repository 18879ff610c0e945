use Rattle.std.proofs.Common.{◌≡◌, ℕ, ◌<◌, ◌≤◌, take, [], map, length, get_or}
use Rattle.am_uri.specs.PathElements.{element_of}
use Rattle.am_uri.specs.PathRows.{test_of}
use Rattle.am_uri.specs.PathWords.{passes, words_where}
use Rattle.am_uri.proofs.rows.write_rows.Given as goal

abbrev pub invariant-loop-k : goal.invariant-loop-k
invariant-loop-k l = record {
  same_length : length l.rows ≡ length l.initial.rows;
  so_far : (j : ℕ) → j < l.k → (m : ℕ) → m ≤ 17 → take m (get_or l.rows j [])
      ≡ words_where 63 (passes (test_of j)) m (map element_of l.elements);
}
