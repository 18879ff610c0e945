use Rattle.std.proofs.Common.{◌≡◌, vec_len}
use Rattle.am_workers.proofs.worker.buffers_for.Given as goal

-- so many buffers were made
abbrev pub invariant-loop-number : goal.invariant-loop-number
invariant-loop-number l = vec_len l.buffers ≡ l._number
