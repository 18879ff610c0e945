use Rattle.std.proofs.Common.{◌≡◌, take, fold}
use Rattle.am_tasks.specs.Marks.{with_byte}
use Rattle.am_tasks.proofs.task.mark_of_bytes.Given as goal

abbrev pub invariant-loop-byte : goal.invariant-loop-byte
invariant-loop-byte l = l.mark ≡ fold with_byte 0 (take l.byte-index l.bytes)
