use Rattle.std.proofs.Common.{◌≡◌, ◌+◌, drop}
use Rattle.am_queue.specs.Inbox.{place_of}
use Rattle.am_queue.proofs.inbox.place_of.Given as goal

-- none so far is above the number
abbrev pub invariant-loop-place : goal.invariant-loop-place
invariant-loop-place l = place_of l.number l.items ≡ l.place + place_of l.number (drop l.place l.items)
