use Rattle.std.proofs.Common.{◌≡◌, ◌++◌, map, take, drop}
use Rattle.am_model.specs.Sending.{unwanted}
use Rattle.am_queue_ordered.proofs.queue.Queue.unwant.Given as goal

-- those up to here are changed, and the rest isn't
abbrev pub invariant-loop-place : goal.invariant-loop-place
invariant-loop-place l =
    l.self-inside.turns.items ≡ map (unwanted l.uid) (take l.place l.initial.self-inside.turns.items)
    ++ drop l.place l.initial.self-inside.turns.items
