use Rattle.std.proofs.Common.{◌≡◌, ◌++◌, map, take, drop}
use Rattle.am_model.specs.Sending.{strike}
use Rattle.am_queue_ordered.specs.Struck.{strikes}
use Rattle.am_queue_ordered.proofs.queue.Queue.strike.Given as goal

-- those up to here are changed, and the rest isn't
abbrev pub invariant-loop-place : goal.invariant-loop-place
invariant-loop-place l =
    l.self-inside.turns.items ≡ map (strike (strikes l.struck)) (take l.place l.initial.self-inside.turns.items)
    ++ drop l.place l.initial.self-inside.turns.items
