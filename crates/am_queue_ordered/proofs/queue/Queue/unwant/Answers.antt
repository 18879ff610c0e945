use Rattle.std.proofs.Common.{◌≡◌, sym, map, subst, arith}
use Rattle.std.proofs.lemmas.Grind.{common_steps}
use Rattle.std.proofs.lemmas.List.Edits.{map_over_more}
use Rattle.am_model.specs.Sending.{unwanted}
use Rattle.am_queue_ordered.specs.Heads.{AllWait}
use Rattle.am_queue_ordered.proofs.Waiting.{waiting_unwanted}
use Rattle.am_queue_ordered.proofs.queue.Queue.unwant.Goals as goal

pub invariant_of-self : goal.invariant_of-self
invariant_of-self c =
    let all : c.loop-place.self-inside.turns.items ≡ map (unwanted c.args.uid) c.self.inside.turns.items = grind
    (arith, common_steps) in
    subst AllWait (sym all) (waiting_unwanted c.args.uid c.self.inside.turns.items c.self.invariant)

pub loop-place-preserved : goal.loop-place-preserved
loop-place-preserved c =
    rw c.unwant.ensures (map_over_more (unwanted c.args.uid) c.self.inside.turns.items
    c.loop-place.self-inside.turns.items c.loop-place.place c.index_mut-turn.result.now
    (grind (arith, common_steps)) c.loop-place.invariant c.index_mut-turn.ensures.value)
