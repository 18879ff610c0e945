use Rattle.std.proofs.Common.{rules}
use Rattle.std.proofs.lemmas.List.Sorted.{answers_always}
use Rattle.am_queue.proofs.Rising.{found_at, found_nowhere}
use Rattle.am_queue.proofs.results.place_of.Goals as goal

-- the closure gives a result's delivery number
pub returns-in-Ok : goal.returns-in-Ok
returns-in-Ok c =
    found_at c.args.number c.requires.0 c.args.kept.now c.in-Ok.place c.requires.1 c.in-Ok.ensures.bound
    (c.in-Ok.ensures.position (λ r. r.delivery) (answers_always _ _ _ (λ f a r g called. search rules)))

pub returns-in-Err : goal.returns-in-Err
returns-in-Err c =
    found_nowhere c.args.number c.requires.0 c.args.kept.now c.in-Err.field-0 c.requires.1
    (c.in-Err.ensures.position (λ r. r.delivery) (answers_always _ _ _ (λ f a r g called. search rules)))
