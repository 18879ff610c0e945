use Rattle.std.proofs.Common.{◌≡◌, refl, subst, Some, None}
use Rattle.am_model.specs.Tasks.{Tasks, seen}
use Rattle.am_tasks.proofs.Backs.{seen_number, nothing_seen, ends_seen}
use Rattle.am_tasks.proofs.Held.{held}
use Rattle.am_tasks.proofs.tasks.Tasks.back.Goals as goal

pub returns-in_err-seen-clause-none : goal.returns-in_err-seen-clause-none
returns-in_err-seen-clause-none c =
    let all : Tasks = held c.self.inside in
    let none : None ≡ seen_number (seen all.tasks) = rw c.deref.ensures.value at c.in_err-seen.ensures in
    (λ _. rw (← c.self.view_is) (nothing_seen all c.self.invariant none), λ _. rw c.from_residual.ensures refl)

pub returns-clause-ended : goal.returns-clause-ended
returns-clause-ended c =
    let some : Some c.in_ok-seen.seen ≡ seen_number (seen c.self.inside.tasks.items) = rw c.deref.ensures.value at
    c.in_ok-seen.ensures in
    ends_seen c.args.self.now c.end.new.self c.in_ok-seen.seen (subst
    (λ (t : Tasks). Some c.in_ok-seen.seen ≡ seen_number (seen t.tasks)) c.self.view_is some) c.end.ensures.ended
