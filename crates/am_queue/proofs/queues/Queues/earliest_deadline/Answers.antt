use Rattle.std.proofs.Common.{◌≡◌, ◌++◌, List, ℕ, Option, sym, ap, ◌∙◌}
use Rattle.am_model.specs.Broadcasts.{earliest, head_deadline, normal_deadlines}
use Rattle.am_queue.specs.Sooner.{sooner}
use Rattle.am_queue.proofs.Soonest.{joined_earliest}
use Rattle.am_queue.proofs.queues.Queues.earliest_deadline.Goals as goal

pub returns-clause-earliest : goal.returns-clause-earliest
returns-clause-earliest g c =
    let q = c.self.inside in
    let heads : List ℕ = head_deadline q.foreground ++ head_deadline q.background in
    let normal : List ℕ = normal_deadlines q.normals.normal in
    let joined : earliest (heads ++ normal) ≡ sooner (sooner (earliest (head_deadline q.foreground))
    (earliest (head_deadline q.background))) (earliest normal) =
    joined_earliest heads normal
    ∙ ap (λ (m : Option ℕ). sooner m (earliest normal)) (joined_earliest (head_deadline q.foreground)
    (head_deadline q.background)) in
    rw (← c.self.view_is) cc
