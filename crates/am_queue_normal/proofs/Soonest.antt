-- The soonest deadline of some deliveries is the earliest of the broadcasts that they belong to.
use Rattle.std.proofs.Common.{◌≡◌, ℕ, ◌<◌, ◌≤◌, Bool, true, false, List, refl, sym, ◌∙◌, arith}
use Rattle.std.proofs.lemmas.Bool.{leb-false}
use Rattle.std.proofs.lemmas.Bool.Decides.{nat_tests}
use Rattle.std.specs.Prelude.{Option, Some, None, MatchOption, ◌==◌, nat_le}
use Rattle.am_model.specs.Broadcasts.{earliest, normal_deadlines}
use Rattle.am_queue_ordered.proofs.Deadlines.{has_come, earliest_comes, normals_come, same_moment}
use Rattle.am_queue_normal.specs.Kept.{some_due}
use Rattle.am_queue_normal.specs.Posted.{AreInOrder, IsSoonest, NoneLate, Posted, grouped, has_deadline, is_late, passes, posted_at}
use Rattle.am_queue_normal.proofs.Ordered.{Entry}
use Rattle.am_queue_normal.proofs.Removing.{due_or}

reached : (a b now : ℕ) → a == b ≡ true → nat_le b now ≡ true → nat_le a now ≡ true
reached a b now same come = grind (arith, nat_tests)

pub soonest_is : (end : ℕ) (es : List Entry) → AreInOrder end es → (found : Option ℕ)
    → MatchOption found (NoneLate es) (IsSoonest es)
    → found ≡ earliest (normal_deadlines (grouped es))
soonest_is end es order found soonest = same_moment found (earliest (normal_deadlines (grouped es))) (λ now.
    comes now found soonest ∙ sym (normals_come now (grouped es)) ∙ sym
    (earliest_comes now (normal_deadlines (grouped es))))
  where
    late : (deadline now : ℕ) (posted : Option Posted) → nat_le deadline now ≡ true
        → passes (has_deadline deadline) posted ≡ true → passes (is_late now) posted ≡ true
    late deadline now None come wrong = wrong
    late deadline now (Some posted) come same = reached posted.deadline deadline now same come

    comes : (now : ℕ) (found : Option ℕ) → MatchOption found (NoneLate es) (IsSoonest es) → has_come now found
        ≡ some_due (grouped es) now
    comes now None none = due_or now end es order None (none now)
    comes now (Some deadline) soonest = at (nat_le deadline now) refl
      where
        at : (b : Bool) → nat_le deadline now ≡ b → nat_le deadline now ≡ some_due (grouped es) now
        at true is = is ∙ due_or now end es order (Some soonest.0.0)
            (late deadline now (posted_at soonest.0.0 es) is soonest.0.1)
        at false is = is ∙ due_or now end es order None (λ number. soonest.1 now number (leb-false deadline now is))
