-- The earliest of two lists of moments together is the sooner of those of both.
use Rattle.std.proofs.Common.{◌≡◌, ℕ, ◌||◌, List, ◌++◌, refl, sym, ◌∙◌}
use Rattle.std.specs.Prelude.{Option, Some, None}
use Rattle.am_model.specs.Broadcasts.{earliest}
use Rattle.am_queue_ordered.proofs.Deadlines.{has_come, either_comes, joined_comes, same_moment}
use Rattle.am_queue.specs.Sooner.{sooner}

-- the sooner of two moments has come just when one of them has
sooner_comes : (now : ℕ) (one other : Option ℕ) → has_come now (sooner one other)
    ≡ has_come now one || has_come now other
sooner_comes now None other = refl
sooner_comes now (Some moment) other = either_comes now moment other

pub joined_earliest : (some others : List ℕ) → earliest (some ++ others) ≡ sooner (earliest some) (earliest others)
joined_earliest some others =
    same_moment (earliest (some ++ others)) (sooner (earliest some) (earliest others))
    (λ now. joined_comes now some others ∙ sym (sooner_comes now (earliest some) (earliest others)))
