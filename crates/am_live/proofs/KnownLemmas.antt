-- What is planned by what is known of a state is planned for the state.
use Rattle.std.proofs.Common.{◌≡◌, ℕ, subst, sym, ◌∙◌}
use Rattle.am_types.specs.declared.request.Request.{Request}
use Rattle.am_history.specs.State.{State}
use Rattle.am_laws_state.specs.Sound.{IsSoundState}
use Rattle.am_live_packages.specs.Changes.{IsPlanOf}
use Rattle.am_live_packages.specs.declared.change.Plan.{Plan}

-- where a state with what is known is that state
pub planned_for : (with_known : State → State) (seen state : State) (plan : Plan) (caller : ℕ) (request : Request)
    → seen ≡ state → with_known seen ≡ seen → IsSoundState state
    → ((s : State) → IsSoundState (with_known s) → IsPlanOf plan (with_known s) caller request)
    → IsPlanOf plan state caller request
planned_for with_known seen state plan caller request same stays sound planned =
    subst (λ (s : State). IsPlanOf plan s caller request) (stays ∙ same)
    (planned seen (subst IsSoundState (sym (stays ∙ same)) sound))
