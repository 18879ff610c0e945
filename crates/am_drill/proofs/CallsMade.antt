-- The call that is made of draws.
use Rattle.std.proofs.Common.{◌≡◌, ℕ, ◌*◌, ◌%◌, List, ap, ◌∙◌, Result, Ok, Err}
use Rattle.std.specs.Prelude.{OnOk}
use Rattle.am_types.specs.declared.request.Request.{Request}
use Rattle.am_drill.specs.Calls.{behind, call_at, call_of, caller_of, case_of}
use Rattle.am_drill.specs.Draws.{after, given, next}
use Rattle.am_drill.specs.Requests.{draws_of, request_of}

-- what holds anyway holds after a success
pub anyway : {X E : Type 0} {P : Type 0} (r : Result X E) → P → OnOk r P
anyway (Ok x) p = p
anyway (Err e) p = tt

module _ (state one two case : ℕ) (first : one ≡ next state) (second : two ≡ next one) (is_case : case ≡ given two % 4)
  where
    both : two ≡ after 2 state
    both = second ∙ ap next first

    the_case : case ≡ case_of state
    the_case = is_case ∙ ap (λ (d : ℕ). given d % 4) both

    -- a caller and a request that are drawn make the call
    pub made_call : (packages j number : ℕ) (key : List ℕ) (now : ℕ) (request : Request) → number ≡ given one % packages
        → key ≡ caller_of case number → now ≡ 1000 * j → request ≡ request_of case two
        → call_of key now request ≡ call_at packages j state
    unfolding call_at
    made_call packages j number key now request is_number is_key is_now is_request =
        ap (λ (k : List ℕ). call_of k now request)
        (is_key
        ∙ ap (λ (c : ℕ). caller_of c number) the_case
        ∙ ap (caller_of (case_of state)) (is_number ∙ ap (λ (d : ℕ). given d % packages) first))
        ∙ ap (λ (n : ℕ). call_of (caller_of (case_of state) (given (next state) % packages)) n request) is_now
        ∙ ap (call_of (caller_of (case_of state) (given (next state) % packages)) (1000 * j))
        (is_request
        ∙ ap (λ (c : ℕ). request_of c two) the_case
        ∙ ap (request_of (case_of state)) both)

    -- and the draws go on behind it
    pub drawn_behind : (last : ℕ) → last ≡ after (draws_of case) two → last ≡ behind state
    unfolding behind
    drawn_behind last is =
        is
        ∙ ap (λ (c : ℕ). after (draws_of c) two) the_case
        ∙ ap (after (draws_of (case_of state))) both
