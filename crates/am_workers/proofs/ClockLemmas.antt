-- The moments that a clock gives, one piece after the other.
use Rattle.std.proofs.Common.{◌≡◌, ℕ, suc, List, [], ◌∷◌, ◌++◌, ◌∙◌, append-nil, subst}
use Rattle.am_outside.specs.Clock.{IsTold}
use Rattle.am_http.specs.Links.{Gives, Moments}

-- from a clock that tells the same
pub gives_as : (a b : Moments) (ms : List ℕ) (c : Moments) → ((calls : ℕ) → b calls ≡ a calls) → Gives b ms c
    → Gives a ms c
gives_as a b [] c same gives = λ calls. gives calls ∙ same calls
gives_as a b (m ∷ ms) c same gives = (
  subst (λ told. IsTold told m) (same 0) gives.0,
  gives_as (λ calls. a (suc calls)) (λ calls. b (suc calls)) ms c (λ calls. same (suc calls)) gives.1,
)

-- what it gave, and then gave further
pub gives_trans : (a : Moments) (xs : List ℕ) (b : Moments) (ys : List ℕ) (c : Moments) → Gives a xs b → Gives b ys c
    → Gives a (xs ++ ys) c
gives_trans a [] b ys c first next = gives_as a b ys c first next
gives_trans a (x ∷ xs) b ys c first next = (first.0, gives_trans (λ calls. a (suc calls)) xs b ys c first.1 next)

-- if it wasn't asked further, it gave no more
pub gives_still : (a : Moments) (ms : List ℕ) (b c : Moments) → Gives a ms b → Gives b [] c → Gives a ms c
gives_still a ms b c so_far still = subst (λ xs. Gives a xs c) (append-nil ms) (gives_trans a ms b [] c so_far still)
