-- What decides, as the code finds it.
use Rattle.std.proofs.Common.{◌≡◌, ◌<◌, ◌≤◌, Bool, true, false, cond, List, [], ◌∷◌, length, None, refl, ap, arith}
use Rattle.am_types.specs.declared.intent.Intent.{Intent}
use Rattle.am_types.specs.declared.resolve.Candidate.{Candidate}
use Rattle.am_model.specs.Boards.{Board}
use Rattle.am_model.specs.Links.{is_web, leading, leading_of, unless_none_left}

module _ (board : Board) (intent : Intent) (default_only : Bool) where
  -- nothing decides on fewer than two
  pub too_few : (found : List Candidate) → length found < 2 → leading_of board intent default_only found ≡ None
  too_few [] h = refl
  too_few (one ∷ []) h = refl
  too_few (one ∷ other ∷ others) h = absurd (omega (arith, h))

  -- or if the intent views no web page
  pub no_page : (found : List Candidate) → is_web intent ≡ false → leading_of board intent default_only found ≡ None
  no_page [] e = refl
  no_page (one ∷ []) e = refl
  no_page (one ∷ other ∷ others) e = ap (λ b. cond b (unless_none_left
      (leading board intent default_only (one ∷ other ∷ others)) (one ∷ other ∷ others)) None) e

  -- otherwise what leads does, unless none is left
  pub leads : (found : List Candidate) → 2 ≤ length found → is_web intent ≡ true
      → leading_of board intent default_only found ≡ unless_none_left (leading board intent default_only found) found
  leads [] h e = absurd (omega (arith, h))
  leads (one ∷ []) h e = absurd (omega (arith, h))
  leads (one ∷ other ∷ others) h e = ap (λ b. cond b (unless_none_left
      (leading board intent default_only (one ∷ other ∷ others)) (one ∷ other ∷ others)) None) e
