-- The hits of greatest priority have that of the first.
use Rattle.std.proofs.Common.{◌≡◌, List, [], ◌∷◌, Some, refl, ap}
use Rattle.std.specs.List.{slice_get, take_while}
use Rattle.std.specs.Ordering.{int_eq}
use Rattle.am_types.specs.declared.resolve.Hit.{Hit}
use Rattle.am_model.specs.Targets.{top}

pub top_first : (hs : List Hit) (f : Hit) → Some f ≡ slice_get hs 0
    → take_while (λ (h : Hit). int_eq h.priority f.priority) hs ≡ top hs
top_first [] f e = refl
top_first (x ∷ xs) f e = let same : f ≡ x = cc in ap (λ (d : Hit). take_while
    (λ (h : Hit). int_eq h.priority d.priority) (x ∷ xs)) same
