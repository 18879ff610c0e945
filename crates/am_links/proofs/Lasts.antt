-- The last of some hits, gathered from the front.
use Rattle.std.proofs.Common.{◌≡◌, ℕ, ◌+◌, ◌<◌, Bool, true, false, ◌&&◌, ◌||◌, cond, eqb, ltb, List, ◌∷◌, drop, get_or, length, Option, Some, None, refl, sym, ap, ◌∙◌, arith}
use Rattle.std.specs.List.{filter}
use Rattle.std.proofs.lemmas.Grind.{common_steps}
use Rattle.std.proofs.lemmas.List.{at_drop_more}
use Rattle.am_types.specs.declared.resolve.Candidate.{Candidate}
use Rattle.am_types.specs.declared.resolve.Hit.{Hit}
use Rattle.am_model.specs.Links.{is_later, last_of, later_of}
use Rattle.am_links.specs.Gathered.{later_after}

-- the last so far, and the last of the rest, if there is one
abbrev pub joined_last : Option Hit → Option Hit → Option Hit
joined_last None rest = rest
joined_last (Some last) rest = Some (later_of last rest)

-- one pair of numbers is after another
abbrev after : ℕ → ℕ → ℕ → ℕ → Bool
after u p v q = ltb v u || (eqb u v && ltb q p)

after_both : (a p b q c r : ℕ) → after a p b q ≡ true → after b q c r ≡ true → after a p c r ≡ true
after_both a p b q c r h k = grind (arith, common_steps)

after_neither : (a p b q c r : ℕ) → after a p b q ≡ false → after b q c r ≡ false → after a p c r ≡ false
after_neither a p b q c r h k = grind (arith, common_steps)

-- a hit that joins the last so far might as well join the last of the rest
pub joined_later : (last : Option Hit) (hit : Hit) (rest : Option Hit)
    → joined_last (Some (later_after last hit)) rest ≡ joined_last last (Some (later_of hit rest))
joined_later None hit rest = refl
joined_later (Some last) hit None = refl
joined_later (Some last) hit (Some rest) = ap Some (by (is_later hit last) (is_later rest hit) refl refl)
  where
    by : (a b : Bool) → is_later hit last ≡ a → is_later rest hit ≡ b
        → later_of (cond a hit last) (Some rest) ≡ later_of last (Some (cond b rest hit))
    by true true e f =
        let g : is_later rest last ≡ true = after_both rest.uid rest.place hit.uid hit.place last.uid last.place f e in
        rw (f, g) refl
    by true false e f = rw (f, e) refl
    by false true e f = refl
    by false false e f =
        let g : is_later rest last ≡ false =
        after_neither rest.uid rest.place hit.uid hit.place last.uid last.place f e in
        rw (g, e) refl

-- one step along the candidates
module _ (takes : Candidate → Bool) (found : List Candidate) (at : ℕ) (c : Candidate) (bound : at < length found)
    (is : c ≡ get_or found at c) where
  -- the last of those that are taken and come later
  abbrev rest : Option Hit
  rest = last_of (filter takes (drop (at + 1) found))

  last_here : (b : Bool) → takes c ≡ b → last_of (filter takes (drop at found))
      ≡ last_of (cond b (c ∷ filter takes (drop (at + 1) found)) (filter takes (drop (at + 1) found)))
  last_here b e =
      at_drop_more (λ (l : List Candidate). last_of (filter takes l)) found at c bound
      ∙ ap (λ (x : Candidate). last_of (filter takes (x ∷ drop (at + 1) found))) (sym is)
      ∙ ap (λ b. last_of (cond b (c ∷ filter takes (drop (at + 1) found)) (filter takes (drop (at + 1) found)))) e

  -- a candidate that is taken joins the last so far
  pub taken : (last : Option Hit) (next : Hit) → takes c ≡ true → next ≡ later_after last c.hit
      → joined_last (Some next) rest ≡ joined_last last (last_of (filter takes (drop at found)))
  taken last next t e =
      ap (λ (n : Hit). joined_last (Some n) rest) e
      ∙ joined_later last c.hit rest
      ∙ sym (ap (joined_last last) (last_here true t))

  -- another leaves it
  pub passed : (last : Option Hit) → takes c ≡ false
      → joined_last last rest ≡ joined_last last (last_of (filter takes (drop at found)))
  passed last f = sym (ap (joined_last last) (last_here false f))
