-- Puts of two items, one after the other.
use Rattle.std.proofs.Common.{◌≡◌, List, [], ◌∷◌, refl, sym, ap, ◌∙◌}
use Rattle.std.specs.declared.cmp.Ordering.{Ordering}
use Rattle.std.specs.declared.cmp.Ordering.TheVariants.{Less, Equal, Greater}
use Rattle.std.specs.Ordering.{ordering_reverse}
use Rattle.std.specs.Cmp.{IsTotalOrder}
use Rattle.std.proofs.lemmas.Cmp.{alike_right}
use Rattle.am_keeper.specs.Rows.{beside, put_in}

module _ {X : Type 0} (order : X → X → Ordering) (total : IsTotalOrder order) where
  -- the later of two items that tie stands
  pub put_in-tied : (x y : X) → order y x ≡ Equal → (zs : List X) → put_in order x (put_in order y zs)
      ≡ put_in order x zs
  put_in-tied x y tied [] = rw tied refl
  put_in-tied x y tied (z ∷ zs) = by (put_in-tied x y tied zs) (order z y) refl
    where
      same : order z y ≡ order z x
      same = alike_right total y x z tied

      by : put_in order x (put_in order y zs) ≡ put_in order x zs → (o : Ordering) → order z y ≡ o
          → put_in order x (beside o y z zs (put_in order y zs)) ≡ put_in order x (z ∷ zs)
      by more Less is = let zx : order z x ≡ Less = sym same ∙ is in rw zx (ap (λ ws. z ∷ ws) more)
      by more Equal is = let zx : order z x ≡ Equal = sym same ∙ is in rw (tied, zx) refl
      by more Greater is = let zx : order z x ≡ Greater = sym same ∙ is in rw (tied, zx) refl

  back : (x y : X) (o : Ordering) → order x y ≡ o → order y x ≡ ordering_reverse o
  back x y o is = total.antisymm y x ∙ ap ordering_reverse is

  -- two items with x behind y, in either order
  pub put_in-commutes : (x y : X) → order y x ≡ Less → (zs : List X) → put_in order x (put_in order y zs)
      ≡ put_in order y (put_in order x zs)
  put_in-commutes x y yx [] = let xy : order x y ≡ Greater = back y x Less yx in rw (yx, xy) refl
  put_in-commutes x y yx (z ∷ zs) = by (put_in-commutes x y yx zs) (order z y) (order z x) refl refl
    where
      xy : order x y ≡ Greater
      xy = back y x Less yx

      by : put_in order x (put_in order y zs) ≡ put_in order y (put_in order x zs) → (a b : Ordering) → order z y ≡ a
          → order z x ≡ b
          → put_in order x (beside a y z zs (put_in order y zs)) ≡ put_in order y (beside b x z zs (put_in order x zs))
      by more Less Less zy zx = rw (zx, zy) (ap (λ ws. z ∷ ws) more)
      by more Less Equal zy zx = absurd (let f : order x y ≡ Greater = xy in let e : order x y
          ≡ Less = sym (total.congr z x y zx) ∙ zy in cc)
      by more Less Greater zy zx = absurd (let f : order x y ≡ Greater = xy in let e : order x y
          ≡ Less = total.trans x z y (back z x Greater zx) zy in cc)
      by more Equal Less zy zx = rw (yx, zy) refl
      by more Equal Equal zy zx = absurd (let e : order z x ≡ Less = total.congr z y x zy ∙ yx in cc)
      by more Equal Greater zy zx = absurd (let e : order z x ≡ Less = total.congr z y x zy ∙ yx in cc)
      by more Greater Less zy zx = rw (yx, zx, zy) refl
      by more Greater Equal zy zx = rw (yx, zx, xy) refl
      by more Greater Greater zy zx = rw (yx, zx, xy) refl

  -- two items that don't tie, in either order
  pub put_in-apart : (x y : X) → (order x y ≡ Equal → ⊥) → (zs : List X) → put_in order y (put_in order x zs)
      ≡ put_in order x (put_in order y zs)
  put_in-apart x y apart zs = by (order x y) refl
    where
      by : (o : Ordering) → order x y ≡ o → put_in order y (put_in order x zs) ≡ put_in order x (put_in order y zs)
      by Less is = put_in-commutes y x is zs
      by Equal is = absurd (apart is)
      by Greater is = sym (put_in-commutes x y (back x y Greater is) zs)
