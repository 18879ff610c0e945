-- Rights that are moved one by one.
use Rattle.std.proofs.Common.{◌≡◌, ◌<◌, true, false, cond, List, [], ◌∷◌, ◌++◌, length, take, drop, refl, sym, ap, ◌∙◌, append_assoc, append-nil, arith}
use Rattle.am_model.specs.Rights.{Right}
use Rattle.am_opening.specs.Merging.{front, behind_front, is_first_before}

-- what was moved and what is still to be moved is what is to be moved in all
pub record IsMoving (r : Right) (done' left' done left : List Right) : Type 0 where
  pub moved : done ++ front r left ≡ done' ++ front r left'
  pub behind : behind_front r left ≡ behind_front r left'

front_more : (r : Right) (left : List Right) → is_first_before r left ≡ true → take 1 left ++ front r (drop 1 left)
    ≡ front r left
front_more r [] first = absurd cc
front_more r (s ∷ more) first = sym (ap (λ b. cond b (s ∷ front r more) []) first)

behind_more : (r : Right) (left : List Right) → is_first_before r left ≡ true → behind_front r (drop 1 left)
    ≡ behind_front r left
behind_more r [] first = absurd cc
behind_more r (s ∷ more) first = sym (ap (λ b. cond b (behind_front r more) (s ∷ more)) first)

pub fewer_left : (r : Right) (left : List Right) → is_first_before r left ≡ true → length (drop 1 left) < length left
fewer_left r [] first = absurd cc
fewer_left r (s ∷ more) first = omega arith

pub moved_more : (r : Right) (done' left' done left : List Right) → is_first_before r left ≡ true
    → IsMoving r done' left' done left
    → IsMoving r done' left' (done ++ take 1 left) (drop 1 left)
moved_more r done' left' done left first moving = record {
  moved = append_assoc done (take 1 left) (front r (drop 1 left)) ∙ ap (λ l. done ++ l) (front_more r left first)
      ∙ moving.moved;
  behind = behind_more r left first ∙ moving.behind;
}

front_none : (r : Right) (left : List Right) → is_first_before r left ≡ false → front r left ≡ []
front_none r [] first = refl
front_none r (s ∷ more) first = ap (λ b. cond b (s ∷ front r more) []) first

behind_all : (r : Right) (left : List Right) → is_first_before r left ≡ false → behind_front r left ≡ left
behind_all r [] first = refl
behind_all r (s ∷ more) first = ap (λ b. cond b (behind_front r more) (s ∷ more)) first

pub moved_all : (r : Right) (done' left' done left : List Right) → is_first_before r left ≡ false
    → IsMoving r done' left' done left → done ≡ done' ++ front r left'
moved_all r done' left' done left first moving =
    sym (append-nil done) ∙ ap (λ l. done ++ l) (sym (front_none r left first)) ∙ moving.moved

pub left_all : (r : Right) (done' left' done left : List Right) → is_first_before r left ≡ false
    → IsMoving r done' left' done left → left ≡ behind_front r left'
left_all r done' left' done left first moving = sym (behind_all r left first) ∙ moving.behind
