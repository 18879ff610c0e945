-- How the pieces of a phone's pattern come off the front of its units.
use Rattle.std.proofs.Common.{◌≡◌, ℕ, Bool, true, false, cond, ◌==◌, List, [], ◌∷◌, refl, ap, ◌∙◌, arith}
use Rattle.am_model.specs.Paths.{Mark, Rest, UpTo, Run, One, is_plain_dot, is_star, phone_marks_of, pieces_of}
use Rattle.am_uri.specs.PathPieces.{starts_with}

-- a star
abbrev star : Mark
star = record { character = 42; plain = true }

-- a unit other than a backslash is a plain mark
pub plain_unit : (c : ℕ) (others : List ℕ) → (c ≡ 92 → ⊥)
    → phone_marks_of (c ∷ others) ≡ record { character = c; plain = true } ∷ phone_marks_of others
plain_unit c [] other = grind arith
plain_unit c (next ∷ others) other = grind arith

-- a backslash makes the next unit literal, and the unit 0 at the end
pub literal_unit : (c x : ℕ) (others : List ℕ) → c ≡ 92
    → phone_marks_of (c ∷ x ∷ others) ≡ record { character = x; plain = false } ∷ phone_marks_of others
literal_unit c x others slash = rw slash refl

pub literal_end : (c : ℕ) → c ≡ 92 → phone_marks_of (c ∷ []) ≡ record { character = 0; plain = false } ∷ []
literal_end c slash = rw slash refl

-- a mark that no star follows is one unit
one_before : (mark next : Mark) (others : List Mark) → is_star next ≡ false
    → pieces_of (mark ∷ next ∷ others) ≡ One mark.character ∷ pieces_of (next ∷ others)
one_before mark next [] other = rw other refl
one_before mark next (after ∷ others) other = rw other refl

pub piece_one : (mark : Mark) (us : List ℕ) → starts_with 42 us ≡ false
    → pieces_of (mark ∷ phone_marks_of us) ≡ One mark.character ∷ pieces_of (phone_marks_of us)
piece_one mark [] other = refl
piece_one mark (u ∷ []) other = by (u == 92)
  where
    by : (b : Bool) → pieces_of (mark ∷ cond b (record { character = 0; plain = false } ∷ [])
        (record { character = u; plain = true } ∷ []))
        ≡ One mark.character ∷ pieces_of (cond b (record { character = 0; plain = false } ∷ [])
        (record { character = u; plain = true } ∷ []))
    by true = one_before mark (record { character = 0; plain = false }) [] refl
    by false = one_before mark (record { character = u; plain = true }) [] other
piece_one mark (u ∷ x ∷ us) other = by (u == 92)
  where
    by : (b : Bool) → pieces_of (mark ∷ cond b (record { character = x; plain = false } ∷ phone_marks_of us)
        (record { character = u; plain = true } ∷ phone_marks_of (x ∷ us)))
        ≡ One mark.character ∷ pieces_of (cond b (record { character = x; plain = false } ∷ phone_marks_of us)
        (record { character = u; plain = true } ∷ phone_marks_of (x ∷ us)))
    by true = one_before mark (record { character = x; plain = false }) (phone_marks_of us) refl
    by false = one_before mark (record { character = u; plain = true }) (phone_marks_of (x ∷ us)) other

-- a star behind it repeats it
pub piece_run : (mark : Mark) (us : List ℕ) → is_plain_dot mark ≡ false
    → pieces_of (mark ∷ phone_marks_of (42 ∷ us)) ≡ Run mark.character ∷ pieces_of (phone_marks_of us)
piece_run mark us other =
    ap (λ marks. pieces_of (mark ∷ marks)) (plain_unit 42 us (λ wrong. omega arith)) ∙ by (phone_marks_of us)
  where
    by : (marks : List Mark) → pieces_of (mark ∷ star ∷ marks) ≡ Run mark.character ∷ pieces_of marks
    by [] = rw other refl
    by (after ∷ others) = rw other refl

-- behind a plain dot it goes up to the next mark
pub piece_up_to : (mark after : Mark) (us : List ℕ) (others : List Mark) → is_plain_dot mark ≡ true
    → phone_marks_of us ≡ after ∷ others
    → pieces_of (mark ∷ phone_marks_of (42 ∷ us)) ≡ UpTo after.character ∷ pieces_of others
piece_up_to mark after us others dot split =
    ap (λ marks. pieces_of (mark ∷ marks)) (plain_unit 42 us (λ wrong. omega arith))
    ∙ ap (λ marks. pieces_of (mark ∷ star ∷ marks)) split
    ∙ by others
  where
    by : (others : List Mark) → pieces_of (mark ∷ star ∷ after ∷ others) ≡ UpTo after.character ∷ pieces_of others
    by others = rw dot refl

-- or, at the end, to the end
pub piece_rest : (mark : Mark) (us : List ℕ) → is_plain_dot mark ≡ true → phone_marks_of us ≡ []
    → pieces_of (mark ∷ phone_marks_of (42 ∷ us)) ≡ Rest ∷ []
piece_rest mark us dot none =
    ap (λ marks. pieces_of (mark ∷ marks)) (plain_unit 42 us (λ wrong. omega arith))
    ∙ ap (λ marks. pieces_of (mark ∷ star ∷ marks)) none
    ∙ rw dot refl
