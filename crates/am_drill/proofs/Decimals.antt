-- Texts that end with a number in decimal.
use Rattle.std.proofs.Common.{◌≡◌, ℕ, zero, suc, ◌+◌, ◌<◌, ◌≤◌, ◌%◌, ◌^◌, ◌==◌, Bool, true, false, ◌&&◌, ◌||◌, nat_le, List, [], ◌∷◌, ◌++◌, map, decimal, refl, sym, ap, ◌∙◌, arith}
use Rattle.std.specs.Cmp.Lexicographic.{same_text}
use Rattle.std.specs.List.{AllByRecursion, IsDistinct, list_all, list_any, range_with_len}
use Rattle.std.proofs.lemmas.Fmt.{decimal_by_steps, decimal_injective}
use Rattle.std.proofs.lemmas.List.{append_cancel_left}
use Rattle.std.proofs.lemmas.List.Folds.{list_all-append, list_any-append}
use Rattle.am_model.specs.Sound.{AreDistinct}
use Rattle.am_model.specs.Texts.{is_same}

-- a digit is visible, and no slash
visible_digit : (d : ℕ) → d < 10 → (nat_le 33 (48 + d) && nat_le (48 + d) 126) && true ≡ true
visible_digit d small = grind arith

no_slash_digit : (d : ℕ) → d < 10 → (48 + d == 47) || false ≡ false
no_slash_digit d small = grind arith

-- the digits of a number are visible
pub digits_are_visible : (n : ℕ) → n < 2 ^ 64 → list_all (λ b. nat_le 33 b && nat_le b 126) (decimal n) ≡ true
digits_are_visible = decimal_by_steps (λ n ds. list_all visible ds ≡ true) (λ n small. visible_digit n small) more
  where
    visible : ℕ → Bool
    visible b = nat_le 33 b && nat_le b 126

    more : (n : ℕ) (ds : List ℕ) → 10 ≤ n → list_all visible ds ≡ true → list_all visible (ds ++ (48 + n % 10) ∷ [])
        ≡ true
    more n ds large so_far =
        let small : n % 10 < 10 = omega arith in
        list_all-append visible ds ((48 + n % 10) ∷ [])
        ∙ ap (λ b. b && list_all visible ((48 + n % 10) ∷ [])) so_far
        ∙ visible_digit (n % 10) small

-- and none of them is a slash
pub digits_have_no_slash : (n : ℕ) → n < 2 ^ 64 → list_any (λ b. b == 47) (decimal n) ≡ false
digits_have_no_slash = decimal_by_steps (λ n ds. list_any slash ds ≡ false) (λ n small. no_slash_digit n small) more
  where
    slash : ℕ → Bool
    slash b = b == 47

    more : (n : ℕ) (ds : List ℕ) → 10 ≤ n → list_any slash ds ≡ false → list_any slash (ds ++ (48 + n % 10) ∷ [])
        ≡ false
    more n ds large so_far =
        let small : n % 10 < 10 = omega arith in
        list_any-append slash ds ((48 + n % 10) ∷ [])
        ∙ ap (λ b. b || list_any slash ((48 + n % 10) ∷ [])) so_far
        ∙ no_slash_digit (n % 10) small

-- a text with other numbers behind it is another text
pub apart : (front : List ℕ) (m n : ℕ) → m < n → n < 2 ^ 64 → is_same (front ++ decimal m) (front ++ decimal n) ≡ false
apart front m n less small = by _ refl
  where
    by : (b : Bool) → b ≡ is_same (front ++ decimal m) (front ++ decimal n)
        → is_same (front ++ decimal m) (front ++ decimal n) ≡ false
    by true is =
        let same : m ≡ n = decimal_injective m n (omega arith) small
        (append_cancel_left front (decimal m) (decimal n) (same_text (front ++ decimal m) (front ++ decimal n) is)) in
        absurd (omega arith)
    by false is = sym is

-- a text is none of those with numbers behind a front
pub apart_from : (text front : List ℕ) → ((n : ℕ) → is_same text (front ++ decimal n) ≡ false) → (a k : ℕ)
    → AllByRecursion (λ other. is_same text other ≡ false) (map (λ n. front ++ decimal n) (range_with_len a k))
apart_from text front other a zero = tt
apart_from text front other a (suc k) = (other a, apart_from text front other (a + 1) k)

-- a text with a number behind it is none of those with greater ones
apart_behind : (front : List ℕ) (m a k : ℕ) → m < a → a + k ≤ 256
    → AllByRecursion (λ other. is_same (front ++ decimal m) other ≡ false)
    (map (λ n. front ++ decimal n) (range_with_len a k))
apart_behind front m a zero less small = tt
apart_behind front m a (suc k) less small =
    (apart front m a less (omega arith), apart_behind front m (a + 1) k (omega arith) (omega arith))

-- texts with different numbers behind a front are distinct
pub numbered_apart : (front : List ℕ) (a k : ℕ) → a + k ≤ 256 → AreDistinct
    (map (λ n. front ++ decimal n) (range_with_len a k))
unfolding IsDistinct
numbered_apart front a zero small = tt
numbered_apart front a (suc k) small =
    (apart_behind front a (a + 1) k (omega arith) (omega arith), numbered_apart front (a + 1) k (omega arith))
