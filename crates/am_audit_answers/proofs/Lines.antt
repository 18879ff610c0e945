-- The lines that each response begins with, and what is behind them.
use Rattle.std.proofs.Common.{◌≡◌, ℕ, suc, ◌+◌, ◌<◌, ◌≤◌, ◌^◌, Bool, true, false, not, ◌&&◌, cond, eqb, List, [], ◌∷◌, ◌++◌, take, drop, refl, sym, ap, ◌∙◌, subst, append_assoc, arith, rules, codes, decimal}
use Rattle.std.specs.Prelude.{Some, unwrap_or, ◌==◌}
use Rattle.std.specs.List.{after_first, before_first, list_all, position_or_len}
use Rattle.std.proofs.lemmas.Fmt.{decimal_is_IsNumeral}
use Rattle.std.specs.Char.{digit_value}
use Rattle.std.specs.Str.Parse.{AllDigits, digits_value}
use Rattle.std.specs.List.{AllByRecursion}
use Rattle.std.proofs.lemmas.Bool.{eqb-true}
use Rattle.am_http.specs.Responses.{head, phrase, phrase_in, phrases}

-- a text without a byte
abbrev pub lacks : ℕ → List ℕ → Bool
lacks c text = list_all (λ b. not (b == c)) text

-- one more place
drop_more : (n b : ℕ) (rest : List ℕ) → drop (1 + n + 1) (b ∷ rest) ≡ drop (n + 1) rest
drop_more n b rest = let more : 1 + n + 1 ≡ suc (n + 1) = omega arith in ap (λ m. drop m (b ∷ rest)) more

take_more : (n b : ℕ) (rest : List ℕ) → take (1 + n) (b ∷ rest) ≡ b ∷ take n rest
take_more n b rest = let more : 1 + n ≡ suc n = omega arith in ap (λ m. take m (b ∷ rest)) more

-- what is behind the first such byte of a text that begins with one that lacks it
pub past : (c : ℕ) (text rest : List ℕ) → lacks c text ≡ true
    → after_first (λ b. b == c) (text ++ rest) ≡ after_first (λ b. b == c) rest
past c [] rest none = refl
past c (b ∷ text) rest none = by (eqb b c) none (past c text rest)
  where
    by : (t : Bool) → not t && lacks c text ≡ true
        → (lacks c text ≡ true → after_first (λ b. b == c) (text ++ rest) ≡ after_first (λ b. b == c) rest)
        → drop (cond (not t) (1 + position_or_len (λ b. b == c) (text ++ rest)) 0 + 1) (b ∷ (text ++ rest))
        ≡ after_first (λ b. b == c) rest
    by true none later = absurd cc
    by false none later = drop_more (position_or_len (λ b. b == c) (text ++ rest)) b (text ++ rest) ∙ later none

-- what is before it
pub before : (c : ℕ) (text rest : List ℕ) → lacks c text ≡ true → before_first (λ b. b == c) (text ++ c ∷ rest) ≡ text
before c [] rest none = by (eqb c c) (self c)
  where
    self : (n : ℕ) → eqb n n ≡ true
    self n = grind (arith)

    by : (t : Bool) → t ≡ true → take (cond (not t) (1 + position_or_len (λ b. b == c) rest) 0) (c ∷ rest) ≡ []
    by true is = refl
    by false is = absurd cc
before c (b ∷ text) rest none = by (eqb b c) none (before c text rest)
  where
    by : (t : Bool) → not t && lacks c text ≡ true
        → (lacks c text ≡ true → before_first (λ b. b == c) (text ++ c ∷ rest) ≡ text)
        → take (cond (not t) (1 + position_or_len (λ b. b == c) (text ++ c ∷ rest)) 0) (b ∷ (text ++ c ∷ rest))
        ≡ b ∷ text
    by true none later = absurd cc
    by false none later = take_more (position_or_len (λ b. b == c) (text ++ c ∷ rest)) b (text ++ c ∷ rest)
        ∙ ap (λ (l : List ℕ). b ∷ l) (later none)

-- digits lack what is no digit
digits_lack : (c : ℕ) → 10 ≤ digit_value c → (text : List ℕ) → AllDigits 10 text → lacks c text ≡ true
digits_lack c none [] all = refl
digits_lack c none (b ∷ text) all = by (eqb b c) refl (digits_lack c none text all.1)
  where
    by : (t : Bool) → eqb b c ≡ t → lacks c text ≡ true → not t && lacks c text ≡ true
    by true is later =
        let same : b ≡ c = eqb-true b c is in
        let small : digit_value c < 10 = subst (λ (n : ℕ). digit_value n < 10) same all.0 in
        absurd (omega arith)
    by false is later = later

pub decimal_lacks : (c n : ℕ) → 10 ≤ digit_value c → n < 2 ^ 64 → lacks c (decimal n) ≡ true
decimal_lacks c n none fits = digits_lack c none (decimal n) (decimal_is_IsNumeral n fits).0.1

-- no phrase has a newline
abbrev pub AreLines : List (ℕ × List ℕ) → Type 0
AreLines rows = AllByRecursion (λ (row : ℕ × List ℕ). lacks 10 row.1 ≡ true) rows

phrase_in_lacks : (rows : List (ℕ × List ℕ)) (status : ℕ) → AreLines rows
    → lacks 10 (unwrap_or (phrase_in rows status) []) ≡ true
phrase_in_lacks [] status all = refl
phrase_in_lacks (row ∷ rows) status all = by (eqb status row.0) (phrase_in_lacks rows status all.1)
  where
    by : (t : Bool) → lacks 10 (unwrap_or (phrase_in rows status) []) ≡ true
        → lacks 10 (unwrap_or (cond t (Some row.1) (phrase_in rows status)) []) ≡ true
    by true later = all.0
    by false later = later

phrase_lacks : (status : ℕ) → lacks 10 (phrase status) ≡ true
unfolding phrase
phrase_lacks status = phrase_in_lacks phrases status (search rules)

-- the first line of a response
abbrev pub line_behind : List ℕ → List ℕ
line_behind text = after_first (λ b. b == 10) text

head_first : (status n : ℕ) (rest : List ℕ) → status < 2 ^ 64 → n < 2 ^ 64
    → line_behind (head status n ++ rest)
    ≡ codes "Content-Type: application/json\r\nContent-Length: " ++ (decimal n ++ (codes "\r\n" ++ rest))
unfolding head
head_first status n rest fits few =
    let tail : List ℕ = codes "\r\nContent-Type: application/json\r\nContent-Length: " ++ (decimal n ++ codes "\r\n") in
    ap line_behind (append_assoc (codes "HTTP/1.1 ") (decimal status ++ (codes " " ++ (phrase status ++ tail))) rest)
    ∙ past 10 (codes "HTTP/1.1 ") ((decimal status ++ (codes " " ++ (phrase status ++ tail))) ++ rest) refl
    ∙ ap line_behind (append_assoc (decimal status) (codes " " ++ (phrase status ++ tail)) rest)
    ∙ past 10 (decimal status) ((codes " " ++ (phrase status ++ tail)) ++ rest)
    (decimal_lacks 10 status (omega arith) fits)
    ∙ ap line_behind (append_assoc (codes " ") (phrase status ++ tail) rest)
    ∙ past 10 (codes " ") ((phrase status ++ tail) ++ rest) refl
    ∙ ap line_behind (append_assoc (phrase status) tail rest)
    ∙ past 10 (phrase status) (tail ++ rest) (phrase_lacks status)
    ∙ ap line_behind
    (append_assoc (codes "\r\nContent-Type: application/json\r\nContent-Length: ") (decimal n ++ codes "\r\n") rest)
    ∙ ap (λ (l : List ℕ). codes "Content-Type: application/json\r\nContent-Length: " ++ l)
    (append_assoc (decimal n) (codes "\r\n") rest)

head_second : (n : ℕ) (rest : List ℕ)
    → line_behind (codes "Content-Type: application/json\r\nContent-Length: " ++ rest)
    ≡ codes "Content-Length: " ++ rest
head_second n rest = refl

head_third : (n : ℕ) (rest : List ℕ) → n < 2 ^ 64
    → line_behind (codes "Content-Length: " ++ (decimal n ++ (codes "\r\n" ++ rest))) ≡ rest
head_third n rest few =
    past 10 (codes "Content-Length: ") (decimal n ++ (codes "\r\n" ++ rest)) refl
    ∙ past 10 (decimal n) (codes "\r\n" ++ rest) (decimal_lacks 10 n (omega arith) few)

-- what is behind the three lines
pub behind_head : (status n : ℕ) (rest : List ℕ) → status < 2 ^ 64 → n < 2 ^ 64
    → line_behind (line_behind (line_behind (head status n ++ rest))) ≡ rest
behind_head status n rest fits few =
    ap (λ (l : List ℕ). line_behind (line_behind l)) (head_first status n rest fits few)
    ∙ ap line_behind (head_second n (decimal n ++ (codes "\r\n" ++ rest)))
    ∙ head_third n rest few

-- texts of two numbers with the same byte behind them
pub same_number : (c n m : ℕ) (rest others : List ℕ) → 10 ≤ digit_value c → n < 2 ^ 64 → m < 2 ^ 64
    → decimal n ++ c ∷ rest ≡ decimal m ++ c ∷ others → n ≡ m
same_number c n m rest others none fits few is =
    let texts : decimal n ≡ decimal m =
    sym (before c (decimal n) rest (decimal_lacks c n none fits)) ∙ ap (before_first (λ b. b == c)) is
    ∙ before c (decimal m) others (decimal_lacks c m none few) in
    sym (decimal_is_IsNumeral n fits).1 ∙ ap (digits_value 10) texts ∙ (decimal_is_IsNumeral m few).1

-- responses that begin alike have the same status
pub same_status : (s t n m : ℕ) (rest others : List ℕ) → s < 2 ^ 64 → t < 2 ^ 64
    → head s n ++ rest ≡ head t m ++ others → s ≡ t
unfolding head
same_status s t n m rest others fits few is =
    let tail : ℕ → ℕ → List ℕ = λ status length. phrase status
    ++ (codes "\r\nContent-Type: application/json\r\nContent-Length: " ++ (decimal length ++ codes "\r\n")) in
    let split : (status length : ℕ) (more : List ℕ)
    → (codes "HTTP/1.1 " ++ (decimal status ++ (codes " " ++ tail status length))) ++ more
    ≡ codes "HTTP/1.1 " ++ (decimal status ++ (32 ∷ (tail status length ++ more))) =
    λ status length more.
    append_assoc (codes "HTTP/1.1 ") (decimal status ++ (codes " " ++ tail status length)) more
    ∙ ap (λ (l : List ℕ). codes "HTTP/1.1 " ++ l)
    (append_assoc (decimal status) (codes " " ++ tail status length) more) in
    same_number 32 s t (tail s n ++ rest) (tail t m ++ others) (omega arith) fits few
    (ap (λ (l : List ℕ). drop 9 l) (sym (split s n rest) ∙ is ∙ split t m others))
