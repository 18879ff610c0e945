-- The mark with which the lines behind the head begin.
use Rattle.std.proofs.Common.{◌≡◌, ℕ, ◌<◌, ◌^◌, Bool, true, false, eqb, List, [], ◌∷◌, ◌++◌, ◌-◌, length, take, drop, refl, ap, ◌∙◌, append_assoc, arith, codes, decimal}
use Rattle.std.specs.Prelude.{◌==◌}
use Rattle.std.specs.List.{before_first, starts_with}
use Rattle.std.proofs.lemmas.List.{take_rest}
use Rattle.am_http.specs.Responses.{digit, place_lines}
use Rattle.am_audit_answers.specs.Marks.{HasMark, HasNoMark}
use Rattle.am_audit_answers.proofs.Lines.{before, behind_head, decimal_lacks, line_behind}

-- what is behind the number of a place
abbrev pub behind_at : Bool → List ℕ → List ℕ
behind_at stored rest = codes "\r\nAM-Stored: " ++ (digit stored ++ (codes "\r\n" ++ rest))

-- the number of a place, and what is behind it
pub place_is : (at : ℕ) (stored : Bool) (rest : List ℕ) → place_lines at stored ++ rest ≡ codes "AM-At: "
    ++ (decimal at ++ behind_at stored rest)
unfolding place_lines
place_is at stored rest =
    append_assoc (codes "AM-At: ") (decimal at ++ (codes "\r\nAM-Stored: " ++ (digit stored ++ codes "\r\n"))) rest
    ∙ ap (λ (l : List ℕ). codes "AM-At: " ++ l) (append_assoc (decimal at)
    (codes "\r\nAM-Stored: " ++ (digit stored ++ codes "\r\n")) rest
    ∙ ap (λ (l : List ℕ). decimal at ++ l) (append_assoc (codes "\r\nAM-Stored: ") (digit stored ++ codes "\r\n") rest
    ∙ ap (λ (l : List ℕ). codes "\r\nAM-Stored: " ++ l) (append_assoc (digit stored) (codes "\r\n") rest)))

behind : (text rest : List ℕ) → drop (length text) (text ++ rest) ≡ rest
behind [] rest = refl
behind (b ∷ text) rest = behind text rest

-- what is behind the first words of the lines of a place
pub place_has : (at : ℕ) (stored : Bool) (rest lines place : List ℕ) → lines ≡ place_lines at stored ++ rest → place
    ≡ drop 7 lines
    → place ≡ decimal at ++ behind_at stored rest
place_has at stored rest lines place begins behind_it = behind_it ∙ ap (λ (l : List ℕ). drop 7 l)
    (begins ∙ place_is at stored rest)

-- before the first carriage return is the number
pub number_has : (at : ℕ) (stored : Bool) (rest place number : List ℕ) → at < 2 ^ 64 → place ≡ decimal at
    ++ behind_at stored rest
    → number ≡ before_first (λ b. b == 13) place → number ≡ decimal at
number_has at stored rest place number fits has is =
    is ∙ (ap (before_first (λ b. b == 13)) has
    ∙ before 13 (decimal at) (drop 1 (behind_at stored rest)) (decimal_lacks 13 at (omega arith) fits))

-- and behind the number is the rest
pub rest_has : (at : ℕ) (stored : Bool) (rest place number : List ℕ) → place ≡ decimal at ++ behind_at stored rest
    → number ≡ decimal at
    → take (length place - length number) (drop (length number) place) ≡ behind_at stored rest
rest_has at stored rest place number has is =
    take_rest place (length number)
    ∙ (ap (λ (n : List ℕ). drop (length n) place) is
    ∙ (ap (λ (l : List ℕ). drop (length (decimal at)) l) has ∙ behind (decimal at) (behind_at stored rest)))

-- the digit of a truth is read as that truth
pub digit_shown : (stored : Bool) (text rest : List ℕ) → text ≡ digit stored ++ rest → starts_with eqb text (codes "1")
    ≡ stored
unfolding digit
digit_shown true text rest is = ap (λ (l : List ℕ). starts_with eqb l (codes "1")) is
digit_shown false text rest is = ap (λ (l : List ℕ). starts_with eqb l (codes "1")) is

-- what is behind the three lines of a response that has a mark
pub behind_marked : (bytes : List ℕ) (at : ℕ) (stored : Bool) (m : HasMark bytes at stored)
    → line_behind (line_behind (line_behind bytes)) ≡ place_lines at stored ++ m.rest
behind_marked bytes at stored m =
    ap (λ (l : List ℕ). line_behind (line_behind (line_behind l))) m.begins
    ∙ behind_head m.status m.length (place_lines at stored ++ m.rest) m.fits.0 m.fits.1

-- what is behind the three lines of a response that has none
pub behind_unmarked : (bytes : List ℕ) (m : HasNoMark bytes)
    → line_behind (line_behind (line_behind bytes)) ≡ codes "AM-Stored: 0\r\n" ++ m.rest
behind_unmarked bytes m =
    ap (λ (l : List ℕ). line_behind (line_behind (line_behind l))) m.begins
    ∙ behind_head m.status m.length (codes "AM-Stored: 0\r\n" ++ m.rest) m.fits.0 m.fits.1
