-- Hosts with ASCII case ignored.
use Rattle.std.proofs.Common.{◌≡◌, ◌≢◌, ℕ, ◌-◌, Bool, false, ◌==◌, ◌↔◌, IsTrue, List, [], ◌∷◌, length, map, take, drop, refl, sym, ap, ◌∙◌, arith}
use Rattle.std.specs.Char.{to_ascii_lowercase}
use Rattle.std.specs.Cmp.Lexicographic.{bytes_decides}
use Rattle.std.proofs.lemmas.Bool.Decides.{same_from_decides}
use Rattle.std.proofs.lemmas.Grind.{common_steps}
use Rattle.std.proofs.lemmas.List.{drop-map, length-map, length-drop}
use Rattle.std.proofs.Math.Seq.{take-length}
use Rattle.am_model.specs.Texts.{is_same, ends_with, lowered}
use Rattle.am_model.specs.Filters.{has_host}

-- a test that two texts are equal is the definition's
pub same_test : (text other : List ℕ) (r : Bool) → (IsTrue r ↔ (text ≡ other)) → r ≡ is_same text other
same_test text other r test = same_from_decides r (is_same text other) test (bytes_decides text other)

-- and the other way round
same_turned : (text other : List ℕ) (r : Bool) → (IsTrue r ↔ (text ≡ other)) → r ≡ is_same other text
same_turned text other r test = same_from_decides r (is_same other text)
    ((λ held. sym (test.0 held)), (λ held. test.1 (sym held))) (bytes_decides other text)

-- the same text from the end
pub end_test : (text end : List ℕ) (r : Bool) → (IsTrue r ↔ (map to_ascii_lowercase
    (take (length text - (length text - length end)) (drop (length text - length end) text))
    ≡ map to_ascii_lowercase end)) → r ≡ ends_with (lowered text) (lowered end)
end_test text end r test =
    let whole : take (length text - (length text - length end)) (drop (length text - length end) text)
    ≡ drop (length text - length end) text = ap (λ n. take n (drop (length text - length end) text))
    (sym (length-drop (length text - length end) text)) ∙ take-length (drop (length text - length end) text) in
    simp (length-map, drop-map) (same_turned (map to_ascii_lowercase (drop (length text - length end) text))
    (map to_ascii_lowercase end) r (rw whole at test))

not_star : (b : ℕ) → b ≢ 42 → (to_ascii_lowercase b == 42) ≡ false
not_star b other = grind (arith, common_steps)

-- a host with no star in front
pub plain_host : (listed host : List ℕ) → ((rest : List ℕ) → listed ≢ 42 ∷ rest)
    → has_host (lowered listed) (lowered host) ≡ is_same (lowered listed) (lowered host)
plain_host [] [] other = refl
plain_host [] (h ∷ host) other = refl
plain_host (b ∷ listed) host other = rw (not_star b (λ star. other listed (ap (λ c. c ∷ listed) star))) refl
