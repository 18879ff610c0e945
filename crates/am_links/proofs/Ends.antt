-- The end of a text with ASCII case ignored.
use Rattle.std.proofs.Common.{◌≡◌, ℕ, ◌-◌, Bool, ◌↔◌, IsTrue, List, length, map, take, drop, sym, ap, ◌∙◌}
use Rattle.std.specs.Char.{to_ascii_lowercase}
use Rattle.std.specs.Cmp.Lexicographic.{bytes_decides}
use Rattle.std.proofs.lemmas.Bool.Decides.{same_from_decides}
use Rattle.std.proofs.lemmas.List.{drop-map, length-map, length-drop}
use Rattle.std.proofs.Math.Seq.{take-length}
use Rattle.am_model.specs.Texts.{is_same, ends_with, lowered}

-- a test that two texts are equal is the definition's, turned round
same_turned : (text other : List ℕ) (r : Bool) → (IsTrue r ↔ (text ≡ other)) → r ≡ is_same other text
same_turned text other r test = same_from_decides r (is_same other text)
    ((λ held. sym (test.0 held)), (λ held. test.1 (sym held))) (bytes_decides other text)

-- the same text from the end
pub end_test : (text end : List ℕ) (r : Bool) → (IsTrue r ↔ (map to_ascii_lowercase
    (take (length text - (length text - length end)) (drop (length text - length end) text))
    ≡ map to_ascii_lowercase end)) → r ≡ ends_with (lowered text) (lowered end)
end_test text end r test =
    let whole : take (length text - (length text - length end)) (drop (length text - length end) text)
    ≡ drop (length text - length end) text = ap (λ n. take n (drop (length text - length end) text))
    (sym (length-drop (length text - length end) text)) ∙ take-length (drop (length text - length end) text) in
    simp (length-map, drop-map) (same_turned (map to_ascii_lowercase (drop (length text - length end) text))
    (map to_ascii_lowercase end) r (rw whole at test))
