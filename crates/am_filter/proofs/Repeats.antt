-- A pattern that an earlier rule has too passes as that one does.
use Rattle.std.proofs.Common.{◌≡◌, ℕ, Bool, true, false, ◌||◌, ◌+◌, ◌<◌, List, [], ◌∷◌, length, take, get_or, refl, sym, ap, ◌∙◌}
use Rattle.std.specs.List.{list_any}
use Rattle.std.specs.Cmp.Lexicographic.{bytes_decides}
use Rattle.std.proofs.lemmas.List.Folds.{list_any_more}
use Rattle.am_types.specs.declared.device.Rules.{Rules}
use Rattle.am_types.specs.declared.filter.PathRule.{PathRule}
use Rattle.am_types.specs.declared.filter.PathRule.TheVariants.{Literal, Prefix, Suffix, Pattern}
use Rattle.am_model.specs.Paths.{passes_path, passes_pattern}
use Rattle.am_filter.specs.Patterns.{has_pattern, repeats}

-- if neither of two holds, the first doesn't, and the second doesn't
first_none : (a b : Bool) → a || b ≡ false → a ≡ false
first_none false b none = refl
first_none true b none = absurd cc

second_none : (a b : Bool) → a || b ≡ false → b ≡ false
second_none false b none = none
second_none true b none = absurd cc

here_or_behind : (here behind : Bool) (result : Type 0) → here || behind ≡ true → (here ≡ true → result)
    → (behind ≡ true → result) → result
here_or_behind true behind result some at_here at_behind = at_here refl
here_or_behind false behind result some at_here at_behind = at_behind some

-- the rule that is the pattern passes as it does
same_pattern : (rules : Rules) (rule : PathRule) (text path : List ℕ) → passes_path rules rule path ≡ false
    → has_pattern text rule ≡ true → passes_pattern rules text path ≡ false
same_pattern rules (Pattern other) text path fails same = ap (λ t. passes_pattern rules t path)
    (sym ((bytes_decides other text).0 same)) ∙ fails
same_pattern rules (Literal other) text path fails same = absurd cc
same_pattern rules (Prefix other) text path fails same = absurd cc
same_pattern rules (Suffix other) text path fails same = absurd cc

pattern_fails : (rules : Rules) (paths : List PathRule) (text path : List ℕ)
    → list_any (λ rule. passes_path rules rule path) paths ≡ false
    → list_any (has_pattern text) paths ≡ true → passes_pattern rules text path ≡ false
pattern_fails rules [] text path none some = absurd cc
pattern_fails rules (rule ∷ paths) text path none some =
    let here = first_none (passes_path rules rule path) (list_any (λ r. passes_path rules r path) paths) none in
    let behind = second_none (passes_path rules rule path) (list_any (λ r. passes_path rules r path) paths) none in
    here_or_behind (has_pattern text rule) (list_any (has_pattern text) paths) (passes_pattern rules text path ≡ false)
    some
    (λ same. same_pattern rules rule text path here same)
    (λ same. pattern_fails rules paths text path behind same)

-- if no rule passes, a rule that repeats a pattern of them doesn't either
pub repeated_fails : (rules : Rules) (paths : List PathRule) (rule : PathRule) (path : List ℕ)
    → list_any (λ r. passes_path rules r path) paths ≡ false → repeats paths rule ≡ true
    → passes_path rules rule path ≡ false
repeated_fails rules paths (Pattern text) path none some = pattern_fails rules paths text path none some
repeated_fails rules paths (Literal text) path none some = absurd cc
repeated_fails rules paths (Prefix text) path none some = absurd cc
repeated_fails rules paths (Suffix text) path none some = absurd cc

-- one rule more that doesn't pass
pub none_more : (rules : Rules) (paths : List PathRule) (i : ℕ) (rule : PathRule) (path : List ℕ) → i < length paths
    → rule ≡ get_or paths i rule → list_any (λ r. passes_path rules r path) (take i paths) ≡ false
    → passes_path rules rule path ≡ false → list_any (λ r. passes_path rules r path) (take (i + 1) paths) ≡ false
none_more rules paths i rule path below here none fails =
    let last : passes_path rules (get_or paths i rule) path ≡ false =
    ap (λ r. passes_path rules r path) (sym here) ∙ fails in
    list_any_more (λ r. passes_path rules r path) paths i rule below
    ∙ ap (λ b. b || passes_path rules (get_or paths i rule) path) none ∙ last
