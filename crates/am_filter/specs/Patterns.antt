-- Patterns that occur more than once among the rules of a filter.
use Rattle.std.specs.Prelude.{ℕ, Bool, false, List}
use Rattle.std.specs.List.{list_any}
use Rattle.am_types.specs.declared.filter.PathRule.{PathRule}
use Rattle.am_types.specs.declared.filter.PathRule.TheVariants.{Pattern}
use Rattle.am_model.specs.Texts.{is_same}

-- the rule is this pattern
abbrev pub has_pattern : List ℕ → PathRule → Bool
has_pattern text (Pattern other) = is_same other text
has_pattern text rule = false

-- the rule is a pattern that is also one of the rules
abbrev pub repeats : List PathRule → PathRule → Bool
repeats rules (Pattern text) = list_any (has_pattern text) rules
repeats rules rule = false
