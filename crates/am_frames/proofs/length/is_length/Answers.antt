use Rattle.std.proofs.Common.{◌≡◌, ℕ, ◌<◌, ◌≤◌, Bool, ◌&&◌, List, length, sym, ap₂, ◌∙◌, arith, rules, tests}
use Rattle.std.specs.List.{list_all}
use Rattle.std.specs.Char.{is_ascii_digit}
use Rattle.std.proofs.lemmas.Bool.{lt-ltb, le-leb}
use Rattle.std.proofs.lemmas.Iterator.{YieldsList-from_slice}
use Rattle.std.proofs.lemmas.Iterator.Search.{all_from_yields_List}
use Rattle.am_frames.specs.Fields.{is_length}
use Rattle.am_frames.proofs.length.is_length.Goals as goal

is_length_is : (v : List ℕ) → 0 < length v → length v ≤ 19 → list_all is_ascii_digit v ≡ is_length v
is_length_is v some few =
    sym (ap₂ (λ (a b : Bool). (a && b) && list_all is_ascii_digit v) (lt-ltb 0 (length v) some)
    (le-leb (length v) 19 few))

pub returns : goal.returns
returns c =
    all_from_yields_List is_ascii_digit _ _ _ c.all.ensures.ran
    (YieldsList-from_slice c.args.value.now c.iter.ensures.rest) (λ x b q k. search (rules, tests))
    ∙ is_length_is c.args.value.now (search (rules, tests)) (omega arith)
