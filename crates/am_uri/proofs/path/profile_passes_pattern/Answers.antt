use Rattle.std.proofs.Common.{◌≡◌, ◌∙◌, [], length, sym, ap, arith, chars}
use Rattle.std.proofs.lemmas.Str.{IsUtf8-past_char, chars_past_char}
use Rattle.std.specs.Str.Iter.{chars_rest}
use Rattle.am_uri.specs.PathElements.{elements_left}
use Rattle.am_uri.proofs.PathPlain.{plain_on, wild_last}
use Rattle.am_uri.proofs.PathReading.{chars_at_end}
use Rattle.am_model.specs.Paths.{elements_of, marks_of}
use Rattle.std.proofs.lemmas.Grind.{common_steps}
use Rattle.am_uri.proofs.path.profile_passes_pattern.Goals as goal

pub loop-element-preserved : goal.loop-element-preserved
loop-element-preserved c =
    let held = c.loop-element.invariant in
    let split = c.in-Some-next.ensures.steps.0 in
    record {
      pattern_text = c.in-Some.ensures.text;
      path_text = IsUtf8-past_char _ _ c.in-Some-next.c held.path_text split;
      short = omega (arith, c.in-Some.ensures.shorter);
      so_far = sym (plain_on c.in-Some.element (elements_left c.next_element.new.rest) c.in-Some-next.c
          (chars (chars_rest c.next.new.self)) c.if-element.false (sym c.allows.ensures ∙ c.if-not-allows.false))
          ∙ rw (c.in-Some.ensures.element, chars_past_char _ _ c.in-Some-next.c held.path_text split) at held.so_far;
    }

pub returns-then-is_empty : goal.returns-then-is_empty
returns-then-is_empty c =
    let none : length (chars_rest c.next_element.new.rest) ≡ 0 = grind
    (arith, common_steps, c.is_empty.ensures, c.if-is_empty.true, c.as_str.ensures) in
    let left : elements_left c.next_element.new.rest ≡ [] = ap (λ cs. elements_of (marks_of cs)) (chars_at_end _ none)
    in
    sym (wild_last c.in-Some.element (elements_left c.next_element.new.rest) (chars (chars_rest c.loop-element.rest))
    c.if-element.true (sym c.is_wild.ensures ∙ c.if-is_wild.true) left)
    ∙ rw c.in-Some.ensures.element at c.loop-element.invariant.so_far
