use Rattle.std.proofs.Common.{◌≡◌, ◌&&◌, true, false, Some, None, sym, ap, ◌∙◌, arith, rules}
use Rattle.std.proofs.lemmas.Str.Pattern.{split_once_first}
use Rattle.am_model.specs.Links.{are_domain_parts, is_domain_part, is_top_part, parts_of}
use Rattle.am_links.proofs.Parts.{first_of_more, one_of_one}
use Rattle.am_links.proofs.domain.are_domain_parts.Goals as goal
use Rattle.am_links.proofs.domain.are_domain_parts.Goals.{In-Some, In_default}

-- the parts of the rest: one, and those behind the dot
parts : (c : In-Some) → are_domain_parts (parts_of c.loop-part.rest.now)
    ≡ is_domain_part c.in-Some.part.now && are_domain_parts (parts_of c.in-Some.others.now)
parts c = first_of_more c.loop-part.rest.now c.in-Some.part.now c.in-Some.others.now
    (split_once_first 46 c.loop-part.rest.now (Some (c.in-Some.part, c.in-Some.others)) c.in-Some.ensures.cases
    (omega arith))

-- the rest is the last part
last : (c : In_default) → are_domain_parts (parts_of c.loop-part.rest.now)
    ≡ is_domain_part c.loop-part.rest.now && is_top_part c.loop-part.rest.now
last c = one_of_one c.loop-part.rest.now
    (split_once_first 46 c.loop-part.rest.now None c.in_default.ensures.cases (omega arith))

pub returns-then-not-is_domain_part : goal.returns-then-not-is_domain_part
returns-then-not-is_domain_part c =
    let is : is_domain_part c.in-Some.part.now ≡ false = sym c.if-not-is_domain_part.ensures in
    sym (sym c.loop-part.invariant.1 ∙ parts (goal.at.returns-then-not-is_domain_part c).In-Some
    ∙ ap (λ b. b && are_domain_parts (parts_of c.in-Some.others.now)) is)

pub loop-part-preserved : goal.loop-part-preserved
loop-part-preserved c =
    let is : is_domain_part c.in-Some.part.now ≡ true = sym c.if-not-is_domain_part.ensures in (
      search rules,
      sym (ap (λ b. b && are_domain_parts (parts_of c.in-Some.others.now)) is)
          ∙ sym (parts (goal.at.loop-part-preserved c).In-Some) ∙ c.loop-part.invariant.1,
    )

pub returns-then-is_domain_part : goal.returns-then-is_domain_part
returns-then-is_domain_part c =
    let is : is_domain_part c.loop-part.rest.now ≡ true = sym c.if-is_domain_part.ensures in
    c.is_top_part.ensures
    ∙ sym (ap (λ b. b && is_top_part c.loop-part.rest.now) is)
    ∙ sym (last (goal.at.returns-then-is_domain_part c).In_default) ∙ c.loop-part.invariant.1

pub returns-else-is_domain_part : goal.returns-else-is_domain_part
returns-else-is_domain_part c =
    let is : is_domain_part c.loop-part.rest.now ≡ false = sym c.if-is_domain_part.ensures in
    c.if-is_domain_part.false
    ∙ sym (ap (λ b. b && is_top_part c.loop-part.rest.now) is)
    ∙ sym (last (goal.at.returns-else-is_domain_part c).In_default) ∙ c.loop-part.invariant.1
