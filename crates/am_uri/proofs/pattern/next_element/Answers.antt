use Rattle.std.proofs.Common.{arith}
use Rattle.std.proofs.lemmas.Str.Pattern.{starts_char}
use Rattle.am_uri.specs.PathElements.{mark_of}
use Rattle.am_uri.proofs.PathReading.{one_answer, text_past, elements-many, elements-once}
use Rattle.am_uri.proofs.pattern.next_element.Goals as goal

pub returns-then-repeated-clause-text : goal.returns-then-repeated-clause-text
returns-then-repeated-clause-text c = text_past c.next_mark.new.rest c.next.new.self c.next.result
    c.in_ok-mark.ensures.text c.next.ensures.steps

pub returns-then-repeated-clause-element : goal.returns-then-repeated-clause-element
returns-then-repeated-clause-element c =
    let star = (starts_char 42 _ c.starts_with-repeated.result c.starts_with-repeated.ensures.cases (omega arith)
    (omega arith)).0 c.if-repeated.true in
    let held = elements-many (mark_of c.in_ok-mark.mark) c.next_mark.new.rest c.next.new.self c.next.result
    c.in_ok-mark.ensures.text (rw c.as_str.ensures at star) c.next.ensures.steps in
    rw (c.in_ok-mark.ensures.mark, c.if-repeated.true) held

pub returns-else-repeated-clause-element : goal.returns-else-repeated-clause-element
returns-else-repeated-clause-element c =
    let decides = starts_char 42 _ c.starts_with-repeated.result c.starts_with-repeated.ensures.cases (omega arith)
    (omega arith) in
    let held = elements-once (mark_of c.in_ok-mark.mark) _ c.in_ok-mark.ensures.text
    (λ star. one_answer c.starts_with-repeated.result (decides.1 (rw c.as_str.ensures star)) c.if-repeated.false) in
    rw (c.in_ok-mark.ensures.mark, c.if-repeated.false) held
