use Rattle.std.proofs.Common.{List, ℕ, drop, ap, ◌∙◌, Bool}
use Rattle.std.specs.Prelude.{Some}
use Rattle.am_audit_answers.proofs.MarkLemmas.{digit_shown}
use Rattle.am_audit_answers.proofs.marks.stored_in.Goals as goal

pub returns : goal.returns
returns c = λ stored rest is.
    ap (λ (truth : Bool). Some truth) (c.starts_with.ensures.value
    ∙ digit_shown stored c.in_ok-digit.digit.now rest (c.in_ok-digit.ensures.cases.1
    ∙ ap (λ (l : List ℕ). drop 13 l) is))
