use Rattle.std.proofs.Common.{Bool, sym, ap, ◌∙◌}
use Rattle.std.specs.Prelude.{if◌then◌else◌}
use Rattle.am_audit_history.proofs.Lines.{by_last, last_line_is}
use Rattle.am_audit_history.proofs.history.last_line.Goals as goal

pub returns-then-is_newline-clause-count : goal.returns-then-is_newline-clause-count
returns-then-is_newline-clause-count c =
    sym (last_line_is c.args.bytes.now ∙ ap by_last (sym c.in-Some.ensures.value)
    ∙ ap (λ (b : Bool). if b then 0 else 1) (sym c.is_newline.ensures ∙ c.if-is_newline.true))

pub returns-else-is_newline-clause-count : goal.returns-else-is_newline-clause-count
returns-else-is_newline-clause-count c =
    sym (last_line_is c.args.bytes.now ∙ ap by_last (sym c.in-Some.ensures.value)
    ∙ ap (λ (b : Bool). if b then 0 else 1) (sym c.is_newline.ensures ∙ c.if-is_newline.false))
