use Rattle.std.proofs.Common.{◌≡◌, ◌∷◌, [], sym, ◌∙◌}
use Rattle.am_audit_shell.proofs.WordLemmas.{eight, named, not_first, not_second, not_third, not_fourth}
use Rattle.am_audit_shell.proofs.words.named_by.Goals.{else-is_option-via-else-is_option, else-is_option-via-then-is_option+else-is_option-2, else-is_option-via-then-is_option+then-is_option-2+else-is_option-3, else-is_option-via-then-is_option+then-is_option-2+then-is_option-3+else-is_option-4}
use Rattle.am_audit_shell.proofs.words.named_by.Goals as goal

pub returns-then-is_option-4 : goal.returns-then-is_option-4
returns-then-is_option-4 c =
    named c.args.words.now c.a-item.result c.device-item.result c.b-item.result c.history-item.result c.c-item.result
    c.frames-item.result c.d-item.result c.responses-item.result
    (eight c.args.words.now c.a-item.result c.device-item.result c.b-item.result c.history-item.result c.c-item.result
    c.frames-item.result c.d-item.result c.responses-item.result c.in-len8.len_at_least c.in-len8.len_below
    c.a-item.is c.device-item.is c.b-item.is c.history-item.is c.c-item.is c.frames-item.is c.d-item.is
    c.responses-item.is)
    (sym c.is_option.ensures ∙ c.if-is_option.true) (sym c.is_option-then-is_option.ensures ∙ c.if-is_option-2.true)
    (sym c.is_option-then-is_option-2.ensures ∙ c.if-is_option-3.true)
    (sym c.is_option-then-is_option-3.ensures ∙ c.if-is_option-4.true)

pub returns-else-is_option : goal.returns-else-is_option
returns-else-is_option c =
    let is : c.args.words.now ≡ c.a-item.result ∷ c.device-item.result ∷ c.b-item.result ∷ c.history-item.result
    ∷ c.c-item.result ∷ c.frames-item.result ∷ c.d-item.result ∷ c.responses-item.result
    ∷ [] = eight c.args.words.now c.a-item.result c.device-item.result c.b-item.result c.history-item.result
    c.c-item.result c.frames-item.result c.d-item.result c.responses-item.result c.in-len8.len_at_least
    c.in-len8.len_below c.a-item.is c.device-item.is c.b-item.is c.history-item.is c.c-item.is c.frames-item.is
    c.d-item.is c.responses-item.is in
    elim c.else-is_option.branch [
      | else-is_option-via-then-is_option+then-is_option-2+then-is_option-3+else-is_option-4 w ↦ not_fourth
          c.args.words.now c.a-item.result c.device-item.result c.b-item.result c.history-item.result c.c-item.result
          c.frames-item.result c.d-item.result c.responses-item.result is
          (sym w.is_option-then-is_option-3.ensures ∙ w.if-is_option-4.false)
      | else-is_option-via-then-is_option+then-is_option-2+else-is_option-3 w ↦ not_third c.args.words.now
          c.a-item.result c.device-item.result c.b-item.result c.history-item.result c.c-item.result
          c.frames-item.result c.d-item.result c.responses-item.result is
          (sym w.is_option-then-is_option-2.ensures ∙ w.if-is_option-3.false)
      | else-is_option-via-then-is_option+else-is_option-2 w ↦ not_second c.args.words.now c.a-item.result
          c.device-item.result c.b-item.result c.history-item.result c.c-item.result c.frames-item.result
          c.d-item.result c.responses-item.result is (sym w.is_option-then-is_option.ensures ∙ w.if-is_option-2.false)
      | else-is_option-via-else-is_option w ↦ not_first c.args.words.now c.a-item.result c.device-item.result
          c.b-item.result c.history-item.result c.c-item.result c.frames-item.result c.d-item.result
          c.responses-item.result is (sym c.is_option.ensures ∙ w.if-is_option.false)
    ]
