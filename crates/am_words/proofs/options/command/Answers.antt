use Rattle.std.proofs.Common.{arith, ◌∙◌, ◌≡◌, ap, ap₂, map, take, get_or, sym, List, [], ◌∷◌}
use Rattle.std.specs.Borrow.{Bor}
use Rattle.std.proofs.lemmas.List.{take_more, map-append}
use Rattle.clap.specs.Words.{app_of, rule_of, with_rule}
use Rattle.am_words.specs.Options.{Text}
use Rattle.am_words.specs.Parsed.{app_named, named_rule}
use Rattle.am_words.proofs.ParsedLemmas.{one_more_named}
use Rattle.am_words.proofs.options.command.Goals as goal

pub loop-name-preserved : goal.loop-name-preserved
loop-name-preserved c =
    let names = c.args.names.now in
    let i = c.loop-name.name-index in
    let texts : List (Bor Text) → List Text = map (λ name. name.now) in
    let more : app_of c.in_ok-command.command ≡ with_rule (app_of c.loop-name.command) (rule_of c.option.result) =
    c.in_ok-command.ensures.shape c.option.ensures.local in
    let d : Bor Text = record { ref_ptr = (0, 0); now = [] } in
    let rule : rule_of c.option.result ≡ named_rule (get_or names i d).now = c.option.ensures.rule in
    more ∙ ap₂ with_rule c.loop-name.invariant rule ∙ one_more_named (texts (take i names)) (get_or names i d).now
    ∙ ap app_named (sym (map-append (λ (name : Bor Text). name.now) (take i names) (get_or names i d ∷ []))
    ∙ ap texts (sym (take_more names i d (omega arith))))
