-- The chain's test of each text, as the definition's.
use Rattle.std.proofs.Common.{rules, ◌∙◌, tests}
use Rattle.std.proofs.lemmas.Iterator.{YieldsList-from_slice}
use Rattle.std.proofs.lemmas.Iterator.Search.{any_from_yields_List}
use Rattle.am_model.specs.Texts.{is_same}
use Rattle.am_wire_fields.proofs.Listed.{list_any-map}
use Rattle.am_wire_fields.proofs.fields.is_listed.Goals as goal

pub returns : goal.returns
returns c =
    any_from_yields_List (λ listed. is_same listed.now c.args.text.now) _ _ _ c.any.ensures.ran
    (YieldsList-from_slice c.args.texts.now cc) (λ x b q k. search (rules, tests))
    ∙ list_any-map (λ listed. is_same listed c.args.text.now) (λ listed. listed.now) c.args.texts.now
