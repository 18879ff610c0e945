use Rattle.std.proofs.Common.{Some, None, ap, ◌∙◌, arith}
use Rattle.std.specs.List.{list_any}
use Rattle.am_model.specs.Uris.{is_colon}
use Rattle.am_uri.proofs.Cuts.{split_last}
use Rattle.am_uri.proofs.uri.has_port.Goals as goal

pub returns-in-Some : goal.returns-in-Some
returns-in-Some c =
    let cut = split_last 93 _ (Some (c.in-Some.field-0-0, c.in-Some.behind)) c.in-Some.ensures.cases (omega arith) in
    c.has_colon.ensures ∙ ap (list_any is_colon) cut.2

pub returns-in-None : goal.returns-in-None
returns-in-None c =
    let cut = split_last 93 _ None c.in-None.ensures.cases (omega arith) in
    c.has_colon-in-None.ensures ∙ ap (list_any is_colon) cut.1
