use Rattle.std.proofs.Common.{◌≡◌, true, false, Some, None, sym, ◌∙◌, arith}
use Rattle.am_model.specs.Uris.{is_colon, has_port}
use Rattle.am_uri.proofs.Cuts.{split_last, list_any-drop}
use Rattle.am_uri.proofs.uri.split_port.Goals.{in_default-via-in-Some+else-has_port, in_default-via-in_default}
use Rattle.am_uri.proofs.uri.split_port.Goals as goal

pub returns-in-Some : goal.returns-in-Some
returns-in-Some c =
    let cut = split_last 58 c.args.server.now (Some c.in-Some.cut) c.in-Some.ensures.cases (omega arith) in
    let front = cut.1 in
    let back = cut.2 in
    let port : has_port c.args.server.now ≡ true = sym c.if-has_port.ensures in
    rw port (cc)

pub returns-in_default : goal.returns-in_default
returns-in_default c =
    let none : has_port c.args.server.now ≡ false = elim c.in_default.branch [
      | in_default-via-in-Some+else-has_port w ↦ sym w.has_port.ensures ∙ w.if-has_port.false
      | in_default-via-in_default w ↦ list_any-drop is_colon _ c.args.server.now
          (split_last 58 c.args.server.now None w.in_default.ensures.cases (omega arith)).0
    ] in
    rw none
