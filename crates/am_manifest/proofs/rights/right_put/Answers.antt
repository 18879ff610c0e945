-- The set of a package is taken out, gets one more text and is put back.
use Rattle.std.proofs.Common.{◌≡◌, ◌<◌, length, get_or, sym, ap, ◌∙◌, arith}
use Rattle.std.proofs.lemmas.Result.{err_from_is_err_and}
use Rattle.am_manifest.proofs.Holders.{put_back, put_fails}
use Rattle.am_manifest.proofs.rights.right_put.Goals as goal

pub returns-in_err-texts : goal.returns-in_err-texts
returns-in_err-texts c =
    let items = c.args.held.items in
    let old = c.replace-texts.result in
    let within : c.args.right.holder < length items = omega (arith, c.args.held.ok.0) in
    let is : old ≡ get_or items c.args.right.holder old = c.replace-texts.ensures.value ∙ c.index_mut.ensures.value
    ∙ ap (get_or items c.args.right.holder) (sym c.replace-texts.ensures.value) in
    let p = err_from_is_err_and c.from_residual.result c.from_residual.ensures.1 in
    rw (p.1, p.2) (put_fails c.in_err-texts.field-0.0 c.args.kind items c.args.right old within is
    c.in_err-texts.ensures)

pub returns : goal.returns
returns c =
    let items = c.args.held.items in
    let old = c.replace-texts.result in
    let within : c.args.right.holder < length items = omega (arith, c.args.held.ok.0) in
    let is : old ≡ get_or items c.args.right.holder old = c.replace-texts.ensures.value ∙ c.index_mut.ensures.value
    ∙ ap (get_or items c.args.right.holder) (sym c.replace-texts.ensures.value) in
    put_back c.args.kind items c.args.right old c.replace-texts.new.dest c.in_ok-texts.texts within is
    c.in_ok-texts.ensures
