use Rattle.std.proofs.lemmas.Bool.{false≢true}
use Rattle.am_packed.specs.Numbers.{number}
use Rattle.am_packed.proofs.Light.{none_counted, zero_light}
use Rattle.am_packed.proofs.lists.ListPack.unpack.Goals as goal

pub returns-in_err-count-clause-light : goal.returns-in_err-count-clause-light
returns-in_err-count-clause-light g c =
    λ none.
    let counted = number.read c.args.bytes.now in
    absurd
    (false≢true
    (c.in_err-count.ensures.light
    (zero_light counted.0 (none_counted g.T.Pack.form.read counted.0 counted.1 none))))
