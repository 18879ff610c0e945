use Rattle.std.proofs.Common.{None, arith}
use Rattle.am_uri.proofs.Cuts.{split_first}
use Rattle.am_uri.proofs.uri.split_scheme.Goals as goal

pub returns-in_err-scheme : goal.returns-in_err-scheme
returns-in_err-scheme c =
    let none = split_first 58 c.args.text.now None c.in_err-scheme.ensures.cases (omega arith) in
    rw (c.from_residual.ensures, none)
