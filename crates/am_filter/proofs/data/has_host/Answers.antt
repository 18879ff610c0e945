use Rattle.std.proofs.Common.{None, sym, ◌∙◌, arith}
use Rattle.std.proofs.lemmas.Str.Pattern.{strip_prefix_char}
use Rattle.am_model.specs.Texts.{lowered}
use Rattle.am_filter.proofs.Hosts.{same_test, plain_host}
use Rattle.am_filter.proofs.data.has_host.Goals as goal

pub returns-in-None : goal.returns-in-None
returns-in-None c =
    let plain = strip_prefix_char 42 c.args.listed.now None c.in-None.ensures.cases (omega arith) in
    same_test (lowered c.args.listed.now) (lowered c.args.host.now) c.eq_ignore_ascii_case.result
    c.eq_ignore_ascii_case.ensures.test ∙ sym (plain_host c.args.listed.now c.args.host.now plain)
