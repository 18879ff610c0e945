use Rattle.std.proofs.Common.{sym, ap, ◌∙◌}
use Rattle.am_installed.proofs.Rising.{rises}
use Rattle.am_resolve.specs.Narrowing.{is_general_at}
use Rattle.am_resolve.proofs.General.{general_at}
use Rattle.am_resolve.proofs.narrow.is_general.Goals as goal

pub returns-in-None-clause-general : goal.returns-in-None-clause-general
returns-in-None-clause-general g c =
    sym (general_at c.args.intent.now c.args.hit.now c.args.packages.now (rises c.args.packages.now c.requires)
    ∙ ap (is_general_at c.args.intent.now c.args.hit.now.component.class) (sym c.in-None.ensures))

pub returns-in-Some-clause-general : goal.returns-in-Some-clause-general
returns-in-Some-clause-general g c =
    c.is_general_in.ensures.general
    ∙ sym (general_at c.args.intent.now c.args.hit.now c.args.packages.now (rises c.args.packages.now c.requires)
    ∙ ap (is_general_at c.args.intent.now c.args.hit.now.component.class) (sym c.in-Some.ensures))
