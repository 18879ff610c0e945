use Rattle.std.proofs.Common.{◌∙◌, arith}
use Rattle.am_uri.proofs.Cuts.{split_first, split_first_is}
use Rattle.am_wire_intents.proofs.Slashes.{parts_of_cut}
use Rattle.am_wire_intents.proofs.components.parts_of.Goals as goal

pub returns : goal.returns
returns c =
    split_first_is 47 c.args.text.now c.split_once.result (split_first 47 c.args.text.now c.split_once.result
    c.split_once.ensures.cases (omega arith))
    ∙ parts_of_cut c.args.text.now
