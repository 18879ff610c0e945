use Rattle.std.proofs.Common.{Some, None, arith}
use Rattle.am_uri.proofs.Cuts.{split_last}
use Rattle.am_uri.proofs.uri.server_of.Goals as goal

pub returns-in-Some : goal.returns-in-Some
returns-in-Some c = (split_last 64 _ (Some (c.in-Some.field-0-0, c.in-Some.server)) c.in-Some.ensures.cases
    (omega arith)).2

pub returns-in-None : goal.returns-in-None
returns-in-None c = (split_last 64 _ None c.in-None.ensures.cases (omega arith)).1
