use Rattle.std.proofs.Common.{refl}
use Rattle.am_shell.proofs.ClockLemmas.{serves_handed, serves_own}
use Rattle.am_shell.proofs.session.serve_on.Goals as goal

pub returns-in-None : goal.returns-in-None
returns-in-None g c =
    let went = c.serve_connection.ensures in
    serves_handed _ _ _ c.serve_connection.result c.in-None.is went.whole went.session went.fault went.same

pub returns-in-Some : goal.returns-in-Some
returns-in-Some g c =
    let went = c.serve_connection-in-Some.ensures in
    serves_own _ c.in-Some.asked _ _ _ _ c.serve_connection-in-Some.result c.in-Some.is c.new-own.ensures refl
    went.whole went.session went.fault went.same
