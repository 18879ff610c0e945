use Rattle.std.proofs.Common.{◌∙◌, ap, option_map}
use Rattle.am_pending.specs.Records.{pending_of, record_in}
use Rattle.am_pending.proofs.Changes.{lookup-records, taken_away}
use Rattle.am_pending.proofs.records.Records.take.Goals as goal

pub returns-clause-found : goal.returns-clause-found
returns-clause-found g c =
    ap (option_map (pending_of c.args.token)) c.remove.ensures.value
    ∙ lookup-records c.args.token c.self.inside.by_token.entries
    ∙ ap (record_in c.args.token) c.self.view_is

pub returns-clause-others : goal.returns-clause-others
returns-clause-others g c = taken_away c.args.token c.self.inside.by_token.entries _ _ c.remove.ensures.entries
    c.remove.ensures.updates.1 c.self.view_is
