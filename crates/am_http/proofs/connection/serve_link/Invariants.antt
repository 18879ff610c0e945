use Rattle.std.proofs.Common.{◌*◌, ◌≤◌}
use Rattle.am_http.specs.Exchanges.{RaisesAlong}
use Rattle.am_http.specs.Links.{Link, IsSameLink, link_of, streams_of}
use Rattle.am_http.specs.Sessions.{Going, GivesAtMost, most_held}
use Rattle.am_http.proofs.connection.serve_link.Given as goal

-- the connection goes on: so far each frame was answered, what is left is told, and so is the least place of a later
-- answer
abbrev pub invariant-loop-answered : goal.invariant-loop-answered
invariant-loop-answered g l =
    let first : Link = link_of (g.D.Desk.view l.initial.desk) (streams_of g.S.Source g.W.Sink g.C.Clock l.initial.source
    l.initial.sink l.initial.clock) in
    let link : Link = link_of (g.D.Desk.view l.desk) (streams_of g.S.Source g.W.Sink g.C.Clock l.source l.sink l.clock)
    in
    record {
      going : Going first (record { link = link; window = l.buffers.window; least = l.least }) l.answered;
      raised : RaisesAlong g.D.Desk.waits l.initial.least l.least going.exchanges;
      gives : GivesAtMost (most_held * l.answered) first.source.left link.source.left;
      same : IsSameLink first link;
      waits : g.S.Source.waits l.initial.source ≤ g.S.Source.waits l.source;
    }
