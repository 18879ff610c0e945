use Rattle.std.proofs.Common.{◌≡◌, ℕ, ◌+◌, ◌*◌, ◌-◌, List, [], Option, refl, subst, arith}
use Rattle.am_http.specs.declared.end.End.TheVariants.{Limit}
use Rattle.am_http.specs.Frames.{Leaves}
use Rattle.am_http.specs.Links.{Link, link_of, streams_of}
use Rattle.am_http.specs.Sessions.{most_frames, most_held, most_taken}
use Rattle.am_http.proofs.NextLemmas.{gives_none, gives_more}
use Rattle.am_http.proofs.SessionLemmas.{VisitAlong, going_none, leaves_self, going_more, session_close, session_limit, session_stop, same_link_trans, same_link_refl}
use Rattle.am_http.proofs.TurnLemmas.{nothing_before}
use Rattle.am_http.proofs.connection.serve_link.Goals as goal

-- a connection begins with an empty window
pub loop-answered-init : goal.loop-answered-init
loop-answered-init g c =
    let first : Link = link_of (g.D.Desk.view c.args.desk.now) (streams_of g.S.Source g.W.Sink g.C.Clock
    c.args.source.now c.args.sink.now c.args.clock.now) in
    let left = first.source.left in
    record {
      going = going_none first c.clear.new.self c.args.least.now
          (subst (λ (rest : Option (List ℕ)). Leaves left [] rest)
          (nothing_before c.clear.new.self left c.clear.ensures)
          (leaves_self left));
      raised = (λ it_waits. tt, refl);
      gives = gives_none left;
      same = same_link_refl first;
      waits = omega arith;
    }

pub returns-in-Closed-clause-session : goal.returns-in-Closed-clause-session
returns-in-Closed-clause-session g c =
    let mid = c.loop-answered in
    let inv = c.loop-answered.invariant in
    let limit = most_frames - c.args.before in
    session_close g.D.Desk.waits _ _ limit _ _ _ _ mid.answered (omega (arith, c.loop-answered-test.true, c.saturating_sub-most.ensures))
    (gives_more (most_held * mid.answered) most_held (most_taken limit) _ _ _
    (omega (arith, c.loop-answered-test.true, c.saturating_sub-most.ensures)) inv.gives c.in-Closed.ensures.gives)
    inv.same.desk.desk inv.going inv.raised c.in-Closed.ensures.turn

pub returns-in-Closed-clause-same : goal.returns-in-Closed-clause-same
returns-in-Closed-clause-same g c = same_link_trans _ _ _ c.loop-answered.invariant.same c.in-Closed.ensures.same

pub returns-in-Stopped-clause-same : goal.returns-in-Stopped-clause-same
returns-in-Stopped-clause-same g c = same_link_trans _ _ _ c.loop-answered.invariant.same c.in-Stopped.ensures.same

pub returns-in-Stopped-clause-session : goal.returns-in-Stopped-clause-session
returns-in-Stopped-clause-session g c =
    let mid = c.loop-answered in
    let inv = c.loop-answered.invariant in
    let limit = most_frames - c.args.before in
    session_stop g.D.Desk.waits _ _ limit _ _ _ _ mid.answered c.in-Stopped.end (omega
    (arith, c.loop-answered-test.true, c.saturating_sub-most.ensures))
    (gives_more (most_held * mid.answered) most_held (most_taken limit) _ _ _
    (omega (arith, c.loop-answered-test.true, c.saturating_sub-most.ensures)) inv.gives c.in-Stopped.ensures.gives)
    inv.same.desk.desk inv.going inv.raised c.in-Stopped.ensures.turn

pub returns-clause-session : goal.returns-clause-session
returns-clause-session g c =
    let first : Link = link_of (g.D.Desk.view c.args.desk.now) (streams_of g.S.Source g.W.Sink g.C.Clock
    c.args.source.now c.args.sink.now c.args.clock.now) in
    let last : Link = link_of (g.D.Desk.view c.loop-answered.desk) (streams_of g.S.Source g.W.Sink g.C.Clock
    c.loop-answered.source c.loop-answered.sink c.loop-answered.clock) in
    let inv = c.loop-answered.invariant in
    let limit = most_frames - c.args.before in
    let most = c.saturating_sub-most.ensures in
    let ended = c.loop-answered-test.false in
    let within = c.loop-answered.auto.answered-end in
    let given = inv.gives.2 in
    let all : c.loop-answered.answered ≡ c.saturating_sub-most.result = omega (arith, ended, within) in
    subst (λ n. VisitAlong g.D.Desk.waits c.args.least.now c.loop-answered.least limit first last
    (record { end = Limit; answered = n })) all
    (session_limit g.D.Desk.waits c.args.least.now c.loop-answered.least limit first last c.loop-answered.buffers.window
    c.loop-answered.answered (omega (arith, all, most))
    (inv.gives.0, inv.gives.1, omega (arith, given, all, most)) inv.going inv.raised)

pub loop-answered-preserved : goal.loop-answered-preserved
loop-answered-preserved g c =
    let mid = c.loop-answered in
    let inv = c.loop-answered.invariant in
    let went = c.in-Went.ensures in
    let on = going_more g.D.Desk.waits _ _ _ _ mid.answered inv.same.desk.desk inv.going inv.raised went.turn in
    record {
      going = on.0;
      raised = on.1;
      gives = gives_more (most_held * mid.answered) most_held (most_held * (mid.answered + 1)) _ _ _ (omega arith)
          inv.gives went.gives;
      same = same_link_trans _ _ _ inv.same went.same;
      waits = omega (arith, inv.waits, went.never_falls);
    }
