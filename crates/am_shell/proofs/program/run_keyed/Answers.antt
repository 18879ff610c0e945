use Rattle.std.proofs.Common.{refl, subst}
use Rattle.am_words.specs.Ranges.{IsInRange}
use Rattle.am_shell.specs.World.{world_of}
use Rattle.am_shell.proofs.RunLemmas.{runs_command}
use Rattle.am_shell.proofs.program.run_keyed.Goals as goal

pub run_serving-requires-clause-range : goal.run_serving-requires-clause-range
run_serving-requires-clause-range g c κs within = subst IsInRange c.in-Ok-Serve.field-0-is c.in-Ok-Serve.ensures.range

pub run_drill-requires : goal.run_drill-requires
run_drill-requires g c = record { range = subst IsInRange c.in-Ok-Drill.field-0-is c.in-Ok-Drill.ensures.range }

pub returns-in-Ok-Session : goal.returns-in-Ok-Session
returns-in-Ok-Session g c =
    let w = world_of g.F.Files g.T.Store g.S.Source g.W.Sink g.C.Clock g.N.Network g.E.Sink c.args.files.now
    c.args.store.now c.args.input.now c.args.output.now c.args.clock.now c.args.network.now c.args.errors.now in
    runs_command _ _ _ _ _ _ c.in-Ok-Session.ensures.read c.in-Ok-Session.field-0-is
    (c.run_session.ensures w w, refl)

pub returns-in-Ok-Serve : goal.returns-in-Ok-Serve
returns-in-Ok-Serve g c =
    let w = world_of g.F.Files g.T.Store g.S.Source g.W.Sink g.C.Clock g.N.Network g.E.Sink c.args.files.now
    c.args.store.now c.args.input.now c.args.output.now c.args.clock.now c.args.network.now c.args.errors.now in
    runs_command _ _ _ _ _ _ c.in-Ok-Serve.ensures.read c.in-Ok-Serve.field-0-is
    (c.run_serving.ensures w w, refl, refl)

pub returns-in-Ok-Visible : goal.returns-in-Ok-Visible
returns-in-Ok-Visible g c =
    let w = world_of g.F.Files g.T.Store g.S.Source g.W.Sink g.C.Clock g.N.Network g.E.Sink c.args.files.now
    c.args.store.now c.args.input.now c.args.output.now c.args.clock.now c.args.network.now c.args.errors.now in
    runs_command _ _ _ _ _ _ c.in-Ok-Visible.ensures.read c.in-Ok-Visible.field-0-is
    (c.run_question.ensures w w, refl, refl, refl)
