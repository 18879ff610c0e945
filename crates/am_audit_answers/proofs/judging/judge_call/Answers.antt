use Rattle.std.proofs.Common.{◌<◌, ◌^◌, Some, None, length, arith}
use Rattle.am_frames.specs.FrameSpans.{frame_held}
use Rattle.am_audit_answers.specs.Judged.{IsMakingOf}
use Rattle.am_audit_answers.proofs.Made.{made_judged_if, unmade_refused}
use Rattle.am_audit_answers.proofs.judging.judge_call.Goals as goal

pub returns-in-Ok-Some : goal.returns-in-Ok-Some
returns-in-Ok-Some c =
    let frame = frame_held c.args.frame.now in
    let short : length c.args.history.now < 2 ^ 64 = omega arith in
    let few : length c.args.left.now < 2 ^ 64 = omega arith in
    let making : IsMakingOf c.args.history.now c.args.replayed frame c.args.request c.args.stored
    (Some c.in-Ok-Some.making) =
    rw c.in-Ok-Some.field-0-is at c.in-Ok-Some.ensures in
    made_judged_if c.args.history.now c.args.replayed frame c.args.left.now c.args.request c.args.stored
    c.in-Ok-Some.making c.judge_made.result
    c.requires.stands c.requires.makes.asks c.requires.says short few making c.judge_made.ensures

pub returns-in-Ok-None : goal.returns-in-Ok-None
returns-in-Ok-None c =
    let frame = frame_held c.args.frame.now in
    let short : length c.args.history.now < 2 ^ 64 = omega arith in
    let few : length c.args.left.now < 2 ^ 64 = omega arith in
    let never : IsMakingOf c.args.history.now c.args.replayed frame c.args.request c.args.stored None =
    rw c.in-Ok-None.field-0-is at c.in-Ok-None.ensures in
    unmade_refused c.args.history.now c.args.replayed frame c.args.left.now c.args.request c.args.stored c.requires.stands
    c.requires.makes.asks c.requires.says short few never
