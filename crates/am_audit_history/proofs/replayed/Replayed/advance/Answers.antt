use Rattle.std.proofs.Common.{◌≡◌, Some}
use Rattle.am_history.specs.State.{key_of}
use Rattle.am_audit_history.specs.Replays.{state_of}
use Rattle.am_audit_history.proofs.Followed.{advances}
use Rattle.am_audit_history.proofs.replayed.Replayed.advance.Goals as goal

pub returns-in_ok-after-in-Ok-Some : goal.returns-in_ok-after-in-Ok-Some
returns-in_ok-after-in-Ok-Some c =
    let key : Some c.in-Ok-Some.key ≡ key_of (state_of c.args.self) c.args.entry.now.uid = cc
    (c.in-Ok-Some.field-0-is, c.in-Ok-Some.ensures) in
    advances c.args.self c.in_ok-after-in-Ok-Some.after c.in-Ok-Some.key c.args.entry.now c.in_ok-after-in-Ok-Some.shown
    c.if_stored.result
    c.keys_are_known.ensures key c.requires.kept c.in_ok-after-in-Ok-Some.ensures.shown c.if_stored.ensures
