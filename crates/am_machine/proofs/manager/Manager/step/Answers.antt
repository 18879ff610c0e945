use Rattle.std.proofs.Common.{◌≡◌, ◌∙◌, List, sym, ap}
use Rattle.am_types.specs.declared.history.Entry.{Entry}
use Rattle.am_types.specs.declared.history.Shown.{Shown}
use Rattle.am_history.specs.State.{State, uid_of}
use Rattle.am_history.specs.History.{replay}
use Rattle.am_history.specs.Desks.{Origin, opening_of}
use Rattle.am_history.proofs.Callers.{uid_has_caller}
use Rattle.am_machine.specs.Keeping.{is_asked}
use Rattle.am_machine.proofs.Stored.{from_inside}
use Rattle.am_machine.proofs.Kept.{asks_none}
use Rattle.am_machine.proofs.manager.Manager.step.Goals as goal

-- who has the key is a caller
pub counted-shown-requires-clause-caller : goal.counted-shown-requires-clause-caller
counted-shown-requires-clause-caller g c =
    let state : State = replay (opening_of c.args.self.now.origin) c.args.self.now.history in
    let held : state ≡ c.self.inside.live =
    from_inside (λ (o : Origin) (h : List Entry). replay (opening_of o) h ≡ c.self.inside.live) _ _ c.self.view_is
    c.self.invariant.0.replayed in
    uid_has_caller state c.args.key.now c.in-Some.uid
    (ap (λ (s : State). uid_of s c.args.key.now) held ∙ sym c.uid_of.ensures ∙ c.in-Some.is)

-- an unknown key is refused before the keeper is asked
pub returns-in-None-clause-asks : goal.returns-in-None-clause-asks
returns-in-None-clause-asks g c =
    asks_none g.K.Keeper c.args.request c.unstored.result.reply c.args.self.now.keeper
    (ap (λ (shown : Shown). is_asked c.args.request shown.reply) c.unstored.ensures)
