use Rattle.am_types.specs.declared.history.Entry.{Entry}
use Rattle.std.proofs.Common.{List}
use Rattle.am_model.specs.Sound.{IsSound}
use Rattle.am_history.specs.Desks.{Origin}
use Rattle.am_machine.proofs.Stored.{from_inside}
use Rattle.am_machine.proofs.manager.Manager.stays_sound.Goals as goal

pub returns-clause-sound : goal.returns-clause-sound
returns-clause-sound g c =
    c.states_are_sound.ensures c.args.self.now.origin c.args.self.now.history
    (from_inside (λ (o : Origin) (h : List Entry). IsSound o.device) _ _ c.self.view_is c.self.invariant.0.sound)
