use Rattle.std.proofs.Common.{◌*◌, ap, ◌∙◌, refl, subst, sym}
use Rattle.am_keeper.specs.Memory.{InMemory}
use Rattle.am_model.specs.Sound.{IsSound}
use Rattle.am_history.specs.Desks.{opening_of}
use Rattle.am_machine.specs.Managed.{Served}
use Rattle.am_drill.specs.Devices.{device_of}
use Rattle.am_drill.specs.Draws.{after}
use Rattle.am_drill.proofs.Beginning.{drilled_so}
use Rattle.am_drill.proofs.Soundness.{device_is_sound}
use Rattle.am_drill.proofs.drills.drill.Goals as goal

pub manager_of-requires : goal.manager_of-requires
manager_of-requires c =
    subst IsSound (sym c.in_ok-device.ensures.made) (device_is_sound c.args.packages c.new-draws.result c.requires.few)

pub run-requires : goal.run-requires
run-requires c = record { some = c.requires.some; alone = record { number = refl; desks = refl } }

pub returns-in-Ok : goal.returns-in-Ok
returns-in-Ok c = record {
  exact = c.tally.ensures
      ∙ drilled_so c.args.from c.args.packages c.args.requests c.in_ok-device.device
      (opening_of c.new-desk.result.managed.origin) c.new-desk.result.managed.history c.run.new.desk.managed.history
      c.device.new.draws c.in-Ok.statuses.items
      (ap (λ (served : Served InMemory). opening_of served.managed.origin) c.new-desk.ensures.made
      ∙ c.in_ok-manager.ensures.start)
      (c.in_ok-device.ensures.made ∙ ap (device_of c.args.packages) c.new-draws.ensures)
      (ap (λ (served : Served InMemory). served.managed.history) c.new-desk.ensures.made
      ∙ c.in_ok-manager.ensures.history)
      (c.in_ok-device.ensures.drawn ∙ ap (after (4 * c.args.packages)) c.new-draws.ensures)
      c.in-Ok.ensures.statuses c.in-Ok.ensures.seen;
}
