use Rattle.std.proofs.Common.{◌∙◌, ap, sym}
use Rattle.std.specs.Prelude.{Some}
use Rattle.std.specs.Option.{option_map}
use Rattle.am_queue_normal.specs.Kept.{at_once_by}
use Rattle.am_queue_normal.specs.Posted.{Posted}
use Rattle.am_queue_normal.proofs.Grouping.{all_live, held_grouped}
use Rattle.am_queue_normal.proofs.normals.Normals.holder.Goals as goal

pub returns-in-None-clause-held : goal.returns-in-None-clause-held
returns-in-None-clause-held c =
    rw (← c.self.view_is) (held_grouped c.args.number c.self.inside.deliveries
    ∙ ap (option_map (λ (p : Posted). at_once_by p.spot.uid)) (sym c.in-None.ensures))

pub returns-in-None-clause-live : goal.returns-in-None-clause-live
returns-in-None-clause-live c = rw (← c.self.view_is) (all_live c.self.inside.deliveries)

pub returns-in-Some-clause-held : goal.returns-in-Some-clause-held
returns-in-Some-clause-held c =
    rw (← c.self.view_is)
    (held_grouped c.args.number c.self.inside.deliveries ∙ ap (option_map (λ (p : Posted). at_once_by p.spot.uid))
    (sym c.in-Some.ensures)
    ∙ ap (λ (p : Posted). Some (at_once_by p.spot.uid)) (sym c.delivery.view_is))

pub returns-in-Some-clause-live : goal.returns-in-Some-clause-live
returns-in-Some-clause-live c = rw (← c.self.view_is) (all_live c.self.inside.deliveries)
