-- Which receivers are struck.
use Rattle.std.specs.Prelude.{Bool, ◌==◌}
use Rattle.am_types.specs.declared.broadcast.Spot.{Spot}
use Rattle.am_model.specs.Sending.{is_registered}
use Rattle.am_queue_ordered.specs.declared.struck.Struck.{Struck}
use Rattle.am_queue_ordered.specs.declared.struck.Struck.TheVariants.{Uid, Registered}

-- the receivers of a uid, or one registered receiver
abbrev pub strikes : Struck → Spot → Bool
strikes (Uid uid) spot = spot.uid == uid
strikes (Registered number) spot = is_registered number spot.aim
