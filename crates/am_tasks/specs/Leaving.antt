-- Which instances end.
use Rattle.std.specs.Prelude.{Bool, not, ◌==◌}
use Rattle.am_model.specs.Tasks.{Instance}
use Rattle.am_tasks.specs.declared.leave.Leaving.{Leaving}
use Rattle.am_tasks.specs.declared.leave.Leaving.TheVariants.{Numbered, OwnedBy}

-- the instance stays
abbrev pub stays : Leaving → Instance → Bool
stays (Numbered number) instance = not (instance.number == number)
stays (OwnedBy uid) instance = not (instance.owner == uid)
