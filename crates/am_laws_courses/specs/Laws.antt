-- Ordered broadcasts run as they were sent.
use Rattle.std.specs.Prelude.{List}
use Rattle.am_types.specs.declared.history.Entry.{Entry}
use Rattle.am_history.specs.Desks.{Origin, opening_of}
use Rattle.am_laws_courses.specs.Fold.{IsInCourse, IsOutcome, OfCourses}
use Rattle.am_laws_courses.specs.Turns.{IsInTurn, OfTurns}
use Rattle.am_laws.specs.Laws.{state_after}

-- each ordered broadcast is in its course, and each result is what its answers made of it
abbrev pub CoursesAreKept : Type 0
CoursesAreKept =
    (origin : Origin) (history : List Entry)
    → OfCourses (IsInCourse (opening_of origin) history) (IsOutcome (opening_of origin) history)
    (state_after origin history).broadcasts

-- no two ordered broadcasts share a number, and the deliveries of each go to its receivers in turn
abbrev pub DeliveriesGoInTurn : Type 0
DeliveriesGoInTurn =
    (origin : Origin) (history : List Entry)
    → OfTurns (IsInTurn (opening_of origin) history) (state_after origin history).broadcasts
