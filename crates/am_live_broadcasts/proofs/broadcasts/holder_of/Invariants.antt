use Rattle.std.proofs.Common.{◌≡◌, ◌==◌, drop}
use Rattle.std.specs.List.{find}
use Rattle.am_types.specs.declared.resolve.Registration.{Registration}
use Rattle.am_live_broadcasts.proofs.broadcasts.holder_of.Given as goal

-- the receivers that are left give what all of them give
abbrev pub invariant-loop-registration : goal.invariant-loop-registration
invariant-loop-registration l =
    find (λ (r : Registration). r.number == l.number) (drop l.registration-index l.registration-items)
    ≡ find (λ (r : Registration). r.number == l.number) l.registration-items
