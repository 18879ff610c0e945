-- Registered receivers, which are ordered by their numbers.
use Rattle.std.specs.Prelude.{◌≤◌, Bool, nat_lt, List}
use Rattle.am_types.specs.declared.resolve.Registration.{Registration}
use Rattle.am_model.specs.Lists.{AscendsBy, inserted}

-- a registered receiver comes before another
abbrev pub before_registered : Registration → Registration → Bool
before_registered r other = nat_lt r.number other.number

-- the registered receiver inserted in its place by number
abbrev pub place_registered : Registration → List Registration → List Registration
place_registered r registered = inserted before_registered r registered

-- registered receivers by rising number: none comes after one with a greater number
abbrev pub AreByNumber : List Registration → Type 0
AreByNumber registered = AscendsBy (λ (first r : Registration). first.number ≤ r.number) registered
