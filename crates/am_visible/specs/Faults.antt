-- Why a question isn't answered.
use Rattle.std.specs.Prelude.{◌≡◌, Result, Ok, Err}
use Rattle.am_visible.specs.declared.fault.VisibleFault.{VisibleFault}
use Rattle.am_visible.specs.declared.fault.VisibleFault.TheVariants as ends

-- the fault is the expected one, unless memory ran out
abbrev pub Refuses : {X : Type 0} → VisibleFault → Result X VisibleFault → Type 0
Refuses ends.NoMemory answer = Unit {0}
Refuses (ends.Device fault) answer = answer ≡ Err (ends.Device fault)
Refuses ends.NoPackage answer = answer ≡ Err ends.NoPackage
Refuses (ends.Query fault) answer = answer ≡ Err (ends.Query fault)

-- a function's answer is the expected one, unless memory ran out
abbrev pub Answers : {X : Type 0} → Result X VisibleFault → Result X VisibleFault → Type 0
Answers (Ok x) answer = answer ≡ Ok x
Answers (Err fault) answer = Refuses fault answer
