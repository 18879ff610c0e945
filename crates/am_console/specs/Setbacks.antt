-- What the failure of a file makes of a run, and the statuses of setbacks.
use Rattle.std.specs.Prelude.{ℕ}
use Rattle.am_outside.specs.declared.files.FileFail.{FileFail}
use Rattle.am_outside.specs.declared.files.FileFail.TheVariants as fails
use Rattle.am_console.specs.declared.setback.Setback.{Setback}
use Rattle.am_console.specs.declared.setback.Setback.TheVariants.{DeviceRefused, FileFault, NoMemory}

-- the setback if a file wasn't read
abbrev pub setback_of_fail : FileFail → Setback
setback_of_fail fails.Absent = FileFault
setback_of_fail fails.Failed = FileFault
setback_of_fail fails.NoMemory = NoMemory

-- the status of a setback
abbrev pub setback_status : Setback → ℕ
setback_status (DeviceRefused line) = 3
setback_status FileFault = 4
setback_status NoMemory = 8
