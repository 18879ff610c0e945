-- Opening the device file.
use Rattle.std.specs.Prelude.{◌≡◌, ℕ, codes, ◌⊎◌, List, Option, Result, Ok, Err, ⊤}
use Rattle.am_outside.specs.Counts.{HasRisen}
use Rattle.am_outside.specs.declared.files.FileBytes.{FileBytes}
use Rattle.am_types.specs.declared.manifest.ManifestFault.{ManifestFault}
use Rattle.am_console.specs.declared.setback.Setback.{Setback}
use Rattle.am_console.specs.declared.setback.Setback.TheVariants.{DeviceRefused, FileFault, NoMemory}
use Rattle.am_console.specs.Devices.{Reading, ReadsAs, refusal_line}
use Rattle.am_console.specs.Files.{IsMissing, Shelf}

-- the file with this name wasn't read: the count of faults rose, or no file has this name
abbrev pub IsUnread : List ℕ → Shelf → Shelf → Type 0
IsUnread name before after = HasRisen before.faults after.faults ⊎ IsMissing before.files name

-- the line names the fault that the file has
pub record IsRefused {X : Type 0} (reading : Reading X) (files : Option (List FileBytes)) (name line : List ℕ) : Type 0
  where
    pub fault : ManifestFault
    pub file : ReadsAs reading files name (Err fault)
    pub says : line ≡ refusal_line (codes "am") fault

module _ {X : Type 0} where
  -- why the file describes nothing
  abbrev pub FailsToOpen : Setback → Reading X → List ℕ → Shelf → Shelf → Type 0
  FailsToOpen (DeviceRefused line) reading name before after = IsRefused reading before.files name line
  FailsToOpen FileFault reading name before after = IsUnread name before after
  FailsToOpen NoMemory reading name before after = ⊤

  -- what the file describes, or why it describes nothing
  abbrev pub Opens : Result X Setback → Reading X → List ℕ → Shelf → Shelf → Type 0
  Opens (Ok x) reading name before after = ReadsAs reading before.files name (Ok x)
  Opens (Err setback) reading name before after = FailsToOpen setback reading name before after
