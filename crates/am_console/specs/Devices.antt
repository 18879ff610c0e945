-- Reading the device file.
use Rattle.std.specs.Prelude.{◌≡◌, ℕ, codes, List, ◌++◌, Option, Result, Ok, Err, ⊤}
use Rattle.am_types.specs.declared.device.Device.{Device}
use Rattle.am_types.specs.declared.manifest.ManifestFault.{ManifestFault}
use Rattle.am_types.specs.Printing.{printed}
use Rattle.am_outside.specs.declared.files.FileBytes.{FileBytes}
use Rattle.am_manifest.specs.Devices.{device_of}
use Rattle.am_console.specs.declared.setback.Setback.{Setback}
use Rattle.am_console.specs.declared.setback.Setback.TheVariants.{DeviceRefused, FileFault, NoMemory}
use Rattle.am_console.specs.Files.{Holds}

-- how a text is read: as what it describes, or with its first fault
abbrev pub Reading : Type 0 → Type 0
Reading X = List ℕ → Result X ManifestFault

-- the file with this name reads so
pub record ReadsAs {X : Type 0} (reading : Reading X)
    (files : Option (List FileBytes)) (name : List ℕ) (read : Result X ManifestFault) : Type 0 where
  pub bytes : List ℕ
  pub held : Holds files name bytes
  pub reads : reading bytes ≡ read

-- the file with this name describes this device, or has this fault
abbrev pub Describes : Option (List FileBytes) → List ℕ → Result Device ManifestFault → Type 0
Describes files name read = ReadsAs device_of files name read

-- the line that the program with this name prints for a device file with a fault
abbrev pub refusal_line : List ℕ → ManifestFault → List ℕ
refusal_line program fault = program ++ codes ": device refused: " ++ printed fault ++ codes "\n"

-- the program's setback for a text with this fault: the line that names it, or memory ran out
abbrev pub IsRefusal : List ℕ → Setback → ManifestFault → Type 0
IsRefusal program (DeviceRefused line) fault = line ≡ refusal_line program fault
IsRefusal program FileFault fault = ⊥
IsRefusal program NoMemory fault = ⊤

module _ {X : Type 0} where
  -- why a text, which reads so, describes nothing: it has a fault, or memory ran out
  abbrev pub FailsToParse : List ℕ → Setback → Result X ManifestFault → Type 0
  FailsToParse program (DeviceRefused line) read =
      (fault : ManifestFault) × (read ≡ Err fault) × (line ≡ refusal_line program fault)
  FailsToParse program FileFault read = ⊥
  FailsToParse program NoMemory read = ⊤

  -- what a text that reads so describes, or why it describes nothing
  abbrev pub Parses : List ℕ → Result X Setback → Result X ManifestFault → Type 0
  Parses program (Ok x) read = read ≡ Ok x
  Parses program (Err setback) read = FailsToParse program setback read
