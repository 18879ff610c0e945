use Rattle.std.proofs.Common.{◌≡◌, drop}
use Rattle.am_outside.specs.Files.{bytes_of}
use Rattle.am_outside.proofs.memory_files.find_file.Given as goal

-- the files that are left say what all say
abbrev pub invariant-loop-file : goal.invariant-loop-file
invariant-loop-file l = bytes_of l.name (drop l.file-index l.files) ≡ bytes_of l.name l.files
