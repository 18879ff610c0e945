-- The results of functions that read words.
use Rattle.std.specs.Prelude.{◌≡◌, Option, Some, None, IsSome, Result, Ok, Err}
use Rattle.clap.specs.Words.{first_value, found_of}
use Rattle.clap.specs.declared.error.kind.ErrorKind.{ErrorKind}
use Rattle.clap.specs.declared.error.kind.ErrorKind.TheVariants.{OutOfMemory}
use Rattle.clap.specs.declared.parser.matches.ArgMatches.{ArgMatches}
use Rattle.am_words.specs.Options.{Text, Options, value_of}
use Rattle.am_words.specs.declared.command.WordsFault.{WordsFault}
use Rattle.am_words.specs.declared.command.WordsFault.TheVariants as fault

-- nothing is read, unless memory ran out
abbrev pub Fails : {X : Type 0} → WordsFault → Option X → Type 0
Fails fault.NoMemory read = Unit {0}
Fails fault.Usage read = read ≡ None

-- a function returns what is read, unless memory ran out
abbrev pub Reads : {X : Type 0} → Result X WordsFault → Option X → Type 0
Reads (Ok x) read = read ≡ Some x
Reads (Err met) read = Fails met read

-- a function that reads in place returns what is read, and takes no memory
abbrev pub ReadsInPlace : {X : Type 0} → Result X WordsFault → Option X → Type 0
ReadsInPlace (Ok x) read = read ≡ Some x
ReadsInPlace (Err fault.Usage) read = read ≡ None
ReadsInPlace (Err fault.NoMemory) read = ⊥

-- a function that copies what is read returns the copy, unless there is something to copy and memory ran out
abbrev pub ReadsCopy : {X : Type 0} → Result X WordsFault → Option X → Type 0
ReadsCopy (Ok x) read = read ≡ Some x
ReadsCopy (Err fault.Usage) read = read ≡ None
ReadsCopy (Err fault.NoMemory) read = IsSome read

-- the fault for an error of `clap` of this kind: memory ran out, or otherwise the words aren't in the grammar
abbrev pub fault_of : ErrorKind → WordsFault
fault_of OutOfMemory = fault.NoMemory
fault_of _ = fault.Usage

-- these matches have the values of the options that are read, unless memory ran out
abbrev pub Matches : Result ArgMatches WordsFault → Option Options → Type 0
Matches (Ok matches) read = (options : Options) × (read ≡ Some options)
    × ((name : Text) → first_value (found_of matches) name ≡ value_of options name)
Matches (Err met) read = Fails met read
