-- The words after the program's name: a command, then its options in any order.
use Rattle.std.specs.Prelude.{Bool, false, ◌||◌, if◌then◌else◌, List, [], ◌∷◌, Option, Some, None, option_and_then, bytes_eq, codes}
use Rattle.am_words.specs.Options.{Text, options_of, value_of}
use Rattle.am_words.specs.Values.{◌>>=◌, number_in, optional_number_in, path_of, optional_path_of, moment_of, clock_of}
use Rattle.am_words.specs.declared.command.Command.{Command}
use Rattle.am_words.specs.declared.command.Command.TheVariants.{Session, Serve, Drill, Visible}

-- ---- the names of each command's options

abbrev pub session_names : List Text
session_names = codes "device" ∷ codes "store" ∷ codes "at" ∷ codes "step" ∷ []

abbrev pub serve_names : List Text
serve_names = codes "device" ∷ codes "port" ∷ codes "workers" ∷ codes "store" ∷ codes "connections" ∷ codes "at" ∷ []

abbrev pub drill_names : List Text
drill_names = codes "from" ∷ codes "packages" ∷ codes "requests" ∷ []

abbrev pub visible_names : List Text
visible_names = codes "device" ∷ codes "as" ∷ []

-- ---- the commands, from the value of each option by its name

unfoldable pub session_of : (Text → Option Text) → Option Command
session_of value = do
  device ← path_of (value (codes "device"))
  store ← optional_path_of (value (codes "store"))
  clock ← clock_of (value (codes "at")) (value (codes "step"))
  Some (Session (record { device = device; store = store; clock = clock }))

unfoldable pub serve_of : (Text → Option Text) → Option Command
serve_of value = do
  device ← path_of (value (codes "device"))
  port ← number_in 1 65535 (value (codes "port"))
  workers ← number_in 1 64 (value (codes "workers"))
  store ← optional_path_of (value (codes "store"))
  connections ← optional_number_in 1 1000000 (value (codes "connections"))
  at ← moment_of (value (codes "at"))
  Some (Serve (record {
    device = device;
    port = port;
    workers = workers;
    store = store;
    connections = connections;
    at = at;
  }))

unfoldable pub drill_of : (Text → Option Text) → Option Command
drill_of value = do
  from ← number_in 0 18446744073709551615 (value (codes "from"))
  packages ← number_in 1 256 (value (codes "packages"))
  requests ← number_in 0 65535 (value (codes "requests"))
  Some (Drill (record { from = from; packages = packages; requests = requests }))

unfoldable pub visible_of : (Text → Option Text) → Option Command
visible_of value = do
  device ← path_of (value (codes "device"))
  caller ← value (codes "as")
  Some (Visible (record { device = device; «package» = caller }))

-- ---- the words

-- the command whose options have these names, and which `made` makes from their values
abbrev pub command_of : List Text → ((Text → Option Text) → Option Command) → List Text → Option Command
command_of names made words = option_and_then (λ options. made (value_of options)) (options_of names words)

-- the command with this name, and the words of its options
unfoldable pub named : Text → List Text → Option Command
named name words =
    if bytes_eq name (codes "session") then command_of session_names session_of words
    else (if bytes_eq name (codes "serve") then command_of serve_names serve_of words
    else (if bytes_eq name (codes "drill") then command_of drill_names drill_of words
    else (if bytes_eq name (codes "visible") then command_of visible_names visible_of words
    else None)))

-- the words begin with the name of a command
abbrev pub begins_with_command : List Text → Bool
begins_with_command [] = false
begins_with_command (name ∷ words) =
    bytes_eq name (codes "session") || (bytes_eq name (codes "serve") ||
    (bytes_eq name (codes "drill") || bytes_eq name (codes "visible")))

-- the command that the words name, if they name one
unfoldable pub read_command : List Text → Option Command
read_command [] = None
read_command (name ∷ words) = named name words
