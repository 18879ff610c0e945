-- The empty intent.
use Rattle.std.specs.Prelude.{false, [], None}
use Rattle.am_types.specs.declared.intent.Flags.{Flags}
use Rattle.am_types.specs.declared.intent.Intent.{Intent}

-- no flag is set
abbrev pub no_flags : Flags
no_flags = record {
  new_task = false;
  multiple_task = false;
  clear_task = false;
  clear_top = false;
  single_top = false;
  reorder_to_front = false;
  registered_only = false;
  foreground = false;
  no_abort = false;
  include_stopped = false;
}

-- the empty intent
abbrev pub no_intent : Intent
no_intent = record {
  action = None;
  uri = None;
  mime = None;
  identifier = None;
  categories = [];
  «package» = None;
  component = None;
  flags = no_flags;
  extras = [];
}
