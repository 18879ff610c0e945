-- The flags of an intent, by their names.
use Rattle.std.specs.Prelude.{ℕ, Bool, List, [], ◌∷◌, codes, Result, Ok}
use Rattle.serde_json.specs.Data.{Data}
use Rattle.am_types.specs.declared.intent.Flags.{Flags}
use Rattle.am_model.specs.Texts.{lists}
use Rattle.am_wire_fields.specs.declared.fault.WireFault.{WireFault}
use Rattle.am_wire_fields.specs.Lists.{optional_list, words_in}
use Rattle.am_types.specs.Reading.{◌>>=◌}

-- the names of all flags
abbrev pub flag_names : List (List ℕ)
flag_names =
    codes "NEW_TASK" ∷ codes "MULTIPLE_TASK" ∷ codes "CLEAR_TASK" ∷ codes "CLEAR_TOP" ∷ codes "SINGLE_TOP"
    ∷ codes "REORDER_TO_FRONT"
    ∷ codes "REGISTERED_ONLY" ∷ codes "FOREGROUND" ∷ codes "NO_ABORT" ∷ codes "INCLUDE_STOPPED" ∷ []

-- the flags whose names are set
abbrev pub flags_by : (List ℕ → Bool) → Flags
flags_by is_set = record {
  new_task = is_set (codes "NEW_TASK");
  multiple_task = is_set (codes "MULTIPLE_TASK");
  clear_task = is_set (codes "CLEAR_TASK");
  clear_top = is_set (codes "CLEAR_TOP");
  single_top = is_set (codes "SINGLE_TOP");
  reorder_to_front = is_set (codes "REORDER_TO_FRONT");
  registered_only = is_set (codes "REGISTERED_ONLY");
  foreground = is_set (codes "FOREGROUND");
  no_abort = is_set (codes "NO_ABORT");
  include_stopped = is_set (codes "INCLUDE_STOPPED");
}

-- the flags whose names are listed, once or more often
unfoldable pub flags_listed : List (List ℕ) → Flags
flags_listed names = flags_by (lists names)

-- the field `flags` of an intent, none if it is absent
unfoldable pub flags_of : Data → Result Flags WireFault
flags_of parent = do
  values ← optional_list (codes "flags") parent
  names ← words_in flag_names (codes "flags") values
  Ok (flags_listed names)
