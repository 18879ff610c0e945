-- A line of a history file, and the entry that it stands for.
use Rattle.std.specs.Prelude.{◌≡◌, ℕ, ◌^◌, ◌<◌, true, codes, List, ◌++◌, Option, Some, None, Ok, option_and_then}
use Rattle.serde_json.specs.Data.{Data}
use Rattle.serde_json.specs.Find.{get, as_number, as_u64}
use Rattle.serde_json.specs.Written.{compact_text}
use Rattle.am_types.specs.declared.history.Entry.{Entry}
use Rattle.am_types.specs.declared.request.Request.{Request}
use Rattle.am_wire_routes.specs.Table.{endpoint_for}
use Rattle.am_wire.specs.Requests.{request_of}
use Rattle.am_wire_fields.specs.Bodies.{value_of}
use Rattle.am_wire_values.specs.Replies.{entry_data}
use Rattle.am_wire_values.specs.Requests.{request_data}
use Rattle.am_wire_read_back.specs.Written.{HasFewRows}

-- the numbers of an entry are in their ranges
pub record HasRanges (entry : Entry) : Type 0 where
  pub desk : entry.desk < 2 ^ 32
  pub uid : entry.uid < 2 ^ 32
  pub now : entry.now < 2 ^ 64
  pub weight : entry.weight < 2 ^ 32

-- the endpoint of the request reads the request again from the text that is written for it; the filter of a receiver to
-- be registered lists at most 64 schemes, authorities, paths and types together
pub record IsReadAgain (request : Request) : Type 0 where
  pub again : request_of (endpoint_for request) (compact_text (request_data request)) ≡ Ok request
  pub few : HasFewRows request

-- the entry was kept, its numbers are in their ranges, and its request is read again
pub record IsWhole (entry : Entry) : Type 0 where
  pub kept : entry.kept ≡ true
  pub ranges : HasRanges entry
  pub request : IsReadAgain entry.request

-- the text is the entry's value with this number, compactly written
pub record IsTextOf (at : ℕ) (entry : Entry) (text : List ℕ) : Type 0 where
  pub value : value_of text ≡ Ok (entry_data at entry)
  pub compact : text ≡ compact_text (entry_data at entry)

-- the line, with its newline, is the whole entry with this number
pub record IsWritten (at : ℕ) (entry : Entry) (line : List ℕ) : Type 0 where
  pub text : List ℕ
  pub ends : line ≡ text ++ codes "\n"
  pub says : IsTextOf at entry text
  pub whole : IsWhole entry

-- the line is this entry, or it isn't an entry
abbrev pub Tells : ℕ → List ℕ → Option Entry → Type 0
Tells at line (Some entry) = IsWritten at entry line
Tells at line None = (entry : Entry) → IsWritten at entry line → ⊥

-- the number that a field of a value says, if it says one
abbrev pub number_in : List ℕ → Data → Option ℕ
number_in name value = option_and_then as_u64 (option_and_then as_number (get name value))
