-- The answer to a package's question about a device.
use Rattle.std.specs.Prelude.{ℕ, Bool, true, false, nat_lt, codes, List, [], ◌++◌, length, map, if◌then◌else◌, Option, Some, None, Result, Ok, Err}
use Rattle.serde_json.specs.Written.{compact_text}
use Rattle.am_types.specs.Bounds.{longest_body}
use Rattle.am_types.specs.declared.intent.Component.{Component}
use Rattle.am_types.specs.declared.manifest.ManifestFault.{ManifestFault}
use Rattle.am_types.specs.declared.reply.Reply.{Reply}
use Rattle.am_types.specs.declared.reply.Reply.TheVariants as replies
use Rattle.am_types.specs.declared.request.Request.{Request}
use Rattle.am_types.specs.declared.request.Request.TheVariants as asks
use Rattle.am_types.specs.declared.resolve.Hit.{Hit}
use Rattle.am_types.specs.declared.visible.Queries.{Queries}
use Rattle.am_model.specs.Boards.{Board, board_of, caller_of}
use Rattle.am_model.specs.Visibility.{visible}
use Rattle.am_manifest_queries.specs.declared.device.Described.{Described}
use Rattle.am_manifest_queries.specs.Queries.{described}
use Rattle.am_wire_routes.specs.declared.endpoint.Endpoint.TheVariants.{Query}
use Rattle.am_wire_fields.specs.declared.fault.WireFault.{WireFault}
use Rattle.am_wire_fields.specs.declared.fault.WireFault.TheVariants.{TooLong}
use Rattle.am_types.specs.Reading.{◌>>=◌}
use Rattle.am_wire.specs.Requests.{request_of}
use Rattle.am_wire_values.specs.Replies.{reply_data}
use Rattle.am_visible.specs.declared.fault.VisibleFault.{VisibleFault}
use Rattle.am_visible.specs.declared.fault.VisibleFault.TheVariants as ends

-- the request is a query
abbrev pub is_query : Request → Bool
is_query (asks.Query kind intent default_only) = true
is_query _ = false

-- what is asked: the query that the text makes as the body of a query, of at most 65,536 bytes
unfoldable pub question_of : List ℕ → Result Request WireFault
question_of text = if nat_lt longest_body (length text) then Err (TooLong (codes "body")) else request_of Query text

-- the names of components that were found
abbrev pub components_of : List Hit → List Component
components_of found = map (λ (hit : Hit). hit.component) found

-- the answer to the caller: of the components that its query finds, those that it sees (it asks nothing else)
abbrev pub reply_to : Board → List Queries → ℕ → Request → Reply
reply_to board queries caller (asks.Query kind intent default_only) =
    replies.Components (components_of (visible board queries caller kind intent default_only))
reply_to board queries caller _ = replies.Components []

-- a reply as a line
abbrev pub line_of : Reply → List ℕ
line_of reply = compact_text (reply_data reply) ++ codes "\n"

-- the line that answers the caller's question about the device
unfoldable pub answer_to : Described → ℕ → List ℕ → Result (List ℕ) WireFault
answer_to known caller text = do
  request ← question_of text
  Ok (line_of (reply_to (board_of known.device) known.queries caller request))

-- an answer, with the fault of the question
unfoldable pub answer_of : Result (List ℕ) WireFault → Result (List ℕ) VisibleFault
answer_of (Ok line) = Ok line
answer_of (Err fault) = Err (ends.Query fault)

-- the answer to a caller, if there is one
unfoldable pub known_answer : Described → Option ℕ → List ℕ → Result (List ℕ) VisibleFault
known_answer known None text = Err ends.NoPackage
known_answer known (Some caller) text = answer_of (answer_to known caller text)

-- the answer about the device that a file describes, if it describes one
unfoldable pub described_answer : Result Described ManifestFault → List ℕ → List ℕ → Result (List ℕ) VisibleFault
described_answer (Err fault) name text = Err (ends.Device fault)
described_answer (Ok known) name text =
    known_answer known (caller_of known.device.packages name) text

-- the answer to what the package with this name asks about the device of a file: the faults of the file come first,
-- then that nobody has the name, then the fault of the question
unfoldable pub file_answer : List ℕ → List ℕ → List ℕ → Result (List ℕ) VisibleFault
file_answer file name text = described_answer (described file) name text
