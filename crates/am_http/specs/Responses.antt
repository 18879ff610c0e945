-- The bytes of a response.
use Rattle.std.specs.Prelude.{ℕ, Bool, ◌==◌, List, [], ◌∷◌, ◌++◌, length, Option, Some, None, IsSome, unwrap_or, codes, decimal, if◌then◌else◌}
use Rattle.serde_json.specs.Written.{compact_text}
use Rattle.am_types.specs.declared.reply.Reply.{Reply}
use Rattle.am_wire_values.specs.Replies.{reply_data, status_of}
use Rattle.am_wire_values.specs.Rules.{error_data}

-- the statuses, each with its phrase
abbrev pub phrases : List (ℕ × List ℕ)
phrases =
    (200, codes "OK") ∷ (300, codes "Multiple Choices") ∷ (400, codes "Bad Request") ∷ (401, codes "Unauthorized")
    ∷ (403, codes "Forbidden") ∷ (404, codes "Not Found") ∷ (405, codes "Method Not Allowed") ∷ (409, codes "Conflict")
    ∷ (410, codes "Gone") ∷ (411, codes "Length Required") ∷ (413, codes "Payload Too Large")
    ∷ (422, codes "Unprocessable Entity") ∷ (429, codes "Too Many Requests")
    ∷ (431, codes "Request Header Fields Too Large") ∷ (501, codes "Not Implemented")
    ∷ (503, codes "Service Unavailable") ∷ (507, codes "Insufficient Storage") ∷ []

-- the phrase that a table has for the status
abbrev pub phrase_in : List (ℕ × List ℕ) → ℕ → Option (List ℕ)
phrase_in [] status = None
phrase_in (row ∷ rows) status = if status == row.0 then Some row.1 else phrase_in rows status

-- the status is one of those that are sent
abbrev pub HasPhrase : ℕ → Type 0
HasPhrase status = IsSome (phrase_in phrases status)

-- the phrase of a status
unfoldable pub phrase : ℕ → List ℕ
phrase status = unwrap_or (phrase_in phrases status) []

-- the lines that each response begins with
unfoldable pub head : ℕ → ℕ → List ℕ
head status body_length =
    codes "HTTP/1.1 " ++ (decimal status ++ (codes " " ++ (phrase status
    ++ (codes "\r\nContent-Type: application/json\r\nContent-Length: " ++ (decimal body_length ++ codes "\r\n")))))

-- a truth as a digit
unfoldable pub digit : Bool → List ℕ
digit truth = if truth then codes "1" else codes "0"

-- the lines that say where the call is in the history, and whether it is stored
unfoldable pub place_lines : ℕ → Bool → List ℕ
place_lines at stored = codes "AM-At: " ++ (decimal at ++ (codes "\r\nAM-Stored: " ++ (digit stored ++ codes "\r\n")))

-- a whole response with these further lines
unfoldable pub message : ℕ → List ℕ → List ℕ → List ℕ
message status lines body = head status (length body) ++ (lines ++ (codes "\r\n" ++ body))

-- the response to a call that the manager answered
unfoldable pub response : ℕ → Bool → Reply → List ℕ
response at stored reply = message (status_of reply) (place_lines at stored) (compact_text (reply_data reply))

-- a refusal for which the manager wasn't asked
unfoldable pub refusal : ℕ → List ℕ → Option (List ℕ) → List ℕ
refusal status error name = message status [] (compact_text (error_data error name))

-- the body if memory ran out
unfoldable pub no_memory_body : List ℕ
no_memory_body = compact_text (error_data (codes "no_memory") None)

-- memory ran out before the call was made
unfoldable pub no_memory_before : List ℕ
no_memory_before = message 507 (codes "AM-Stored: 0\r\n") no_memory_body

-- memory ran out after the call was made
unfoldable pub no_memory_at : ℕ → Bool → List ℕ
no_memory_at at stored = message 507 (place_lines at stored) no_memory_body
