-- The bodies of requests.
use Rattle.std.specs.Prelude.{ℕ, length}
use Rattle.serde_json.specs.Written.{compact_text}
use Rattle.am_types.specs.declared.request.Request.{Request}
use Rattle.am_wire_values.specs.Requests.{request_data}

-- the length of a request's body, which is the compact text of its canonical form
abbrev pub weight_of : Request → ℕ
weight_of request = length (compact_text (request_data request))
