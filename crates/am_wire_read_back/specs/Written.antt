-- The requests whose text is read back.
use Rattle.std.specs.Prelude.{◌≡◌, ℕ, ◌+◌, ◌≤◌, List, length, Ok}
use Rattle.am_types.specs.declared.filter.Filter.{Filter}
use Rattle.am_types.specs.declared.request.Request.{Request}
use Rattle.am_types.specs.declared.request.Request.TheVariants as asks
use Rattle.am_wire_routes.specs.Table.{endpoint_for}
use Rattle.am_wire.specs.Requests.{request_of}

-- some body is read as the request at its endpoint
abbrev pub IsReadable : Request → Type 0
IsReadable request = (body : List ℕ) × (request_of (endpoint_for request) body ≡ Ok request)

-- how many schemes, authorities, paths and types a filter lists together
abbrev pub rows_in : Filter → ℕ
rows_in filter = length filter.schemes + length filter.authorities + length filter.paths + length filter.types

-- the filter of a receiver to be registered lists at most 64 schemes, authorities, paths and types together
abbrev pub HasFewRows : Request → Type 0
HasFewRows (asks.Register filter permission) = rows_in filter ≤ 64
HasFewRows request = Unit {0}
