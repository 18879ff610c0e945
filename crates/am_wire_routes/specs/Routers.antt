-- What a router of the requests holds and answers.
use Rattle.std.specs.Prelude.{ℕ, ◌≡◌, List, [], ◌∷◌, Option, None}
use Rattle.std.specs.Option.{option_map}
use Rattle.matchit.specs.Rows.{RowsOf}
use Rattle.matchit.specs.Router.{RouteOf}
use Rattle.matchit.specs.Level.{IsText}
use Rattle.matchit.specs.Order.{lookup}
use Rattle.matchit.specs.Seek.{first}
use Rattle.am_wire_routes.specs.declared.endpoint.Endpoint.{Endpoint}
use Rattle.am_wire_routes.specs.Table.{path_of, found_at, endpoint_at}

-- the routes of a router, each with its request
abbrev pub Requests : Type 0
Requests = RowsOf (RouteOf Endpoint)

-- the request of the route that the path matches
abbrev pub matched : Requests → List ℕ → Option Endpoint
matched rows path = option_map (λ route. route.value) (first rows path)

-- at each path the router finds the same request as the table
abbrev pub AnswersTable : Requests → Type 0
AnswersTable rows = (path : List ℕ) → matched rows path ≡ endpoint_at path

-- the route of a request: its path, which has no parameters
abbrev pub route_of : Endpoint → RouteOf Endpoint
route_of endpoint =
    record { pattern = path_of endpoint; text = path_of endpoint; names = []; value = endpoint }

-- no route has a parameter
abbrev pub AreLiteral : Requests → Type 0
AreLiteral [] = Unit {0}
AreLiteral ((pattern, route) ∷ rest) = IsText pattern × AreLiteral rest

-- the routes are literal, and each path finds the request that the list has for it, or none
pub record Holds (those : List Endpoint) (rows : Requests) : Type 0 where
  pub literal : AreLiteral rows
  pub found : (path : List ℕ) → option_map (λ route. route.value) (lookup path rows) ≡ found_at those path

-- the router's routes are literal, and none has the request's path
pub record Lacks (endpoint : Endpoint) (rows : Requests) : Type 0 where
  pub literal : AreLiteral rows
  pub absent : lookup (path_of endpoint) rows ≡ None
