-- A new route joins those of the earlier requests, and it is refused only if memory runs out.
use Rattle.std.proofs.Common.{◌≡◌, ℕ, ◌+◌, ◌<◌, List, [], ◌∷◌, ◌++◌, length, get_or, take, Option, Some, None, Bool, true, false, cond, refl, ap, ◌∙◌}
use Rattle.std.specs.Prelude.{Result, Ok, Err}
use Rattle.std.specs.Option.{option_map, option_or}
use Rattle.std.proofs.lemmas.List.{take_more}
use Rattle.std.proofs.lemmas.List.Folds.{find-append}
use Rattle.std.specs.Cmp.Lexicographic.{bytes_decides}
use Rattle.matchit.specs.Order.{lookup, placed}
use Rattle.matchit.specs.Seek.{same_text}
use Rattle.matchit.specs.Router.{RouteOf, InsertsRead, Inserted, Refused, route_from, nearest}
use Rattle.matchit.specs.Route.{parse_route}
use Rattle.matchit.specs.declared.error.InsertError.{InsertError}
use Rattle.matchit.specs.declared.error.InsertError.TheVariants.{Conflict, InvalidParam, InvalidParamSegment, InvalidCatchAll, OutOfMemory}
use Rattle.am_wire_routes.specs.declared.endpoint.Endpoint.{Endpoint}
use Rattle.am_wire_routes.specs.Table.{path_of, is_at, found_at, endpoints, endpoint_at}
use Rattle.am_wire_routes.specs.Routers.{Requests, Holds, Lacks, route_of, AnswersTable}
use Rattle.am_wire_routes.proofs.Literal.{first-lookup, placed-literal, lookup-placed, nearest-none}
use Rattle.am_wire_routes.proofs.Paths.{path-text, path-parsed, scanned, new-path}

-- what `insert` does with a request's route
abbrev pub Adds : Endpoint → Requests → Requests → Result (Unit {0}) InsertError → Type 0
Adds e old new (Ok done) = new ≡ placed (path_of e, route_of e) old
Adds e old new (Err error) = error ≡ OutOfMemory

refused-memory : (e : Endpoint) (rows : Requests) (error : InsertError) → nearest (path_of e) rows ≡ None
    → Refused (path_of e) rows error → error ≡ OutOfMemory
refused-memory e rows (Conflict with) n r = let other = r.1 in cc
refused-memory e rows OutOfMemory n r = refl
refused-memory e rows InvalidParamSegment n r = absurd r
refused-memory e rows InvalidParam n r = absurd r
refused-memory e rows InvalidCatchAll n r = absurd r

adds-read : (e : Endpoint) (old new : Requests) (r : Result (Unit {0}) InsertError) → Lacks e old
    → Inserted (route_from (scanned (path_of e)) e) old new r → Adds e old new r
adds-read e old new (Ok done) l i = i.1
adds-read e old new (Err error) l i =
    refused-memory e old error (nearest-none (path_of e) old (path-text e) l.literal l.absent) i.1

pub adds : (e : Endpoint) (old new : Requests) (r : Result (Unit {0}) InsertError) → Lacks e old
    → InsertsRead (parse_route (path_of e)) e old new r → Adds e old new r
adds e old new r l i = adds-read e old new r l (rw (path-parsed e) at i)

value-none : (o : Option (RouteOf Endpoint)) → option_map (λ route. route.value) o ≡ None → o ≡ None
value-none None h = refl
value-none (Some route) h = cc

-- the routes of the first requests lack the next one
pub next-lacks : (i : ℕ) (d : Endpoint) (rows : Requests) → i < length endpoints → Holds (take i endpoints) rows
    → Lacks (get_or endpoints i d) rows
next-lacks i d rows l h =
    let path = path_of (get_or endpoints i d) in
    record { literal = h.literal; absent = value-none (lookup path rows) (h.found path ∙ new-path i d l) }

found-more : (those : List Endpoint) (e : Endpoint) (path : List ℕ) (o : Option (RouteOf Endpoint))
    → option_map (λ route. route.value) o ≡ found_at those path
    → (same_text (path_of e) path ≡ true → o ≡ None) → option_map (λ route. route.value)
    (cond (same_text (path_of e) path) (Some (route_of e)) o) ≡ found_at (those ++ e ∷ []) path
found-more those e path o f n =
    rw (find-append (is_at path) those (e ∷ []), ← f) (by (same_text (path_of e) path) n)
  where
    left : (p : Option (RouteOf Endpoint)) → option_map (λ route. route.value) p
        ≡ option_or (option_map (λ route. route.value) p) None
    left None = refl
    left (Some route) = refl

    by : (v : Bool) → (v ≡ true → o ≡ None)
        → option_map (λ route. route.value) (cond v (Some (route_of e)) o)
        ≡ option_or (option_map (λ route. route.value) o) (cond v (Some e) None)
    by true n2 = rw (n2 refl) refl
    by false n2 = left o

-- with its route the routes are those of one request more
pub holds-next : (those : List Endpoint) (e : Endpoint) (old new : Requests) → Holds those old → Lacks e old → new
    ≡ placed (path_of e, route_of e) old → Holds (those ++ e ∷ []) new
holds-next those e old new h l n =
    rw n (record {
      literal = placed-literal (path_of e) (route_of e) old (path-text e) h.literal;
      found = λ path. rw (lookup-placed path (path_of e) (route_of e) old l.absent)
          (found-more those e path (lookup path old) (h.found path)
          (λ t. let same : path_of e ≡ path = (bytes_decides (path_of e) path).0 t in rw (← same) l.absent));
    })

-- the routes of every request answer as the table does
pub answers-table : (rows : Requests) → Holds endpoints rows → AnswersTable rows
unfolding endpoint_at
answers-table rows h path = ap (option_map (λ route. route.value)) (first-lookup path rows h.literal) ∙ h.found path

pub holds-step : (i : ℕ) (d : Endpoint) (old new : Requests) → i < length endpoints → Holds (take i endpoints) old → new
    ≡ placed (path_of (get_or endpoints i d), route_of (get_or endpoints i d)) old → Holds (take (i + 1) endpoints) new
holds-step i d old new l h n =
    rw (take_more endpoints i d l)
    (holds-next (take i endpoints) (get_or endpoints i d) old new h (next-lacks i d old l h) n)
