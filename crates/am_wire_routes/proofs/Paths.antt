-- The paths of the requests: ASCII texts without braces, each of one request alone.
use Rattle.std.proofs.Common.{◌≡◌, ℕ, zero, suc, ◌<◌, List, [], ◌∷◌, ◌++◌, length, get_or, take, Option, Some, None, Bool, true, false, cond, refl, sym, ap, ◌∙◌, arith, ◌&&◌, ltb, append_assoc, append-nil}
use Rattle.std.specs.Prelude.{Ok, is_none}
use Rattle.std.specs.List.{list_all}
use Rattle.std.proofs.lemmas.Bool.Decides.{nat_tests}
use Rattle.std.specs.Cmp.Lexicographic.{bytes_decides}
use Rattle.std.specs.Str.{IsAscii, IsUtf8}
use Rattle.std.proofs.lemmas.Str.{IsUtf8-from_ascii}
use Rattle.matchit.specs.Level.{IsText}
use Rattle.matchit.specs.Route.{Scan, scan, parse_route, outside}
use Rattle.am_wire_routes.specs.declared.endpoint.Endpoint.{Endpoint}
use Rattle.am_wire_routes.specs.declared.endpoint.Endpoint.TheVariants.{Query}
use Rattle.am_wire_routes.specs.Table.{path_of, method_of, endpoints, is_at, found_at, endpoint_at, endpoint_of}

-- each byte is below 128
abbrev are_ascii : List ℕ → Bool
are_ascii bytes = list_all (λ b. ltb b 128) bytes

ascii-at : (bytes : List ℕ) → are_ascii bytes ≡ true → IsAscii bytes
ascii-at [] h i = omega arith
ascii-at (b ∷ rest) h i = by (ltb b 128) refl h i (ascii-at rest)
  where
    by : (v : Bool) → ltb b 128 ≡ v → (v && are_ascii rest) ≡ true → (i : ℕ) → (are_ascii rest ≡ true → IsAscii rest)
        → get_or (b ∷ rest) i 0 < 128
    by true e h2 zero ih = grind (arith, nat_tests)
    by true e h2 (suc i) ih = ih h2 i
    by false e h2 i ih = cc

ascii-text : (bytes : List ℕ) → IsAscii bytes → IsText bytes
ascii-text [] h = tt
ascii-text (b ∷ rest) h =
    let first : b < 128 = h 0 in
    (omega arith, ascii-text rest (λ i. h (suc i)))

-- a text that the reader of routes takes as it is
abbrev pub scanned : List ℕ → Scan
scanned text =
    record { pattern = text; text = text; names = []; name_start = 0; catch_all = false; mode = outside }

-- the last clause is tried at each request
plain-path : (e : Endpoint) → (are_ascii (path_of e) ≡ true) × (parse_route (path_of e) ≡ Ok (scanned (path_of e)))
unfolding scan
plain-path Query = (refl, refl)
plain-path other = (refl, refl)

pub path-parsed : (e : Endpoint) → parse_route (path_of e) ≡ Ok (scanned (path_of e))
path-parsed e = (plain-path e).1

path-ascii : (e : Endpoint) → IsAscii (path_of e)
path-ascii e = ascii-at (path_of e) (plain-path e).0

pub path-text : (e : Endpoint) → IsText (path_of e)
path-text e = ascii-text (path_of e) (path-ascii e)

-- a request found at a path has that path
found-path : (those : List Endpoint) (path : List ℕ) (e : Endpoint) → found_at those path ≡ Some e → path_of e ≡ path
found-path [] path e f = cc
found-path (x ∷ rest) path e f = by (is_at path x) refl f (found-path rest path e)
  where
    by : (v : Bool) → is_at path x ≡ v → cond v (Some x) (found_at rest path) ≡ Some e
        → (found_at rest path ≡ Some e → path_of e ≡ path) → path_of e ≡ path
    by true t f2 ih =
        let same : x ≡ e = cc in
        let at : path_of x ≡ path = (bytes_decides (path_of x) path).0 t in
        ap path_of (sym same) ∙ at
    by false t f2 ih = ih f2

-- bytes that aren't text are no request's path
pub none_unless_text : (path : List ℕ) → (IsUtf8 path → ⊥) → endpoint_at path ≡ None
unfolding endpoint_at
none_unless_text path n = by (found_at endpoints path) refl
  where
    by : (o : Option Endpoint) → found_at endpoints path ≡ o → o ≡ None
    by None f = refl
    by (Some e) f =
        let same : path_of e ≡ path = found-path endpoints path e f in
        let text : IsUtf8 (path_of e) = IsUtf8-from_ascii (path_of e) (path-ascii e) in
        absurd (n (rw same at text))

-- the paths of the second list differ from those before them
abbrev differ_after : List Endpoint → List Endpoint → Bool
differ_after before [] = true
differ_after before (e ∷ rest) = is_none (found_at before (path_of e)) && differ_after (before ++ e ∷ []) rest

none-from : (o : Option Endpoint) → is_none o ≡ true → o ≡ None
none-from None h = refl
none-from (Some e) h = cc

new-among : (before rest : List Endpoint) (i : ℕ) (d : Endpoint) → differ_after before rest ≡ true → i < length rest
    → found_at (before ++ take i rest) (path_of (get_or rest i d)) ≡ None
new-among before [] i d h l = absurd (omega arith)
new-among before (e ∷ rest) i d h l =
    by (is_none (found_at before (path_of e))) refl h i l (λ j. new-among (before ++ e ∷ []) rest j d)
  where
    by : (v : Bool) → is_none (found_at before (path_of e)) ≡ v → (v && differ_after (before ++ e ∷ []) rest) ≡ true
        → (i : ℕ) → i < suc (length rest)
        → ((j : ℕ) → differ_after (before ++ e ∷ []) rest ≡ true → j < length rest
        → found_at ((before ++ e ∷ []) ++ take j rest) (path_of (get_or rest j d)) ≡ None)
        → found_at (before ++ take i (e ∷ rest)) (path_of (get_or (e ∷ rest) i d)) ≡ None
    by false n h2 i l2 ih = cc
    by true n h2 zero l2 ih = rw (append-nil before) (none-from (found_at before (path_of e)) n)
    by true n h2 (suc j) l2 ih = rw (← append_assoc before (e ∷ []) (take j rest)) (ih j h2 (omega arith))

-- each request's path is that of none before it
pub new-path : (i : ℕ) (d : Endpoint) → i < length endpoints → found_at (take i endpoints)
    (path_of (get_or endpoints i d)) ≡ None
new-path i d l = new-among [] endpoints i d refl l

-- the request of a request's path is that one, in each case
pub own_path : (e : Endpoint) → endpoint_at (path_of e) ≡ Some e
unfolding endpoint_at
own_path Query = refl
own_path _ = refl

-- and it is asked for by its method and its path
pub own_route : (e : Endpoint) → endpoint_of (method_of e) (path_of e) ≡ Ok e
unfolding endpoint_at
own_route Query = refl
own_route _ = refl
