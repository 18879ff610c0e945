-- Routes with no parameter: the walk over them finds the route whose text is the path, and a new one has its place.
use Rattle.std.proofs.Common.{◌≡◌, ℕ, zero, suc, ◌-◌, ◌<◌, ◌≤◌, List, [], ◌∷◌, length, drop, get_or, Option, Some, None, Bool, true, false, cond, refl, sym, ap, ◌∙◌, arith, ◌==◌, ◌&&◌, ◌||◌}
use Rattle.std.proofs.lemmas.Bool.Decides.{nat_tests}
use Rattle.std.specs.Cmp.Lexicographic.{bytes_decides}
use Rattle.matchit.specs.Rows.{comes_before, param_token, catch_all_token}
use Rattle.matchit.specs.Seek.{first, seek, own, step, or_else, param_step, same_text, has_slash}
use Rattle.matchit.specs.Order.{lookup, placed, common_len}
use Rattle.matchit.specs.Conflict.{conflicts, wild_clash, param_place, next_place, segment_start}
use Rattle.matchit.specs.Router.{RouteOf, nearest, nearest_from, nearer}
use Rattle.matchit.specs.Level.{IsText}
use Rattle.matchit.proofs.CountLemmas.{same-common}
use Rattle.am_wire_routes.specs.declared.endpoint.Endpoint.{Endpoint}
use Rattle.am_wire_routes.specs.Routers.{Requests, AreLiteral}

abbrev Route : Type 0
Route = RouteOf Endpoint

own-lookup : (rows : Requests) → own rows ≡ lookup [] rows
own-lookup [] = refl
own-lookup (([], key) ∷ rest) = refl
own-lookup ((x ∷ t, key) ∷ rest) = own-lookup rest

lookup-step : (b : ℕ) (path : List ℕ) (rows : Requests) → lookup (b ∷ path) rows ≡ lookup path (step b rows)
lookup-step b path [] = refl
lookup-step b path (([], key) ∷ rest) = lookup-step b path rest
lookup-step b path ((x ∷ t, key) ∷ rest) = by (x == b) (lookup-step b path rest)
  where
    by : (v : Bool) → lookup (b ∷ path) rest ≡ lookup path (step b rest)
        → cond (v && same_text t path) (Some key) (lookup (b ∷ path) rest)
        ≡ lookup path (cond v ((t, key) ∷ step b rest) (step b rest))
    by true ih = ap (λ z. cond (same_text t path) (Some key) z) ih
    by false ih = ih

step-literal : (b : ℕ) (rows : Requests) → AreLiteral rows → AreLiteral (step b rows)
step-literal b [] h = tt
step-literal b (([], key) ∷ rest) h = step-literal b rest h.1
step-literal b ((x ∷ t, key) ∷ rest) h = by (x == b) (step-literal b rest h.1)
  where
    by : (v : Bool) → AreLiteral (step b rest) → AreLiteral (cond v ((t, key) ∷ step b rest) (step b rest))
    by true ih = (h.0.1, ih)
    by false ih = ih

-- no literal route goes on with a token that isn't a byte
step-none : (y : ℕ) (rows : Requests) → 256 ≤ y → AreLiteral rows → step y rows ≡ []
step-none y [] l h = refl
step-none y (([], key) ∷ rest) l h = step-none y rest l h.1
step-none y ((x ∷ t, key) ∷ rest) l h =
    let small : x < 256 = h.0.0 in
    let e : (x == y) ≡ false = grind (arith, nat_tests) in
    rw e (step-none y rest l h.1)

param_step-empty : (path : List ℕ) → (param_step {K = Route} [] path).1 ≡ []
unfolding param_step
param_step-empty path =
    elim (has_slash path) as (λ v. (cond {A = ℕ × Requests} v (0, []) (length path, [])).1 ≡ []) [
      | true ↦ refl
      | false ↦ refl
    ]

seek-empty : (skip : ℕ) (path : List ℕ) → seek {K = Route} skip [] path ≡ None
unfolding seek
seek-empty skip [] = refl
seek-empty (suc skip) (b ∷ path) = seek-empty skip path
seek-empty zero (b ∷ path) =
    simp (
      seek-empty 0 path,
      param_step-empty (b ∷ path),
      seek-empty (((param_step {K = Route} [] (b ∷ path)).0) - 1)
          path,
    )

or_else-none : (a : Option Route) → or_else a None ≡ a
or_else-none None = refl
or_else-none (Some key) = refl

-- among literal routes a path finds the one whose text it is
pub first-lookup : (path : List ℕ) (rows : Requests) → AreLiteral rows → first rows path ≡ lookup path rows
unfolding seek
first-lookup [] rows h = own-lookup rows
first-lookup (b ∷ path) rows h =
    simp (
      step-none param_token rows (omega arith) h,
      step-none catch_all_token rows (omega arith) h,
      param_step-empty (b ∷ path),
      seek-empty (((param_step {K = Route} [] (b ∷ path)).0) - 1) path,
      or_else-none,
    ) (first-lookup path (step b rows) (step-literal b rows h) ∙ sym (lookup-step b path rows))

pub placed-literal : (pattern : List ℕ) (route : Route) (rows : Requests) → IsText pattern → AreLiteral rows
    → AreLiteral (placed (pattern, route) rows)
placed-literal pattern route [] t h = (t, tt)
placed-literal pattern route ((other, key) ∷ rest) t h = by (comes_before pattern other)
    (placed-literal pattern route rest t h.1)
  where
    by : (v : Bool) → AreLiteral (placed (pattern, route) rest) → AreLiteral
        (cond v ((pattern, route) ∷ ((other, key) ∷ rest)) ((other, key) ∷ placed (pattern, route) rest))
    by true ih = (t, h)
    by false ih = (h.0, ih)

-- a new route is found at its text, and the others are found as before
pub lookup-placed : (path pattern : List ℕ) (route : Route) (rows : Requests) → lookup pattern rows ≡ None
    → lookup path (placed (pattern, route) rows) ≡ cond (same_text pattern path) (Some route) (lookup path rows)
lookup-placed path pattern route [] n = refl
lookup-placed path pattern route ((other, key) ∷ rest) n =
    by (comes_before pattern other) (same_text other pattern) refl n (lookup-placed path pattern route rest)
  where
    last : (u v : Bool) → same_text other path ≡ u → same_text pattern path ≡ v → same_text other pattern ≡ false
        → lookup path (placed (pattern, route) rest) ≡ cond v (Some route) (lookup path rest)
        → cond u (Some key) (lookup path (placed (pattern, route) rest))
        ≡ cond v (Some route) (cond u (Some key) (lookup path rest))
    last false v eu ev d ih = ih
    last true false eu ev d ih = refl
    last true true eu ev d ih =
        let a : other ≡ path = (bytes_decides other path).0 eu in
        let b : pattern ≡ path = (bytes_decides pattern path).0 ev in
        let f : same_text other pattern ≡ true = (bytes_decides other pattern).1 (a ∙ sym b) in
        cc

    by : (before same : Bool) → same_text other pattern ≡ same → cond same (Some key) (lookup pattern rest) ≡ None
        → (lookup pattern rest ≡ None → lookup path (placed (pattern, route) rest)
        ≡ cond (same_text pattern path) (Some route) (lookup path rest))
        → lookup path (cond before ((pattern, route) ∷ ((other, key) ∷ rest))
        ((other, key) ∷ placed (pattern, route) rest)) ≡ cond (same_text pattern path) (Some route)
        (cond (same_text other path) (Some key) (lookup path rest))
    by true same e n2 ih = refl
    by false true e n2 ih = cc
    by false false e n2 ih = last (same_text other path) (same_text pattern path) refl refl e (ih n2)

param_place-none : (a : List ℕ) → IsText a → param_place a ≡ None
param_place-none [] h = refl
param_place-none (x ∷ a) h =
    let small : x < 256 = h.0 in
    let c : (x == catch_all_token) ≡ false = grind (arith, nat_tests) in
    let p : (x == param_token) ≡ false = grind (arith, nat_tests) in
    rw (c, p) (by (x == 47) (param_place-none a h.1))
  where
    by : (v : Bool) → param_place a ≡ None → cond v None (next_place (param_place a)) ≡ None
    by true ih = refl
    by false ih = ap next_place ih

text-drop : (n : ℕ) (a : List ℕ) → IsText a → IsText (drop n a)
text-drop zero a h = h
text-drop (suc n) [] h = tt
text-drop (suc n) (x ∷ a) h = text-drop n a h.1

text-at : (n : ℕ) (a : List ℕ) → IsText a → get_or a n 0 < 256
text-at n [] h = omega arith
text-at zero (x ∷ a) h = h.0
text-at (suc n) (x ∷ a) h = text-at n a h.1

-- two literal routes conflict only if they are the same
conflicts-none : (a b : List ℕ) → IsText a → IsText b → same_text b a ≡ false → conflicts a b ≡ false
conflicts-none a b ha hb d =
    let n = common_len a b in
    let sa : get_or a n 0 < 256 = text-at n a ha in
    let sb : get_or b n 0 < 256 = text-at n b hb in
    let w : wild_clash (get_or a n 0) (get_or b n 0) ≡ false = grind (arith, nat_tests) in
    let s = segment_start a n in
    let pa : param_place (drop s a) ≡ None = param_place-none (drop s a) (text-drop s a ha) in
    let pb : param_place (drop s b) ≡ None = param_place-none (drop s b) (text-drop s b hb) in
    rw (pa, w) (by (n == length a) (n == length b) refl refl)
  where
    by : (u v : Bool) → (common_len a b == length a) ≡ u → (common_len a b == length b) ≡ v
        → (((u && v) || false) || false) ≡ false
    by false v eu ev = refl
    by true false eu ev = refl
    by true true eu ev =
        let la : common_len a b ≡ length a = grind (arith, nat_tests) in
        let lb : common_len a b ≡ length b = grind (arith, nat_tests) in
        let same : a ≡ b = same-common a b (sym la ∙ lb) lb in
        let f : same_text b a ≡ true = (bytes_decides b a).1 (sym same) in
        cc

-- a new literal route conflicts with no other
pub nearest-none : (pattern : List ℕ) (rows : Requests) → IsText pattern → AreLiteral rows → lookup pattern rows ≡ None
    → nearest pattern rows ≡ None
nearest-none pattern [] t h n = refl
nearest-none pattern ((other, key) ∷ rest) t h n = by (same_text other pattern) refl n (nearest-none pattern rest t h.1)
  where
    by : (v : Bool) → same_text other pattern ≡ v → cond v (Some key) (lookup pattern rest) ≡ None
        → (lookup pattern rest ≡ None → nearest pattern rest ≡ None)
        → nearest_from pattern (cond (conflicts pattern other) (nearer (None, 0) (common_len pattern other) key)
        (None, 0)) rest ≡ None
    by true e n2 ih = cc
    by false e n2 ih = rw (conflicts-none pattern other t h.0 e) (ih n2)
