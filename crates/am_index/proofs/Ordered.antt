-- The components of packages are in order, and each is found at its spot.
use Rattle.std.proofs.Common.{◌≡◌, ℕ, suc, ◌+◌, ◌<◌, ◌≤◌, Bool, true, false, ◌&&◌, ◌||◌, cond, ltb, eqb, List, [], ◌∷◌, ◌++◌, Some, refl, sym, ap, ◌∙◌, subst, arith, eq-eqb, lt-ltb}
use Rattle.std.specs.List.{AllByRecursion, slice_get}
use Rattle.am_types.specs.declared.device.Package.{Package}
use Rattle.am_types.specs.declared.manifest.Decl.{Decl}
use Rattle.am_types.specs.declared.manifest.Kind.{Kind}
use Rattle.am_model.specs.Boards.{package_at}
use Rattle.am_model.specs.Candidates.{is_kind}
use Rattle.am_index.specs.declared.key.Spot.{Spot}
use Rattle.am_index.specs.Lookups.{stands_before}
use Rattle.am_index.specs.Members.{Member, members_from, members, spot_of}
use Rattle.am_index.proofs.Noting.{or_true}
use Rattle.am_installed.proofs.Rising.{Above, Rises, apart}

-- the spot comes before those of all components
abbrev pub Before : Spot → List Member → Type 0
Before spot ms = AllByRecursion (λ (m : Member). stands_before spot (spot_of m) ≡ true) ms

-- each component comes before those after it
abbrev pub InOrder : List Member → Type 0
InOrder [] = Unit {0}
InOrder (m ∷ ms) = Before (spot_of m) ms × InOrder ms

-- the component is at its spot
pub record Located (packages : List Package) (m : Member) : Type 0 where
  pub owner : package_at packages m.owner.uid ≡ Some m.owner
  pub decl : slice_get m.owner.decls m.position ≡ Some m.decl

-- a component of a package from a position on
record From (owner : Package) (at : ℕ) (m : Member) : Type 0 where
  pub own : m.owner ≡ owner
  pub position : at ≤ m.position
  pub decl : slice_get owner.decls m.position ≡ Some m.decl

abbrev Froms : Package → ℕ → List Member → Type 0
Froms owner at ms = AllByRecursion (From owner at) ms

by-cond : (P : List Member → Type 0) (b : Bool) (xs ys : List Member) → P xs → P ys → P (cond b xs ys)
by-cond P true xs ys h k = h
by-cond P false xs ys h k = k

later : (owner : Package) (at : ℕ) (ms : List Member) → Froms owner (at + 1) ms → Froms owner at ms
later owner at [] a = tt
later owner at (m ∷ ms) a = (
  record {
    own = a.0.own;
    position = let h : at + 1 ≤ m.position = a.0.position in omega
        arith;
    decl = a.0.decl;
  },
  later owner at ms a.1,
)

-- the components of a package are its own
froms : (kind : Kind) (owner : Package) (at n : ℕ) (ds : List Decl)
    → ((k : ℕ) → slice_get owner.decls (at + k) ≡ slice_get ds k) → Froms owner at (members_from kind owner at n ds)
froms kind owner at n [] h = tt
froms kind owner at n (d ∷ ds) h =
    let rest : (k : ℕ) → slice_get owner.decls ((at + 1) + k) ≡ slice_get ds k =
    λ k. ap (slice_get owner.decls) (let same : (at + 1) + k ≡ at + suc k = omega arith in same) ∙ h (suc k) in
    let here : slice_get owner.decls at ≡ Some d = ap (slice_get owner.decls)
    (let same : at ≡ at + 0 = omega arith in same) ∙ h 0 in
    by-cond (Froms owner at) (is_kind kind d.kind) _ _
    (by-cond (Froms owner at) d.enabled _ _ (
      record { own = refl; position = omega arith; decl = here },
      later owner at _
          (froms kind owner (at + 1) (n + 1) ds rest),
    )
    (later owner at _ (froms kind owner (at + 1) (n + 1) ds rest)))
    (later owner at _ (froms kind owner (at + 1) n ds rest))

-- one component comes before those of its package from the next position on
before_later : (owner : Package) (at : ℕ) (place : ℕ) (decl : Decl) (ms : List Member) → Froms owner (at + 1) ms
    → Before (spot_of (record { owner = owner; position = at; place = place; decl = decl })) ms
before_later owner at place decl [] a = tt
before_later owner at place decl (m ∷ ms) a = (
  (ap (λ (o : Package). ltb owner.uid o.uid || (eqb owner.uid o.uid && ltb at m.position)) a.0.own
      ∙ ap (λ b. ltb owner.uid owner.uid || (b && ltb at m.position)) (eq-eqb owner.uid owner.uid refl)
      ∙ ap (λ b. ltb owner.uid owner.uid || b) (lt-ltb at m.position
      (let h : at + 1 ≤ m.position = a.0.position in omega arith))
      ∙ or_true (ltb owner.uid owner.uid)),
  before_later owner at place decl ms a.1,
)

ordered_from : (kind : Kind) (owner : Package) (at n : ℕ) (ds : List Decl)
    → ((k : ℕ) → slice_get owner.decls (at + k) ≡ slice_get ds k) → InOrder (members_from kind owner at n ds)
ordered_from kind owner at n [] h = tt
ordered_from kind owner at n (d ∷ ds) h =
    let rest : (k : ℕ) → slice_get owner.decls ((at + 1) + k) ≡ slice_get ds k =
    λ k. ap (slice_get owner.decls) (let same : (at + 1) + k ≡ at + suc k = omega arith in same) ∙ h (suc k) in
    by-cond InOrder (is_kind kind d.kind) _ _
    (by-cond InOrder d.enabled _ _ (
      before_later owner at n d _ (froms kind owner (at + 1) (n + 1) ds rest),
      ordered_from kind owner (at + 1) (n + 1)
          ds rest,
    )
    (ordered_from kind owner (at + 1) (n + 1) ds rest))
    (ordered_from kind owner (at + 1) n ds rest)

-- all components are of packages of greater uids
abbrev Higher : ℕ → List Member → Type 0
Higher uid ms = AllByRecursion (λ (m : Member). uid < m.owner.uid) ms

all-append : (P : Member → Type 0) (xs ys : List Member) → AllByRecursion P xs → AllByRecursion P ys
    → AllByRecursion P (xs ++ ys)
all-append P [] ys h k = k
all-append P (x ∷ xs) ys h k = (h.0, all-append P xs ys h.1 k)

higher_from : (uid : ℕ) (owner : Package) (at : ℕ) (ms : List Member) → uid < owner.uid → Froms owner at ms
    → Higher uid ms
higher_from uid owner at [] h a = tt
higher_from uid owner at (m ∷ ms) h a = (
  subst (λ (o : Package). uid < o.uid) (sym a.0.own) h,
  higher_from uid owner at
      ms h a.1,
)

whole : (owner : Package) (k : ℕ) → slice_get owner.decls (0 + k) ≡ slice_get owner.decls k
whole owner k = ap (slice_get owner.decls) (let same : 0 + k ≡ k = omega arith in same)

higher : (kind : Kind) (uid : ℕ) (ps : List Package) → Above uid ps → Higher uid (members kind ps)
higher kind uid [] a = tt
higher kind uid (p ∷ ps) a =
    all-append (λ (m : Member). uid < m.owner.uid) (members_from kind p 0 0 p.decls) (members kind ps)
    (higher_from uid p 0 _ a.0 (froms kind p 0 0 p.decls (whole p))) (higher kind uid ps a.1)

before_higher : (spot : Spot) (ms : List Member) → Higher spot.uid ms → Before spot ms
before_higher spot [] h = tt
before_higher spot (m ∷ ms) h = (
  ap (λ b. b || (eqb spot.uid m.owner.uid && ltb spot.position m.position)) (lt-ltb spot.uid m.owner.uid h.0),
  before_higher spot ms h.1,
)

order-append : (owner : Package) (at : ℕ) (xs ys : List Member) → Froms owner at xs → InOrder xs → InOrder ys
    → Higher owner.uid ys → InOrder (xs ++ ys)
order-append owner at [] ys a i j h = j
order-append owner at (x ∷ xs) ys a i j h = (
  all-append (λ (m : Member). stands_before (spot_of x) (spot_of m) ≡ true) xs ys i.0
      (before_higher (spot_of x) ys (subst (λ (o : Package). Higher o.uid ys) (sym a.0.own) h)),
  order-append owner at xs ys a.1 i.1 j h,
)

-- the components of packages are in order
pub members_in_order : (kind : Kind) (ps : List Package) → Rises ps → InOrder (members kind ps)
members_in_order kind [] r = tt
members_in_order kind (p ∷ ps) r =
    order-append p 0 (members_from kind p 0 0 p.decls) (members kind ps)
    (froms kind p 0 0 p.decls (whole p)) (ordered_from kind p 0 0 p.decls (whole p)) (members_in_order kind ps r.1)
    (higher kind p.uid ps r.0)

located_own : (p : Package) (ps : List Package) (at : ℕ) (ms : List Member) → Froms p at ms
    → AllByRecursion (Located (p ∷ ps)) ms
located_own p ps at [] a = tt
located_own p ps at (m ∷ ms) a = (
  record {
    owner = subst (λ (o : Package). package_at (p ∷ ps) o.uid ≡ Some o) (sym a.0.own)
        (ap (λ b. cond b (Some p) (package_at ps p.uid)) (eq-eqb p.uid p.uid refl));
    decl = ap (λ (o : Package). slice_get o.decls m.position) a.0.own ∙ a.0.decl;
  },
  located_own p ps at ms a.1,
)

located_other : (p : Package) (ps : List Package) (ms : List Member) → Higher p.uid ms → AllByRecursion (Located ps) ms
    → AllByRecursion (Located (p ∷ ps)) ms
located_other p ps [] h a = tt
located_other p ps (m ∷ ms) h a = (
  record {
    owner = ap (λ b. cond b (Some p) (package_at ps m.owner.uid)) (apart p.uid m.owner.uid h.0 (eqb p.uid m.owner.uid)
        refl) ∙ a.0.owner;
    decl = a.0.decl;
  },
  located_other p ps ms h.1 a.1,
)

-- each component of packages is at its spot
pub members_located : (kind : Kind) (ps : List Package) → Rises ps → AllByRecursion (Located ps) (members kind ps)
members_located kind [] r = tt
members_located kind (p ∷ ps) r =
    all-append (Located (p ∷ ps)) (members_from kind p 0 0 p.decls) (members kind ps)
    (located_own p ps 0 _ (froms kind p 0 0 p.decls (whole p)))
    (located_other p ps (members kind ps) (higher kind p.uid ps r.0) (members_located kind ps r.1))
