-- The package of a hit's uid is the one that the hit's component names.
use Rattle.std.proofs.Common.{◌≡◌, ℕ, ◌+◌, ◌<◌, ℤ, pos, Bool, true, false, cond, eqb, List, [], ◌∷◌, ◌++◌, Option, Some, None, refl, sym, ap, ◌∙◌}
use Rattle.std.specs.Prelude.{int_lt}
use Rattle.std.specs.List.{AllByRecursion, IsDistinct}
use Rattle.std.specs.Ordering.{is_lt}
use Rattle.std.specs.Cmp.Lexicographic.{nat_list_eq_equiv}
use Rattle.std.proofs.lemmas.Bool.{eq-eqb}
use Rattle.am_types.specs.declared.intent.Component.{Component}
use Rattle.am_types.specs.declared.intent.Intent.{Intent}
use Rattle.am_types.specs.declared.manifest.Kind.TheVariants.{Receiver}
use Rattle.am_types.specs.declared.manifest.Decl.{Decl}
use Rattle.am_types.specs.declared.device.Package.{Package}
use Rattle.am_types.specs.declared.device.Rules.{Rules}
use Rattle.am_types.specs.declared.device.Rules.TheVariants.{Profile, Android12}
use Rattle.am_types.specs.declared.resolve.Candidate.{Candidate}
use Rattle.am_types.specs.declared.resolve.Finding.{Finding}
use Rattle.am_types.specs.declared.resolve.Hit.{Hit}
use Rattle.am_model.specs.Boards.{package_at}
use Rattle.am_model.specs.Candidates.{Search, candidate_at, candidate_of, candidates, candidates_from, enabled_candidate, finding_in, hits, hits_of, implicit_candidate, in_turn, is_in, is_kind, is_named, phone_cmp, phone_order, plain_finding, profile_order}
use Rattle.am_model.specs.Lists.{place_by, placed}
use Rattle.am_model.specs.Receivers.{decl_in, declared, with_uid}
use Rattle.am_model.specs.Sound.{AreDistinct, names_of}
use Rattle.am_model.specs.Texts.{is_same}
use Rattle.am_installed.proofs.Rising.{Above, Rises, apart, rises}
use Rattle.am_installed.specs.Installed.{AreInstalled}
use Rattle.am_resolve.specs.Ranking.{decl_at, receiver_in}

-- each package is found by its uid
abbrev pub Found : List Package → List Package → Type 0
Found all ps = AllByRecursion (λ (p : Package). package_at all p.uid ≡ Some p) ps

found_behind : (q : Package) (all ps : List Package) → Above q.uid ps → Found all ps → Found (q ∷ all) ps
found_behind q all [] a f = tt
found_behind q all (p ∷ ps) a f = (
  ap (λ b. cond b (Some q) (package_at all p.uid)) (apart q.uid p.uid a.0 (eqb q.uid p.uid) refl)
      ∙ f.0,
  found_behind q all ps a.1 f.1,
)

pub each_found : (ps : List Package) → Rises ps → Found ps ps
each_found [] r = tt
each_found (p ∷ ps) r = (
  ap (λ b. cond b (Some p) (package_at ps p.uid)) (eq-eqb p.uid p.uid refl),
  found_behind p ps ps r.0
      (each_found ps r.1),
)

-- the component of a class of the package, as it is found by the package's name, is found by its uid
abbrev IsOwn : List Package → Package → Type 0
IsOwn packages p =
    (class : List ℕ) → declared packages Receiver (record { «package» = p.name; class = class })
    ≡ with_uid p.uid (receiver_in class (package_at packages p.uid))

-- the first package is its own
first_own : (p : Package) (ps : List Package) → IsOwn (p ∷ ps) p
first_own p ps class =
    ap (λ b. cond b (with_uid p.uid (decl_in Receiver class p.decls))
    (declared ps Receiver (record { «package» = p.name; class = class }))) (nat_list_eq_equiv.refl p.name)
    ∙ sym (ap (λ b. with_uid p.uid (receiver_in class (cond b (Some p) (package_at ps p.uid))))
    (eq-eqb p.uid p.uid refl))

-- a package after another, with another name and uid, is still its own
still_own : (p q : Package) (ps : List Package) → p.uid < q.uid → is_same p.name q.name ≡ false → IsOwn ps q
    → IsOwn (p ∷ ps) q
still_own p q ps lower other own class =
    ap (λ b. cond b (with_uid p.uid (decl_in Receiver class p.decls))
    (declared ps Receiver (record { «package» = q.name; class = class }))) other
    ∙ own class
    ∙ sym (ap (λ b. with_uid q.uid (receiver_in class (cond b (Some p) (package_at ps q.uid))))
    (apart p.uid q.uid lower (eqb p.uid q.uid) refl))

all_still_own : (p : Package) (qs ps : List Package) → Above p.uid qs
    → AllByRecursion (λ y. is_same p.name y ≡ false) (names_of qs)
    → AllByRecursion (IsOwn ps) qs → AllByRecursion (IsOwn (p ∷ ps)) qs
all_still_own p [] ps above others own = tt
all_still_own p (q ∷ qs) ps above others own =
    (still_own p q ps above.0 others.0 own.0, all_still_own p qs ps above.1 others.1 own.1)

-- each package is its own, as names and uids are distinct
each_own : (ps : List Package) → Rises ps → AreDistinct (names_of ps) → AllByRecursion (IsOwn ps) ps
unfolding IsDistinct
each_own [] r d = tt
each_own (p ∷ ps) r d = (first_own p ps, all_still_own p ps ps r.0 d.0 (each_own ps r.1 d.1))

-- what holds of the candidates of two lists holds of both together
all_append : (Q : Candidate → Type 0) (cs others : List Candidate) → AllByRecursion Q cs → AllByRecursion Q others
    → AllByRecursion Q (cs ++ others)
all_append Q [] others a b = b
all_append Q (c ∷ cs) others a b = (a.0, all_append Q cs others a.1 b)

-- and of those of one of them
all_either : (Q : Candidate → Type 0) (b : Bool) (cs others : List Candidate) → AllByRecursion Q cs
    → AllByRecursion Q others → AllByRecursion Q (cond b cs others)
all_either Q true cs others a b = a
all_either Q false cs others a b = b

module _ (Q : Candidate → Type 0) where
  -- it still holds of each once they are in order
  all_placed : (c : Candidate) (cs : List Candidate) → Q c → AllByRecursion Q cs
      → AllByRecursion Q (place_by (λ (c : Candidate). c.hit.priority) c cs)
  all_placed c [] q a = (q, tt)
  all_placed c (first ∷ others) q a =
      all_either Q (int_lt c.hit.priority first.hit.priority)
      (first ∷ place_by (λ (c : Candidate). c.hit.priority) c others) (c ∷ first ∷ others)
      (a.0, all_placed c others q a.1) (q, a)

  all_profile_order : (cs : List Candidate) → AllByRecursion Q cs → AllByRecursion Q (profile_order cs)
  all_profile_order [] a = tt
  all_profile_order (c ∷ cs) a = all_placed c (profile_order cs) a.0 (all_profile_order cs a.1)

  all_put : (c : Candidate) (cs : List Candidate) → Q c → AllByRecursion Q cs
      → AllByRecursion Q (placed (λ (a b : Candidate). is_lt (phone_cmp a b)) c cs)
  all_put c [] q a = (q, tt)
  all_put c (first ∷ others) q a =
      all_either Q (is_lt (phone_cmp first c))
      (first ∷ placed (λ (a b : Candidate). is_lt (phone_cmp a b)) c others) (c ∷ first ∷ others)
      (a.0, all_put c others q a.1) (q, a)

  all_phone_order : (cs : List Candidate) → AllByRecursion Q cs → AllByRecursion Q (phone_order cs)
  all_phone_order [] a = tt
  all_phone_order (c ∷ cs) a = all_put c (phone_order cs) a.0 (all_phone_order cs a.1)

  pub all_in_turn : (rules : Rules) (cs : List Candidate) → AllByRecursion Q cs → AllByRecursion Q (in_turn rules cs)
  all_in_turn Profile cs a = all_profile_order cs a
  all_in_turn Android12 cs a = all_phone_order cs a

module _ (Q : Candidate → Type 0) (what : Search) where
  -- it holds of each candidate of the package
  abbrev pub HoldsOf : Package → Type 0
  HoldsOf p = (place : ℕ) (decl : Decl) (finding : Finding) → Q (record {
    hit = record {
      component = record { «package» = p.name; class = decl.class };
      uid = p.uid;
      place = place;
      priority = finding.priority;
    };
    finding = finding;
  })

  all_at : (p : Package) → HoldsOf p → (place : ℕ) (decl : Decl) (finding : Option Finding)
      → AllByRecursion Q (candidate_at p place decl finding)
  all_at p holds place decl None = tt
  all_at p holds place decl (Some finding) = (holds place decl finding, tt)

  all_of : (p : Package) → HoldsOf p → (place : ℕ) (decl : Decl) (component : Option Component)
      → AllByRecursion Q (candidate_of what p place decl component)
  all_of p holds place decl (Some component) =
      all_either Q (is_named component p.name decl.class)
      (candidate_at p place decl (Some (plain_finding (pos 0)))) []
      (all_at p holds place decl (Some (plain_finding (pos 0)))) tt
  all_of p holds place decl None =
      all_either Q (is_in what.intent.«package» p) (implicit_candidate what p place decl) []
      (all_at p holds place decl (finding_in what.rules what decl.filters)) tt

  all_from : (p : Package) → HoldsOf p → (place : ℕ) (decls : List Decl)
      → AllByRecursion Q (candidates_from what p place decls)
  all_from p holds place [] = tt
  all_from p holds place (first ∷ others) =
      all_either Q (is_kind what.kind first.kind)
      (enabled_candidate what p place first ++ candidates_from what p (place + 1) others)
      (candidates_from what p place others)
      (all_append Q (enabled_candidate what p place first) (candidates_from what p (place + 1) others)
      (all_either Q first.enabled (candidate_of what p place first what.intent.component) []
      (all_of p holds place first what.intent.component) tt)
      (all_from p holds (place + 1) others))
      (all_from p holds place others)

  pub all_candidates : (ps : List Package) → AllByRecursion HoldsOf ps → AllByRecursion Q (candidates what ps)
  all_candidates [] holds = tt
  all_candidates (p ∷ ps) holds =
      all_append Q (candidates_from what p 0 p.decls) (candidates what ps) (all_from p holds.0 0 p.decls)
      (all_candidates ps holds.1)

-- what holds of the hit of each candidate holds of each hit
pub all_hits : (Q : Hit → Type 0) (cs : List Candidate) → AllByRecursion (λ (c : Candidate). Q c.hit) cs
    → AllByRecursion Q (hits_of cs)
all_hits Q [] a = tt
all_hits Q (c ∷ cs) a = (a.0, all_hits Q cs a.1)

-- the component of a hit, as it is found by its name, is found by its uid
abbrev pub IsFoundByUid : List Package → Hit → Type 0
IsFoundByUid packages hit = declared packages Receiver hit.component ≡ with_uid hit.uid (decl_at packages hit)

-- receivers that the intent finds
abbrev receivers_of : Rules → Intent → Search
receivers_of rules intent = record { rules = rules; kind = Receiver; intent = intent; need_default = false }

own_hits : (rules : Rules) (packages : List Package) (intent : Intent) (ps : List Package)
    → AllByRecursion (IsOwn packages) ps
    → AllByRecursion (HoldsOf (λ (c : Candidate). IsFoundByUid packages c.hit) (receivers_of rules intent)) ps
own_hits rules packages intent [] own = tt
own_hits rules packages intent (p ∷ ps) own =
    (λ place decl finding. own.0 decl.class, own_hits rules packages intent ps own.1)

-- each hit's component is found by its uid
pub hits_found_by_uid : (rules : Rules) (packages : List Package) (intent : Intent) → AreInstalled packages
    → AllByRecursion (IsFoundByUid packages) (hits rules packages Receiver intent false)
hits_found_by_uid rules packages intent installed =
    let Q = λ (c : Candidate). IsFoundByUid packages c.hit in
    let what = receivers_of rules intent in
    all_hits (IsFoundByUid packages) (in_turn rules (candidates what packages))
    (all_in_turn Q rules (candidates what packages)
    (all_candidates Q what packages
    (own_hits rules packages intent packages (each_own packages (rises packages installed.rising) installed.names))))
