-- Narrowing tests no filter outside the intent's group, and none twice: hits are components of distinct classes.
use Rattle.std.proofs.Common.{◌≡◌, ℕ, ◌+◌, ◌≤◌, Bool, true, false, cond, List, [], ◌∷◌, ◌++◌, Option, Some, None, ℤ, count_by, refl, sym, ap, ◌∙◌, arith, zero-add}
use Rattle.std.specs.List.{AllByRecursion, IsDistinct}
use Rattle.std.specs.Prelude.{int_lt, pos}
use Rattle.std.proofs.lemmas.List.Elements.{recursion_from_All}
use Rattle.std.proofs.lemmas.Bool.{false≢true}
use Rattle.am_types.specs.declared.device.Package.{Package}
use Rattle.am_types.specs.declared.device.Rules.TheVariants.{Profile}
use Rattle.am_types.specs.declared.intent.Component.{Component}
use Rattle.am_types.specs.declared.intent.Intent.{Intent}
use Rattle.am_types.specs.declared.manifest.Decl.{Decl}
use Rattle.am_types.specs.declared.manifest.Kind.{Kind}
use Rattle.am_types.specs.declared.resolve.Candidate.{Candidate}
use Rattle.am_types.specs.declared.resolve.Finding.{Finding}
use Rattle.am_model.specs.Boards.{package_at}
use Rattle.am_model.specs.Candidates.{Search, candidate_at, candidate_of, candidates, candidates_from, finding_in, hits, hits_of, is_in, is_kind, is_named, plain_finding, profile_order}
use Rattle.am_model.specs.Lists.{place_by}
use Rattle.am_model.specs.Sound.{AreDistinct, classes_of}
use Rattle.am_model.specs.Texts.{is_same}
use Rattle.am_installed.specs.Installed.{AreInstalled, IsInstalled}
use Rattle.am_installed.proofs.Rising.{rises}
use Rattle.am_index.specs.Groups.{group_size, in_group, size_of}
use Rattle.am_index.specs.Members.{Member, members, members_from}
use Rattle.am_index.proofs.Same.{is_same-Decides, is_same_itself}
use Rattle.am_resolve.specs.Narrowing.{cost_at, cost_in, cost_of}
use Rattle.am_resolve.proofs.Owners.{Found, each_found}

-- what a component costs by itself
abbrev own : Intent → Decl → ℕ
own intent decl = count_by (in_group intent) decl.filters

not_both : (b : Bool) → (b ≡ true → ⊥) → b ≡ false
not_both true h = absurd (h refl)
not_both false h = refl

-- texts that differ differ the other way round
same_turned : (a b : List ℕ) → is_same a b ≡ false → is_same b a ≡ false
same_turned a b e = not_both (is_same b a) (λ t. false≢true (sym e
    ∙ (is_same-Decides a b).1 (sym ((is_same-Decides b a).0 t))))

-- among components of other classes a class costs nothing
nothing_in : (intent : Intent) (class : List ℕ) (ds : List Decl) → AllByRecursion (λ y. is_same class y ≡ false)
    (classes_of ds) → cost_in intent class ds ≡ 0
nothing_in intent class [] a = refl
nothing_in intent class (d ∷ ds) a =
    ap (λ b. cond b (own intent d) 0 + cost_in intent class ds) (same_turned class d.class a.0)
    ∙ zero-add (cost_in intent class ds)
    ∙ nothing_in intent class ds a.1

-- a component in front of others of distinct classes doesn't change what they cost
behind : (intent : Intent) (x : Decl) (whole ds : List Decl) → AllByRecursion (λ y. is_same x.class y ≡ false)
    (classes_of ds)
    → AllByRecursion (λ (d : Decl). cost_in intent d.class whole ≡ own intent d) ds
    → AllByRecursion (λ (d : Decl). cost_in intent d.class (x ∷ whole) ≡ own intent d) ds
behind intent x whole [] a h = tt
behind intent x whole (d ∷ ds) a h = (
  ap (λ b. cond b (own intent x) 0 + cost_in intent d.class whole) a.0 ∙ zero-add (cost_in intent d.class whole)
      ∙ h.0,
  behind intent x whole ds a.1 h.1,
)

-- if classes are distinct, each costs what its component does
each_own : (intent : Intent) (ds : List Decl) → AreDistinct (classes_of ds)
    → AllByRecursion (λ (d : Decl). cost_in intent d.class ds ≡ own intent d) ds
unfolding IsDistinct
each_own intent [] distinct = tt
each_own intent (d ∷ ds) distinct = (
  ap (λ b. cond b (own intent d) 0 + cost_in intent d.class ds) (is_same_itself d.class)
      ∙ ap (λ n. own intent d + n) (nothing_in intent d.class ds distinct.0) ∙ plus_zero (own intent d),
  behind intent d ds ds distinct.0 (each_own intent ds distinct.1),
)
  where
    plus_zero : (n : ℕ) → n + 0 ≡ n
    plus_zero n = omega arith

-- two numbers each at most another are together
add_le : (a b c d : ℕ) → a ≤ b → c ≤ d → a + c ≤ b + d
add_le a b c d h k = omega (arith, h, k)

module _ (packages : List Package) (intent : Intent) (kind : Kind) (need_default : Bool) where
  -- what is looked for
  abbrev what : Search
  what = record { rules = Profile; kind = kind; intent = intent; need_default = need_default }

  -- how many tests narrowing takes of some candidates
  abbrev cost : List Candidate → ℕ
  cost found = cost_of packages intent (hits_of found)

  -- of one candidate
  abbrev alone : Candidate → ℕ
  alone c = cost_at intent c.hit.component.class (package_at packages c.hit.uid)

  cost-append : (xs ys : List Candidate) → cost (xs ++ ys) ≡ cost xs + cost ys
  cost-append [] ys = sym (zero-add (cost ys))
  cost-append (x ∷ xs) ys = ap (λ n. alone x + n) (cost-append xs ys) ∙ assoc (alone x) (cost xs) (cost ys)
    where
      assoc : (a b c : ℕ) → a + (b + c) ≡ (a + b) + c
      assoc a b c = omega arith

  -- placing by priority
  abbrev place : Candidate → List Candidate → List Candidate
  place c others = place_by (λ (c : Candidate). c.hit.priority) c others

  cost-place : (c : Candidate) (others : List Candidate) → cost (place c others) ≡ cost (c ∷ others)
  cost-place c [] = refl
  cost-place c (x ∷ xs) = by (int_lt c.hit.priority x.hit.priority) (cost-place c xs)
    where
      swap : (a b c : ℕ) → a + (b + c) ≡ b + (a + c)
      swap a b c = omega arith

      by : (b : Bool) → cost (place c xs) ≡ cost (c ∷ xs)
          → cost (cond b (x ∷ place c xs) (c ∷ x ∷ xs)) ≡ cost (c ∷ x ∷ xs)
      by true e = ap (λ n. alone x + n) e ∙ swap (alone x) (alone c) (cost xs)
      by false e = refl

  cost-order : (found : List Candidate) → cost (profile_order found) ≡ cost found
  cost-order [] = refl
  cost-order (c ∷ others) = cost-place c (profile_order others) ∙ ap (λ n. alone c + n) (cost-order others)

  module _ (owner : Package) (found : package_at packages owner.uid ≡ Some owner) where
    -- a candidate costs no more than its component
    one : (place : ℕ) (d : Decl) (finding : Option Finding) → cost_in intent d.class owner.decls ≡ own intent d
        → cost (candidate_at owner place d finding) ≤ own intent d
    one place d None e = omega arith
    one place d (Some finding) e =
        let is : cost_at intent d.class (package_at packages owner.uid)
        ≡ own intent d = ap (cost_at intent d.class) found ∙ e in
        omega (arith, is)

    when : (b : Bool) (cs : List Candidate) (n : ℕ) → cost cs ≤ n → cost (cond b cs []) ≤ n
    when true cs n h = h
    when false cs n h = omega arith

    of_decl : (place : ℕ) (d : Decl) (c : Option Component) → cost_in intent d.class owner.decls ≡ own intent d
        → cost (candidate_of what owner place d c) ≤ own intent d
    of_decl place d (Some c) e = when (is_named c owner.name d.class) _ _
        (one place d (Some (plain_finding (pos 0))) e)
    of_decl place d None e = when (is_in intent.«package» owner) _ _
        (one place d (finding_in Profile what d.filters) e)

    -- and those of some components no more than these
    from : (position place : ℕ) (ds : List Decl) → AllByRecursion (λ (d : Decl). cost_in intent d.class owner.decls
        ≡ own intent d) ds
        → cost (candidates_from what owner place ds) ≤ size_of intent (members_from kind owner position place ds)
    from position place [] a = omega arith
    from position place (d ∷ ds) a =
        by (is_kind kind d.kind) d.enabled (from (position + 1) (place + 1) ds a.1) (from (position + 1) place ds a.1)
      where
        by : (k enabled : Bool)
            → cost (candidates_from what owner (place + 1) ds) ≤ size_of intent
            (members_from kind owner (position + 1) (place + 1) ds)
            → cost (candidates_from what owner place ds) ≤ size_of intent
            (members_from kind owner (position + 1) place ds)
            → cost (cond k (cond enabled (candidate_of what owner place d intent.component) []
            ++ candidates_from what owner (place + 1) ds) (candidates_from what owner place ds))
            ≤ size_of intent (cond k (cond enabled (record {
              owner = owner;
              position = position;
              place = place;
              decl = d;
            } ∷ members_from kind owner (position + 1) (place + 1) ds)
            (members_from kind owner (position + 1) (place + 1) ds))
            (members_from kind owner (position + 1) place ds))
        by true true next other =
            let joined = cost-append (candidate_of what owner place d intent.component)
            (candidates_from what owner (place + 1) ds) in
            rw joined (add_le _ _ _ _ (of_decl place d intent.component a.0) next)
        by true false next other = next
        by false enabled next other = other

  size-append : (xs ys : List Member) → size_of intent (xs ++ ys) ≡ size_of intent xs + size_of intent ys
  size-append [] ys = sym (zero-add (size_of intent ys))
  size-append (x ∷ xs) ys = ap (λ n. own intent x.decl + n) (size-append xs ys)
      ∙ assoc (own intent x.decl) (size_of intent xs) (size_of intent ys)
    where
      assoc : (a b c : ℕ) → a + (b + c) ≡ (a + b) + c
      assoc a b c = omega arith

  of_packages : (ps : List Package) → Found packages ps → AllByRecursion IsInstalled ps
      → cost (candidates what ps) ≤ size_of intent (members kind ps)
  of_packages [] f i = omega arith
  of_packages (p ∷ ps) f i =
      rw (
        cost-append (candidates_from what p 0 p.decls) (candidates what ps),
        size-append (members_from kind p 0 0 p.decls)
            (members kind ps),
      )
      (add_le _ _ _ _ (from p f.0 0 0 p.decls (each_own intent p.decls i.0.classes)) (of_packages ps f.1 i.1))

  -- narrowing what was found takes at most as many tests as the group has filters
  pub narrowing_cost : AreInstalled packages
      → cost_of packages intent (hits Profile packages kind intent need_default) ≤ group_size packages kind intent
  narrowing_cost installed =
      rw (cost-order (candidates what packages))
      (of_packages packages (each_found packages (rises packages installed.rising))
      (recursion_from_All IsInstalled packages installed.each))
