-- Laws of priorities: hits and offers stand by falling priority, and a start is for those of the greatest one.
use Rattle.std.proofs.Common.{◌≡◌, ℤ, Bool, true, false, cond, List, [], ◌∷◌, ◌++◌, map, refl, sym, ap, ◌∙◌, subst, arith}
use Rattle.std.specs.Prelude.{ℕ, int_lt}
use Rattle.std.specs.List.{filter, take_while}
use Rattle.std.specs.Ordering.{int_cmp, int_eq, is_eq, is_lt, ordering_then}
use Rattle.std.specs.declared.cmp.Ordering.{Ordering}
use Rattle.std.specs.declared.cmp.Ordering.TheVariants.{Less, Equal, Greater}
use Rattle.std.proofs.lemmas.Bool.{true≢false}
use Rattle.std.proofs.lemmas.Int.{ints}
use Rattle.std.proofs.lemmas.Bool.Decides.{Decides-int_eq}
use Rattle.std.proofs.lemmas.List.Sums.{take_while-cons}
use Rattle.am_types.specs.declared.device.Rules.{Rules}
use Rattle.am_types.specs.declared.device.Rules.TheVariants.{Profile, Android12}
use Rattle.am_types.specs.declared.intent.Intent.{Intent}
use Rattle.am_types.specs.declared.manifest.Kind.{Kind}
use Rattle.am_types.specs.declared.manifest.Kind.TheVariants.{Activity, Receiver}
use Rattle.am_types.specs.declared.device.Package.{Package}
use Rattle.am_types.specs.declared.resolve.Candidate.{Candidate}
use Rattle.am_types.specs.declared.resolve.Hit.{Hit}
use Rattle.am_types.specs.declared.resolve.Target.{Target}
use Rattle.am_types.specs.declared.resolve.Target.TheVariants.{Nothing, One, Choose}
use Rattle.am_model.specs.Boards.{Board}
use Rattle.am_model.specs.Candidates.{candidates, found_by, hits, in_turn, phone_cmp, then_default}
use Rattle.am_model.specs.Links.{may_start, phone_choice, unless_tied}
use Rattle.am_model.specs.Starts.{choice_by, left_by}
use Rattle.am_model.specs.Targets.{top, choice}
use Rattle.am_model.specs.Receivers.{Offer, registered_offer, finds_registered, declared_offers, offers}
use Rattle.am_model.specs.Lists.{falling_by, ordered, place_by, placed}
use Rattle.am_model.proofs.Parts.{IsPart, IsPart-filter, end, keep, leave}
use Rattle.am_model.proofs.TargetLaws.{left_is_a_part}

-- no number is less than itself
lt_itself : (a : ℤ) → int_lt a a ≡ false
lt_itself a = grind (arith, ints)

-- what is less isn't greater
lt_one_way : (a b : ℤ) → int_lt a b ≡ true → int_lt b a ≡ false
lt_one_way a b less = grind (arith, ints)

-- what isn't above a number isn't above one that isn't less
lt_chain : (a b c : ℤ) → int_lt a b ≡ false → int_lt b c ≡ false → int_lt a c ≡ false
lt_chain a b c first second = grind (arith, ints)

-- what isn't above a number is less than one that is greater
lt_under : (a b c : ℤ) → int_lt b c ≡ false → int_lt b a ≡ true → int_lt c a ≡ true
lt_under a b c second less = grind (arith, ints)

-- what isn't above a number that differs from a greater one differs from that too
lt_other : (a b c : ℤ) → int_lt a b ≡ false → int_eq b a ≡ false → int_lt b c ≡ false → int_eq c a ≡ false
lt_other a b c first differs second = by (int_lt b a) refl differs
  where
    under : int_lt b a ≡ true → int_eq c a ≡ false
    under less = rw (lt_under a b c second less) refl

    by : (test : Bool) → int_lt b a ≡ test → is_eq (cond test Less (cond (int_lt a b) Greater Equal)) ≡ false
        → int_eq c a ≡ false
    by true less differs = under less
    by false less differs = absurd (apart (int_lt a b) first differs)
      where
        apart : (greater : Bool) → greater ≡ false → is_eq (cond greater Greater Equal) ≡ false → ⊥
        apart true is differs = true≢false is
        apart false is differs = true≢false differs

module _ {X : Type 0} (priority : X → ℤ) where
  -- none of the list is above the number
  abbrev pub AreNotAbove : ℤ → List X → Type 0
  AreNotAbove limit [] = Unit {0}
  AreNotAbove limit (x ∷ xs) = (int_lt limit (priority x) ≡ false) × AreNotAbove limit xs

  -- none of the list is above one before it
  abbrev pub IsFalling : List X → Type 0
  IsFalling [] = Unit {0}
  IsFalling (x ∷ xs) = AreNotAbove (priority x) xs × IsFalling xs

  -- none is above a greater number
  not_above_greater : (limit lower : ℤ) (xs : List X) → int_lt limit lower ≡ false → AreNotAbove lower xs
      → AreNotAbove limit xs
  not_above_greater limit lower [] greater below = tt
  not_above_greater limit lower (x ∷ xs) greater below = (
    lt_chain limit lower (priority x) greater below.0,
    not_above_greater limit lower xs greater below.1,
  )

  -- nor is one of them with one more that isn't
  not_above_place : (limit : ℤ) (x : X) (ys : List X) → int_lt limit (priority x) ≡ false → AreNotAbove limit ys
      → AreNotAbove limit (place_by priority x ys)
  not_above_place limit x [] is below = (is, tt)
  not_above_place limit x (y ∷ ys) is below = by (int_lt (priority x) (priority y))
      (not_above_place limit x ys is below.1)
    where
      by : (b : Bool) → AreNotAbove limit (place_by priority x ys)
          → AreNotAbove limit (cond b (y ∷ place_by priority x ys) (x ∷ y ∷ ys))
      by true rest = (below.0, rest)
      by false rest = (is, below)

  -- placing keeps a list falling
  pub falling_place : (x : X) (ys : List X) → IsFalling ys → IsFalling (place_by priority x ys)
  falling_place x [] falls = (tt, tt)
  falling_place x (y ∷ ys) falls = by (int_lt (priority x) (priority y)) refl (falling_place x ys falls.1)
    where
      by : (b : Bool) → int_lt (priority x) (priority y) ≡ b → IsFalling (place_by priority x ys)
          → IsFalling (cond b (y ∷ place_by priority x ys) (x ∷ y ∷ ys))
      by true less rest = (not_above_place (priority y) x ys (lt_one_way (priority x) (priority y) less) falls.0, rest)
      by false less rest = ((less, not_above_greater (priority x) (priority y) ys less falls.0), falls)

  -- so what was placed falls
  pub placed_fall : (xs : List X) → IsFalling (falling_by priority xs)
  placed_fall [] = tt
  placed_fall (x ∷ xs) = falling_place x (falling_by priority xs) (placed_fall xs)

  -- of what is left of a list none is above the number either
  not_above_part : (limit : ℤ) (xs ys : List X) → IsPart xs ys → AreNotAbove limit ys → AreNotAbove limit xs
  not_above_part limit xs ys end below = tt
  not_above_part limit (x ∷ xs) (x' ∷ ys) (keep part) below = (below.0, not_above_part limit xs ys part below.1)
  not_above_part limit xs (y ∷ ys) (leave part) below = not_above_part limit xs ys part below.1

  -- what is left of a falling list is falling
  pub falling_part : (xs ys : List X) → IsPart xs ys → IsFalling ys → IsFalling xs
  falling_part xs ys end falls = tt
  falling_part (x ∷ xs) (x' ∷ ys) (keep part) falls = (
    not_above_part (priority x) xs ys part falls.0,
    falling_part xs
        ys part falls.1,
  )
  falling_part xs (y ∷ ys) (leave part) falls = falling_part xs ys part falls.1

  -- the element has that priority
  abbrev pub has_priority : ℤ → X → Bool
  has_priority limit x = int_eq (priority x) limit

  -- none has a priority that one in front of all differs from and isn't above
  none_has : (limit lower : ℤ) (xs : List X) → int_lt limit lower ≡ false → int_eq lower limit ≡ false
      → AreNotAbove lower xs → filter (has_priority limit) xs ≡ []
  none_has limit lower [] greater differs below = refl
  none_has limit lower (x ∷ xs) greater differs below = rw (lt_other limit lower (priority x) greater differs below.0)
      (none_has limit lower xs greater differs below.1)

  -- of a falling list those of the greatest priority stand in front
  pub greatest_in_front : (limit : ℤ) (xs : List X) → AreNotAbove limit xs → IsFalling xs
      → take_while (has_priority limit) xs ≡ filter (has_priority limit) xs
  greatest_in_front limit [] below falls = refl
  greatest_in_front limit (x ∷ xs) below falls =
      take_while-cons (has_priority limit) x xs ∙ by (has_priority limit x) refl
      (greatest_in_front limit xs below.1 falls.1)
    where
      by : (b : Bool) → has_priority limit x ≡ b → take_while (has_priority limit) xs ≡ filter (has_priority limit) xs
          → cond b (x ∷ take_while (has_priority limit) xs) [] ≡ cond b (x ∷ filter (has_priority limit) xs)
          (filter (has_priority limit) xs)
      by true is rest = ap (λ l. x ∷ l) rest
      by false is rest = sym (none_has limit (priority x) xs below.0 is falls.0)

module _ {X Y : Type 0} (priority : X → ℤ) (of : Y → X) where
  not_above_map : (limit : ℤ) (ys : List Y) → AreNotAbove (λ y. priority (of y)) limit ys
      → AreNotAbove priority limit (map of ys)
  not_above_map limit [] below = tt
  not_above_map limit (y ∷ ys) below = (below.0, not_above_map limit ys below.1)

  -- if elements fall by the priorities of what they are, then these fall
  falling_map : (ys : List Y) → IsFalling (λ y. priority (of y)) ys → IsFalling priority (map of ys)
  falling_map [] falls = tt
  falling_map (y ∷ ys) falls = (not_above_map (priority (of y)) ys falls.0, falling_map ys falls.1)

module _ {X : Type 0} (priority : X → ℤ) (before : X → X → Bool)
    (ahead : (x y : X) → before x y ≡ true → int_lt (priority x) (priority y) ≡ false)
    (behind : (x y : X) → before x y ≡ false → int_lt (priority y) (priority x) ≡ false) where
  not_above_placed : (limit : ℤ) (x : X) (ys : List X) → int_lt limit (priority x) ≡ false
      → AreNotAbove priority limit ys → AreNotAbove priority limit (placed before x ys)
  not_above_placed limit x [] is below = (is, tt)
  not_above_placed limit x (y ∷ ys) is below = by (before y x) (not_above_placed limit x ys is below.1)
    where
      by : (b : Bool) → AreNotAbove priority limit (placed before x ys)
          → AreNotAbove priority limit (cond b (y ∷ placed before x ys) (x ∷ y ∷ ys))
      by true rest = (below.0, rest)
      by false rest = (is, below)

  falling_placed : (x : X) (ys : List X) → IsFalling priority ys → IsFalling priority (placed before x ys)
  falling_placed x [] falls = (tt, tt)
  falling_placed x (y ∷ ys) falls = by (before y x) refl (falling_placed x ys falls.1)
    where
      by : (b : Bool) → before y x ≡ b → IsFalling priority (placed before x ys)
          → IsFalling priority (cond b (y ∷ placed before x ys) (x ∷ y ∷ ys))
      by true is rest = (not_above_placed (priority y) x ys (ahead y x is) falls.0, rest)
      by false is rest = (
        (
          behind y x is,
          not_above_greater priority (priority x) (priority y) ys (behind y x is)
              falls.0,
        ),
        falls,
      )

  -- an order that asks the priority first falls
  ordered_fall : (xs : List X) → IsFalling priority (ordered before xs)
  ordered_fall [] = tt
  ordered_fall (x ∷ xs) = falling_placed x (ordered before xs) (ordered_fall xs)

-- one that comes before another by falling priority first isn't below it
first_ahead : (a b : ℤ) (rest : Ordering) → is_lt (ordering_then (int_cmp b a) rest) ≡ true → int_lt a b ≡ false
first_ahead a b rest is = by (int_lt b a) (int_lt a b) refl refl is
  where
    by : (less greater : Bool) → int_lt b a ≡ less → int_lt a b ≡ greater
        → is_lt (ordering_then (cond less Less (cond greater Greater Equal)) rest) ≡ true → int_lt a b ≡ false
    by true greater is_less is_greater is = lt_one_way b a is_less
    by false true is_less is_greater is = absurd (true≢false (sym is))
    by false false is_less is_greater is = is_greater

-- and one that doesn't isn't above it
first_behind : (a b : ℤ) (rest : Ordering) → is_lt (ordering_then (int_cmp b a) rest) ≡ false → int_lt b a ≡ false
first_behind a b rest is = by (int_lt b a) refl is
  where
    by : (less : Bool) → int_lt b a ≡ less
        → is_lt (ordering_then (cond less Less (cond (int_lt a b) Greater Equal)) rest) ≡ false → int_lt b a ≡ false
    by true is_less is = absurd (true≢false is)
    by false is_less is = is_less

-- the priority of a candidate
abbrev pub of_candidate : Candidate → ℤ
of_candidate candidate = candidate.hit.priority

-- candidates in order fall, under both rules
pub in_turn_fall : (rules : Rules) (found : List Candidate) → IsFalling of_candidate (in_turn rules found)
in_turn_fall Profile found = placed_fall of_candidate found
in_turn_fall Android12 found =
    ordered_fall of_candidate (λ a b. is_lt (phone_cmp a b))
    (λ a b. first_ahead a.hit.priority b.hit.priority (then_default a b))
    (λ a b. first_behind a.hit.priority b.hit.priority (then_default a b))
    found

-- the priority of a hit
abbrev pub of_hit : Hit → ℤ
of_hit hit = hit.priority

-- the priority of an offer
abbrev pub of_offer : Offer → ℤ
of_offer offer = offer.priority

-- the hits of an intent stand by falling priority
pub hits_fall : (rules : Rules) (packages : List Package) (kind : Kind) (intent : Intent) (need_default : Bool)
    → IsFalling of_hit (hits rules packages kind intent need_default)
hits_fall rules packages kind intent need_default =
    falling_map of_hit (λ (c : Candidate). c.hit) (found_by rules packages kind intent need_default)
    (in_turn_fall rules (candidates
    (record { rules = rules; kind = kind; intent = intent; need_default = need_default }) packages))

-- and so do the offers of a broadcast
pub offers_fall : (board : Board) (intent : Intent) → IsFalling of_offer (offers board intent)
offers_fall board intent =
    placed_fall of_offer (map registered_offer
    (filter (finds_registered board.rules board.packages intent) board.registered)
    ++ declared_offers board.packages (hits board.rules board.packages Receiver intent false))

-- of hits that fall, all of the greatest priority are those that a start is for
pub top_is_all_greatest : (first : Hit) (others : List Hit) → IsFalling of_hit (first ∷ others) → top (first ∷ others)
    ≡ filter (has_priority of_hit first.priority) (first ∷ others)
top_is_all_greatest first others falls = greatest_in_front of_hit first.priority (first ∷ others)
    (lt_itself first.priority, falls.0) falls

-- where a choice is one, no hit is above it
one_of_top : (left : List Hit) (hit : Hit) → IsFalling of_hit left → choice (top left) ≡ One hit
    → AreNotAbove of_hit hit.priority left
one_of_top [] hit falls e = tt
one_of_top (first ∷ others) hit falls e =
    let front : top (first ∷ others) ≡ cond (int_eq first.priority first.priority)
    (first ∷ take_while (λ (h : Hit). int_eq h.priority first.priority) others) [] =
    take_while-cons (λ (h : Hit). int_eq h.priority first.priority) first others in
    let own : int_eq first.priority first.priority ≡ true = (Decides-int_eq first.priority first.priority).1 refl in
    let whole : top (first ∷ others) ≡ first ∷ take_while (λ (h : Hit). int_eq h.priority first.priority) others =
    front ∙ ap (λ b. cond b (first ∷ take_while (λ (h : Hit). int_eq h.priority first.priority) others) []) own in
    let same : first ≡ hit = is_first first _ (ap choice (sym whole) ∙ e) in
    subst (λ (h : Hit). AreNotAbove of_hit h.priority (first ∷ others)) same (lt_itself first.priority, falls.0)
  where
    is_first : (first : Hit) (rest : List Hit) → choice (first ∷ rest) ≡ One hit → first ≡ hit
    is_first first [] e = cc
    is_first first (other ∷ rest) e = absurd cc

-- what a start may reach stands by falling priority
pub left_fall : (rules : Rules) (board : Board) (intent : Intent) → IsFalling of_hit (left_by rules board intent)
left_fall rules board intent =
    falling_part of_hit _ (hits rules board.packages Activity intent true) (left_is_a_part rules board intent)
    (hits_fall rules board.packages Activity intent true)

-- where a start reaches one activity under the profile, no hit that the narrowing left is above it
pub one_is_greatest : (board : Board) (caller : ℕ) (intent : Intent) (hit : Hit)
    → choice_by Profile board caller (left_by Profile board intent) ≡ One hit
    → AreNotAbove of_hit hit.priority (left_by Profile board intent)
one_is_greatest board caller intent hit reached =
    one_of_top (left_by Profile board intent) hit (left_fall Profile board intent) reached

-- under a phone's rules none of those that the caller may start is above it, or none of all
pub one_is_greatest_of_phone : (board : Board) (caller : ℕ) (left : List Hit) (hit : Hit) → IsFalling of_hit left
    → phone_choice board caller left ≡ One hit
    → AreNotAbove of_hit hit.priority (filter (may_start board caller) left)
one_is_greatest_of_phone board caller left hit falls reached = by (choice (top left)) refl reached
  where
    mine : List Hit
    mine = filter (may_start board caller) left

    is_part : IsPart mine left
    is_part = IsPart-filter (may_start board caller) left

    by : (t : Target) → choice (top left) ≡ t → unless_tied t (choice (top mine)) ≡ One hit
        → AreNotAbove of_hit hit.priority mine
    by Nothing is e = absurd cc
    by (One other) is e =
        let same : One other ≡ One hit = e in
        not_above_part of_hit hit.priority mine left is_part (one_of_top left hit falls (is ∙ same))
    by (Choose several) is e = one_of_top mine hit (falling_part of_hit mine left is_part falls) e
