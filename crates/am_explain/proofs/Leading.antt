-- The target of a start shows what decides on an activity.
use Rattle.std.proofs.Common.{◌≡◌, ℕ, ℤ, Bool, true, false, ◌||◌, cond, List, [], ◌∷◌, Option, Some, None, refl, sym, ap, ◌∙◌, arith}
use Rattle.std.specs.Prelude.{int_lt}
use Rattle.std.specs.List.{filter, list_any, take_while}
use Rattle.std.specs.Ordering.{int_eq}
use Rattle.std.proofs.lemmas.Bool.{false≢true}
use Rattle.std.proofs.lemmas.Bool.Decides.{Decides-int_eq}
use Rattle.std.proofs.lemmas.Int.{ints}
use Rattle.std.proofs.lemmas.List.Sums.{take_while-cons}
use Rattle.am_types.specs.declared.device.Rules.TheVariants.{Profile}
use Rattle.am_types.specs.declared.intent.Intent.{Intent}
use Rattle.am_types.specs.declared.manifest.Kind.TheVariants.{Activity}
use Rattle.am_types.specs.declared.resolve.Hit.{Hit}
use Rattle.am_model.specs.Boards.{Board}
use Rattle.am_model.specs.Candidates.{hits}
use Rattle.am_model.specs.Starts.{left_by}
use Rattle.am_model.specs.Targets.{browser_hits, choice, host_to_view, is_approved, is_general, profile_narrowed, top, web_hits}
use Rattle.am_model.specs.Texts.{is_same}
use Rattle.am_model.proofs.Parts.{IsPart, IsPart-filter, neither, none_of_part}
use Rattle.am_model.proofs.PriorityLaws.{AreNotAbove, IsFalling, left_fall, of_hit}
use Rattle.am_model.specs.Accounts.{is_outranked, is_some_approved}
use Rattle.am_explain.specs.Contests.{IsLed, is_approved_hit, is_below, leader, leaders_of, priority_of_hit}

-- the first of some hits, if there is one
abbrev pub first_hit : List Hit → Option Hit
first_hit [] = None
first_hit (first ∷ others) = Some first

-- the first of those that share the greatest priority is the first of all
pub leader_of_top : (found : List Hit) → leader (choice (top found)) ≡ first_hit found
leader_of_top [] = refl
leader_of_top (first ∷ others) =
    ap (λ l. leader (choice l)) (front ∙ ap (λ b. cond b (first ∷ rest) []) own) ∙ led rest
  where
    rest : List Hit
    rest = take_while (λ (h : Hit). int_eq h.priority first.priority) others

    front : top (first ∷ others) ≡ cond (int_eq first.priority first.priority) (first ∷ rest) []
    front = take_while-cons (λ (h : Hit). int_eq h.priority first.priority) first others

    own : int_eq first.priority first.priority ≡ true
    own = (Decides-int_eq first.priority first.priority).1 refl

    led : (l : List Hit) → leader (choice (first ∷ l)) ≡ Some first
    led [] = refl
    led (other ∷ l) = refl

-- if none is above a number, no number that isn't below that is outranked
none_outranks : (priority limit : ℤ) (found : List Hit) → int_lt priority limit ≡ false → AreNotAbove of_hit limit found
    → is_outranked priority found ≡ false
none_outranks priority limit [] e a = refl
none_outranks priority limit (first ∷ others) e a = rw (not_above priority limit first.priority e a.0)
    (none_outranks priority limit others e a.1)
  where
    not_above : (a b c : ℤ) → int_lt a b ≡ false → int_lt b c ≡ false → int_lt a c ≡ false
    not_above a b c e f = grind (arith, ints)

-- a priority is outranked among hits that fall if the first has a greater one
pub outranked_by_first : (priority : ℤ) (found : List Hit) → IsFalling of_hit found
    → is_below priority (priority_of_hit (first_hit found)) ≡ is_outranked priority found
outranked_by_first priority [] falls = refl
outranked_by_first priority (first ∷ others) falls = by (int_lt priority first.priority) refl
  where
    by : (b : Bool) → int_lt priority first.priority ≡ b → b ≡ (b || is_outranked priority others)
    by true e = refl
    by false e = sym (none_outranks priority first.priority others e falls.0)

module _ (board : Board) (host : List ℕ) where
  -- the package of the first of the hits that are approved is approved, if there is one
  first_kept : (found : List Hit) → list_any (is_approved board.links host) found ≡ true
      → is_approved_hit board.links (Some host) (first_hit (filter (is_approved board.links host) found)) ≡ true
  first_kept [] e = absurd (false≢true e)
  first_kept (first ∷ others) e = by (is_approved board.links host first) refl e (first_kept others)
    where
      by : (b : Bool) → is_approved board.links host first ≡ b → (b || list_any (is_approved board.links host) others)
          ≡ true
          → (list_any (is_approved board.links host) others ≡ true
          → is_approved_hit board.links (Some host) (first_hit (filter (is_approved board.links host) others)) ≡ true)
          → is_approved_hit board.links (Some host)
          (first_hit (cond b (first ∷ filter (is_approved board.links host) others)
          (filter (is_approved board.links host) others))) ≡ true
      by true is e rest = is
      by false is e rest = rest e

  -- if no hit is approved, the first isn't
  none_first : (found : List Hit) → list_any (is_approved board.links host) found ≡ false
      → is_approved_hit board.links (Some host) (first_hit found) ≡ false
  none_first [] e = refl
  none_first (first ∷ others) e = (neither (is_approved board.links host first)
      (list_any (is_approved board.links host) others) e).0

  -- what is left for a browser is a part
  browser_part : (intent : Intent) (found : List Hit) (browser : Option (List ℕ))
      → IsPart (browser_hits board intent found browser) found
  browser_part intent found None = IsPart-filter (is_general board.packages intent) found
  browser_part intent found (Some browser) = IsPart-filter (λ (hit : Hit). is_same hit.component.«package» browser)
      found

  -- some hit is approved exactly if the first that the narrowing leaves is
  approved_by_first : (intent : Intent) (found : List Hit)
      → is_approved_hit board.links (Some host) (first_hit (web_hits board intent found host))
      ≡ list_any (is_approved board.links host) found
  approved_by_first intent found = by (list_any (is_approved board.links host) found) refl
    where
      by : (b : Bool) → list_any (is_approved board.links host) found ≡ b
          → is_approved_hit board.links (Some host)
          (first_hit (cond b (filter (is_approved board.links host) found)
          (browser_hits board intent found board.browser))) ≡ b
      by true e = first_kept found e
      by false e = none_first _ (none_of_part (is_approved board.links host) _ found
          (browser_part intent found board.browser) e)

-- the same of an intent that may have no host
approved_is : (board : Board) (intent : Intent) (host : Option (List ℕ))
    → is_approved_hit board.links host (first_hit (profile_narrowed board intent (hits Profile board.packages Activity intent true)
    host)) ≡ is_some_approved board intent host
approved_is board intent None = refl
approved_is board intent (Some host) = approved_by_first board host intent
    (hits Profile board.packages Activity intent true)

-- the target of a start shows what decides on an activity under the profile
pub led : (board : Board) (intent : Intent) → IsLed board intent (leaders_of board.links (host_to_view intent)
    (choice (top (left_by Profile board intent))))
led board intent =
    let left = left_by Profile board intent in
    let first = leader_of_top left in
    record {
      approved = ap (is_approved_hit board.links (host_to_view intent)) first
          ∙ approved_is board intent (host_to_view intent);
      greatest = λ priority.
          ap (λ hit. is_below priority (priority_of_hit hit)) first
          ∙ outranked_by_first priority left (left_fall Profile board intent);
      tied = refl;
    }
