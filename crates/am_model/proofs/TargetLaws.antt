-- Laws of targets: the narrowing adds no hit and keeps their order, and what is reached was found.
use Rattle.std.proofs.Common.{◌≡◌, ℕ, Bool, true, false, cond, List, [], ◌∷◌, ◌≤◌, length, map, refl, subst, arith}
use Rattle.std.specs.Prelude.{Option, Some, None}
use Rattle.std.specs.List.{Contains, list_any, filter, prefix_len}
use Rattle.std.specs.Ordering.{int_eq}
use Rattle.am_types.specs.declared.device.Rules.{Rules}
use Rattle.am_types.specs.declared.device.Rules.TheVariants.{Profile, Android12}
use Rattle.am_types.specs.declared.intent.Intent.{Intent}
use Rattle.am_types.specs.declared.resolve.Candidate.{Candidate}
use Rattle.am_types.specs.declared.resolve.Hit.{Hit}
use Rattle.am_types.specs.declared.resolve.Target.{Target}
use Rattle.am_types.specs.declared.resolve.Target.TheVariants.{Nothing, One, Choose}
use Rattle.am_types.specs.declared.manifest.Kind.TheVariants.{Activity}
use Rattle.am_model.specs.Boards.{Board}
use Rattle.am_model.specs.Candidates.{found_by, hits}
use Rattle.am_model.specs.Links.{Leading, is_left, leading_of, left_of, may_start, phone_narrowed, unless_tied}
use Rattle.am_model.specs.Starts.{choice_by, left_by, start_hits, target}
use Rattle.am_model.specs.Texts.{is_same}
use Rattle.am_model.specs.Targets.{is_approved, is_general, browser_hits, profile_narrowed, top, choice, host_to_view}
use Rattle.am_model.proofs.Parts.{IsPart, end, keep, leave, IsPart-whole, IsPart-filter, IsPart-take, IsPart-part, Contains-part}

-- the narrowing adds no hit, and the hits that are left stand in their order
pub narrowing_leaves_a_part : (board : Board) (intent : Intent) (found : List Hit) (host : Option (List ℕ))
    → IsPart (profile_narrowed board intent found host) found
narrowing_leaves_a_part board intent found None = IsPart-whole found
narrowing_leaves_a_part board intent found (Some host) = by (list_any (is_approved board.links host) found)
    board.browser
  where
    by : (approved : Bool) (browser : Option (List ℕ)) → IsPart (cond approved
        (filter (is_approved board.links host) found) (browser_hits board intent found browser)) found
    by true browser = IsPart-filter (is_approved board.links host) found
    by false None = IsPart-filter (is_general board.packages intent) found
    by false (Some browser) = IsPart-filter (λ (hit : Hit). is_same hit.component.«package» browser) found

-- and so do those of the greatest priority
pub top_is_a_part : (found : List Hit) → IsPart (top found) found
top_is_a_part [] = end
top_is_a_part (first ∷ others) = IsPart-take (prefix_len (λ (hit : Hit). int_eq hit.priority first.priority)
    (first ∷ others)) (first ∷ others)

-- what is left of the elements, where they stand for others
IsPart-map : {X Y : Type 0} (of : X → Y) (xs ys : List X) → IsPart xs ys → IsPart (map of xs) (map of ys)
IsPart-map of xs ys end = end
IsPart-map of xs ys (keep rest) = keep (IsPart-map of _ _ rest)
IsPart-map of xs ys (leave rest) = leave (IsPart-map of _ _ rest)

-- a phone's narrowing leaves a part too
left_of_is_a_part : (leads : Option Leading) (found : List Candidate) → IsPart (left_of leads found) found
left_of_is_a_part None found = IsPart-whole found
left_of_is_a_part (Some leads) found = IsPart-filter (is_left leads) found

-- what a start may reach are hits of the intent, in their order
pub left_is_a_part : (rules : Rules) (board : Board) (intent : Intent)
    → IsPart (left_by rules board intent) (hits rules board.packages Activity intent true)
left_is_a_part Profile board intent =
    narrowing_leaves_a_part board intent (hits Profile board.packages Activity intent true) (host_to_view intent)
left_is_a_part Android12 board intent =
    let all = found_by Android12 board.packages Activity intent true in
    IsPart-map (λ (c : Candidate). c.hit) (phone_narrowed board intent true all) all
    (left_of_is_a_part (leading_of board intent true all) all)

-- the hits of a target: none, the one that is reached, or those among which the user must choose
abbrev pub aimed_at : Target → List Hit
aimed_at Nothing = []
aimed_at (One hit) = hit ∷ []
aimed_at (Choose several) = several

-- a choice loses none of the hits
aimed_at_choice : (found : List Hit) → aimed_at (choice found) ≡ found
aimed_at_choice [] = refl
aimed_at_choice (hit ∷ []) = refl
aimed_at_choice (hit ∷ other ∷ others) = refl

-- what is chosen of hits is a part of them, under both rules
top_choice_is_a_part : (left : List Hit) → IsPart (aimed_at (choice (top left))) left
top_choice_is_a_part left = rw (aimed_at_choice (top left)) (top_is_a_part left)

unless_tied_is_a_part : (target other : Target) (left : List Hit) → IsPart (aimed_at target) left
    → IsPart (aimed_at other) left → IsPart (aimed_at (unless_tied target other)) left
unless_tied_is_a_part Nothing other left one two = one
unless_tied_is_a_part (One hit) other left one two = one
unless_tied_is_a_part (Choose several) other left one two = two

choice_is_a_part : (rules : Rules) (board : Board) (caller : ℕ) (left : List Hit)
    → IsPart (aimed_at (choice_by rules board caller left)) left
choice_is_a_part Profile board caller left = top_choice_is_a_part left
choice_is_a_part Android12 board caller left =
    let mine = filter (may_start board caller) left in
    unless_tied_is_a_part (choice (top left)) (choice (top mine)) left (top_choice_is_a_part left)
    (IsPart-part (aimed_at (choice (top mine))) mine left (top_choice_is_a_part mine)
    (IsPart-filter (may_start board caller) left))

-- the hits of a start's target are hits of the intent, in their order
pub target_is_a_part : (board : Board) (caller : ℕ) (intent : Intent) → IsPart (aimed_at (target board caller intent))
    (hits board.rules board.packages Activity intent true)
target_is_a_part board caller intent =
    IsPart-part (aimed_at (target board caller intent)) (start_hits board intent) _
    (choice_is_a_part board.rules board caller (start_hits board intent)) (left_is_a_part board.rules board intent)

-- a start that reaches one reaches one of the intent's hits
pub one_is_a_hit : (board : Board) (caller : ℕ) (intent : Intent) (hit : Hit) → target board caller intent ≡ One hit
    → Contains (hits board.rules board.packages Activity intent true) hit
one_is_a_hit board caller intent hit reached =
    Contains-part hit (hits board.rules board.packages Activity intent true) (subst
    (λ t. IsPart (aimed_at t) (hits board.rules board.packages Activity intent true)) reached
    (target_is_a_part board caller intent))

-- a choice is among two at least
choose_is_among_two : (found several : List Hit) → choice found ≡ Choose several → 2 ≤ length several
choose_is_among_two [] several e = cc
choose_is_among_two (hit ∷ []) several e = cc
choose_is_among_two (hit ∷ other ∷ others) several e =
    let same : several ≡ hit ∷ other ∷ others = cc in rw same (omega arith)

choice_is_among_two_by : (rules : Rules) (board : Board) (caller : ℕ) (left several : List Hit)
    → choice_by rules board caller left ≡ Choose several → 2 ≤ length several
choice_is_among_two_by Profile board caller left several asked = choose_is_among_two (top left) several asked
choice_is_among_two_by Android12 board caller left several asked = by (choice (top left)) asked
  where
    by : (t : Target) → unless_tied t (choice (top (filter (may_start board caller) left))) ≡ Choose several
        → 2 ≤ length several
    by Nothing e = cc
    by (One hit) e = cc
    by (Choose others) e = choose_is_among_two (top (filter (may_start board caller) left)) several e

pub choice_is_among_two : (board : Board) (caller : ℕ) (intent : Intent) (several : List Hit)
    → target board caller intent ≡ Choose several → 2 ≤ length several
choice_is_among_two board caller intent several asked =
    choice_is_among_two_by board.rules board caller (start_hits board intent) several asked
