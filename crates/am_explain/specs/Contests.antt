-- What decides, across the whole device, on a component that an implicit start finds.
use Rattle.std.specs.Prelude.{◌≡◌, ℕ, ℤ, Bool, true, false, List, [], ◌∷◌, filter, if◌then◌else◌, Option, Some, None, int_lt}
use Rattle.std.specs.Option.{option_map}
use Rattle.am_types.specs.declared.device.Rules.TheVariants.{Profile, Android12}
use Rattle.am_types.specs.declared.intent.Intent.{Intent}
use Rattle.am_types.specs.declared.device.Link.{Link}
use Rattle.am_types.specs.declared.manifest.Kind.TheVariants as kinds
use Rattle.am_types.specs.declared.resolve.Hit.{Hit}
use Rattle.am_types.specs.declared.resolve.Target.{Target}
use Rattle.am_types.specs.declared.resolve.Target.TheVariants.{Nothing, One, Choose}
use Rattle.am_model.specs.Boards.{Board}
use Rattle.am_model.specs.Candidates.{found_by, hits}
use Rattle.am_model.specs.Links.{leading_of, may_start}
use Rattle.am_model.specs.Starts.{left_by, phone_left}
use Rattle.am_model.specs.Targets.{choice, host_to_view, is_approved, top}
use Rattle.am_model.specs.Accounts.{Question, first_of, is_choice, is_outranked, is_some_approved}
use Rattle.am_links.specs.Led.{led_by}
use Rattle.am_explain.specs.Asking.{question_of}
use Rattle.am_explain.specs.declared.contest.Contest.{Contest}
use Rattle.am_explain.specs.declared.contest.Contest.TheVariants.{Start, PhoneStart, Service, Broadcast}
use Rattle.am_explain.specs.declared.contest.Grounds.{Grounds}
use Rattle.am_explain.specs.declared.contest.Leaders.{Leaders}
use Rattle.am_explain.specs.declared.contest.PhoneLeaders.{PhoneLeaders}

-- the first hit that a start may reach, if there is one
abbrev pub leader : Target → Option Hit
leader Nothing = None
leader (One hit) = Some hit
leader (Choose []) = None
leader (Choose (first ∷ others)) = Some first

-- the priority of a hit, if there is one
abbrev pub priority_of_hit : Option Hit → Option ℤ
priority_of_hit None = None
priority_of_hit (Some hit) = Some hit.priority

-- there is a hit, and its package is approved for the host of a web intent
abbrev pub is_approved_hit : List Link → Option (List ℕ) → Option Hit → Bool
is_approved_hit links None hit = false
is_approved_hit links (Some host) None = false
is_approved_hit links (Some host) (Some hit) = is_approved links host hit

-- what the target of a start shows
abbrev pub leaders_of : List Link → Option (List ℕ) → Target → Leaders
leaders_of links host reached = record {
  approved = is_approved_hit links host (leader reached);
  greatest = priority_of_hit (leader reached);
  tied = is_choice reached;
}

-- the priority is below the other, if there is one
abbrev pub is_below : ℤ → Option ℤ → Bool
is_below priority None = false
is_below priority (Some greatest) = int_lt priority greatest

-- what decides on an activity under the profile: whether a package is approved, which priorities are outranked, and
-- whether the user must choose
pub record IsLed (board : Board) (intent : Intent) (leaders : Leaders) : Type 0 where
  pub approved : leaders.approved ≡ is_some_approved board intent (host_to_view intent)
  pub greatest : (priority : ℤ) → is_below priority leaders.greatest ≡ is_outranked priority (left_by Profile board intent)
  pub tied : leaders.tied ≡ is_choice (choice (top (left_by Profile board intent)))

-- those of the hits that count on a phone: all, or at a tie those that the caller may start
abbrev pub contenders : Board → ℕ → List Hit → List Hit
contenders board caller left = if is_choice (choice (top left)) then filter (may_start board caller) left else left

-- what decides on an activity on a phone: what the narrowing is decided by, whether only what the caller may start
-- counts, which priorities are outranked, and whether the user must choose
pub record IsPhoneLed (board : Board) (caller : ℕ) (intent : Intent) (leaders : PhoneLeaders) : Type 0 where
  pub leading : option_map led_by leaders.leading
      ≡ leading_of board intent true (found_by Android12 board.packages kinds.Activity intent true)
  pub contested : leaders.contested ≡ is_choice (choice (top (phone_left board intent true)))
  pub greatest : (priority : ℤ) → is_below priority leaders.greatest
      ≡ is_outranked priority (contenders board caller (phone_left board intent true))
  pub tied : leaders.tied ≡ is_choice (choice (top (contenders board caller (phone_left board intent true))))

-- what decides on a component of the kind in question
abbrev pub IsContest : Board → Question → Contest → Type 0
IsContest board asked (Start leaders) =
    (asked.kind ≡ kinds.Activity) × (board.rules ≡ Profile) × IsLed board asked.intent leaders
IsContest board asked (PhoneStart leaders) =
    (asked.kind ≡ kinds.Activity) × (board.rules ≡ Android12) × IsPhoneLed board asked.caller asked.intent leaders
IsContest board asked (Service first) =
    (asked.kind ≡ kinds.Service)
    × (first ≡ first_of (hits board.rules board.packages kinds.Service asked.intent false))
IsContest board asked Broadcast = asked.kind ≡ kinds.Receiver

-- what decides is what decides on the question on the board
abbrev pub AreGrounds : Grounds → Type 0
AreGrounds grounds = IsContest grounds.installed.now (question_of grounds.question) grounds.contest.now
