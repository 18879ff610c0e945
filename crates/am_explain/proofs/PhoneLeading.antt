-- The choice of a phone's start shows what decides on an activity.
use Rattle.std.proofs.Common.{◌≡◌, ℕ, ℤ, Bool, true, false, cond, List, Option, refl, sym, ap, ◌∙◌, subst}
use Rattle.std.specs.List.{filter}
use Rattle.std.specs.Option.{option_map}
use Rattle.am_types.specs.declared.device.Rules.TheVariants.{Android12}
use Rattle.am_types.specs.declared.intent.Intent.{Intent}
use Rattle.am_types.specs.declared.manifest.Kind.TheVariants.{Activity}
use Rattle.am_types.specs.declared.resolve.Hit.{Hit}
use Rattle.am_types.specs.declared.resolve.Target.{Target}
use Rattle.am_types.specs.declared.resolve.Target.TheVariants.{Nothing, One, Choose}
use Rattle.am_model.specs.Accounts.{is_choice, is_outranked}
use Rattle.am_model.specs.Boards.{Board}
use Rattle.am_model.specs.Candidates.{found_by}
use Rattle.am_model.specs.Links.{leading_of, may_start, phone_choice, unless_tied}
use Rattle.am_model.specs.Starts.{phone_left}
use Rattle.am_model.specs.Targets.{choice, top}
use Rattle.am_model.proofs.Parts.{IsPart-filter}
use Rattle.am_model.proofs.PriorityLaws.{IsFalling, falling_part, left_fall, of_hit}
use Rattle.am_links.specs.Led.{led_by}
use Rattle.am_links.specs.declared.leading.Leading.{Leading}
use Rattle.am_explain.specs.declared.contest.PhoneLeaders.{PhoneLeaders}
use Rattle.am_explain.specs.Contests.{IsPhoneLed, contenders, is_below, leader, priority_of_hit}
use Rattle.am_explain.proofs.Leading.{leader_of_top, outranked_by_first}

-- a phone's choice is among those that count
pub choice_of_contenders : (board : Board) (caller : ℕ) (left : List Hit)
    → phone_choice board caller left ≡ choice (top (contenders board caller left))
choice_of_contenders board caller left = by (choice (top left)) refl
  where
    mine : List Hit
    mine = filter (may_start board caller) left

    by : (t : Target) → choice (top left) ≡ t
        → unless_tied t (choice (top mine)) ≡ choice (top (cond (is_choice t) mine left))
    by Nothing e = sym e
    by (One hit) e = sym e
    by (Choose several) e = refl

-- those that count fall
contenders_fall : (board : Board) (caller : ℕ) (left : List Hit) → IsFalling of_hit left
    → IsFalling of_hit (contenders board caller left)
contenders_fall board caller left falls = by (is_choice (choice (top left)))
  where
    by : (b : Bool) → IsFalling of_hit (cond b (filter (may_start board caller) left) left)
    by true = falling_part of_hit (filter (may_start board caller) left) left (IsPart-filter (may_start board caller) left)
        falls
    by false = falls

-- what a phone's start shows, by what decides, by whether several share the greatest priority, and by what is reached
abbrev pub shown_by : Option Leading → Bool → Target → PhoneLeaders
shown_by leading contested reached = record {
  leading = leading;
  contested = contested;
  greatest = priority_of_hit (leader reached);
  tied = is_choice reached;
}

-- what is found of a phone's start decides
pub phone_led : (board : Board) (caller : ℕ) (intent : Intent) (leading : Option Leading)
    → option_map led_by leading ≡ leading_of board intent true (found_by Android12 board.packages Activity intent true)
    → IsPhoneLed board caller intent (shown_by leading (is_choice (choice (top (phone_left board intent true))))
    (phone_choice board caller (phone_left board intent true)))
phone_led board caller intent leading is =
    let left = phone_left board intent true in
    let chosen = choice_of_contenders board caller left in
    record {
      leading = is;
      contested = refl;
      greatest = λ priority.
          ap (λ (t : Target). is_below priority (priority_of_hit (leader t))) chosen
          ∙ ap (λ hit. is_below priority (priority_of_hit hit)) (leader_of_top (contenders board caller left))
          ∙ outranked_by_first priority (contenders board caller left)
          (contenders_fall board caller left (left_fall Android12 board intent));
      tied = ap is_choice chosen;
    }
