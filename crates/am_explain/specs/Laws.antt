-- Laws of the accounts: a component is decided on in the same way as a start or a broadcast of the intent decides on
-- it.
use Rattle.std.specs.Prelude.{◌≡◌, ℕ, Bool, true, false, List, [], ◌∷◌, map, filter, Option, Some, None}
use Rattle.std.specs.List.Sorted.{IsPermutation}
use Rattle.am_types.specs.declared.intent.Component.{Component}
use Rattle.am_types.specs.declared.filter.Filter.{Filter}
use Rattle.am_types.specs.declared.filter.Why.{Why}
use Rattle.am_types.specs.declared.manifest.Decl.{Decl}
use Rattle.am_types.specs.declared.manifest.Kind.TheVariants as kinds
use Rattle.am_types.specs.declared.device.Package.{Package}
use Rattle.am_types.specs.declared.device.Rules.TheVariants.{Profile}
use Rattle.am_types.specs.declared.resolve.Hit.{Hit}
use Rattle.am_types.specs.declared.resolve.Registration.{Registration}
use Rattle.am_types.specs.declared.resolve.Target.{Target}
use Rattle.am_types.specs.declared.resolve.Target.TheVariants.{Nothing, One, Choose}
use Rattle.am_types.specs.declared.broadcast.Aim.TheVariants.{Declared}
use Rattle.am_types.specs.declared.broadcast.Receiving.{Receiving}
use Rattle.am_types.specs.declared.broadcast.Spot.{Spot}
use Rattle.am_types.specs.declared.rule.Rule.TheVariants as rules
use Rattle.am_model.specs.Boards.{Board}
use Rattle.am_model.specs.Candidates.{candidates, hits, hits_of}
use Rattle.am_model.specs.Cuts.{unfound_why, unheard_why}
use Rattle.am_model.specs.Gates.{verdict}
use Rattle.am_model.specs.Receivers.{admitted, declared, receivers, rule_of}
use Rattle.am_model.specs.Starts.{target}
use Rattle.am_installed.specs.Installed.{AreInstalled}
use Rattle.am_model.specs.Accounts.{Question, accounts, needs_default, registered_standing, search_of, sending_rule, standing, unless_refused}
use Rattle.am_types.specs.declared.account.Account.{Account}
use Rattle.am_types.specs.declared.account.Standing.{Standing}
use Rattle.am_types.specs.declared.account.Standing.TheVariants.{Filters, Tied, Refused, Reached}

-- the component is reached, or a rule keeps the intent from it
abbrev pub is_decided : Standing → Bool
is_decided Reached = true
is_decided (Refused rule) = true
is_decided _ = false

-- the component is reached
abbrev pub is_reached : Standing → Bool
is_reached Reached = true
is_reached _ = false

-- the component is among those from which the user must choose
abbrev pub is_tied : Standing → Bool
is_tied Tied = true
is_tied _ = false

-- the accounts with such a standing
abbrev pub standing_at : (Standing → Bool) → List Account → List Account
standing_at test told = filter (λ (account : Account). test account.standing) told

-- the account of a declared component that is started, if it is declared: the gate's verdict
abbrev pub started_component : Board → ℕ → Component → Option (ℕ × Decl) → List Account
started_component board caller component None = []
started_component board caller component (Some found) =
    record {
      to = Declared component;
      standing = unless_refused (rule_of (verdict board.grants caller found.0 found.1.exported found.1.permission));
    } ∷ []

-- the account of the activity that a start reaches, if it reaches one
abbrev pub started_target : Board → ℕ → Target → List Account
started_target board caller Nothing = []
started_target board caller (One hit) =
    started_component board caller hit.component (declared board.packages kinds.Activity hit.component)
started_target board caller (Choose several) = []

-- a start of the activity that the intent names, or of the one that it reaches
abbrev pub started_activity : Board → Question → Option Component → List Account
started_activity board asked (Some component) =
    started_component board asked.caller component (declared board.packages kinds.Activity component)
started_activity board asked None = started_target board asked.caller (target board asked.caller asked.intent)

-- the accounts of the activities from which the user must choose
abbrev pub tied_hits : Target → List Account
tied_hits Nothing = []
tied_hits (One hit) = []
tied_hits (Choose several) = map (λ (hit : Hit). record { to = Declared hit.component; standing = Tied }) several

-- the choice of a start that names no component
abbrev pub tied_activities : Board → Question → Option Component → List Account
tied_activities board asked (Some component) = []
tied_activities board asked None = tied_hits (target board asked.caller asked.intent)

-- under the profile the activities decided on, by the gate's verdict, are those that the start reaches, and the tied ones
-- are those from which the user must choose
pub record ActivitiesAreStarted : Type 0 where
  pub decided : (board : Board) (asked : Question) → board.rules ≡ Profile → AreInstalled board.packages
      → asked.kind ≡ kinds.Activity
      → standing_at is_decided (accounts board asked None) ≡ started_activity board asked asked.intent.component
  pub tied : (board : Board) (asked : Question) → board.rules ≡ Profile → AreInstalled board.packages
      → asked.kind ≡ kinds.Activity
      → standing_at is_tied (accounts board asked None) ≡ tied_activities board asked asked.intent.component

-- the account of the first hit
abbrev pub started_first : Board → ℕ → List Hit → List Account
started_first board caller [] = []
started_first board caller (first ∷ others) =
    started_component board caller first.component (declared board.packages kinds.Service first.component)

-- the account of each service found by an intent that names neither a component nor a package
abbrev pub implicit_services : List Hit → List Account
implicit_services found =
    map (λ (hit : Hit). record { to = Declared hit.component; standing = Refused rules.ImplicitService }) found

-- a start of the service that the intent names, of the first one found in the package that it names, or of none
abbrev pub started_service : Board → Question → Option Component → Option (List ℕ) → List Account
started_service board asked (Some component) name =
    started_component board asked.caller component (declared board.packages kinds.Service component)
started_service board asked None (Some name) =
    started_first board asked.caller (hits board.rules board.packages kinds.Service asked.intent false)
started_service board asked None None = implicit_services (hits_of (candidates (search_of board asked) board.packages))

-- the service decided on, by the gate's verdict, is the one that the start reaches
abbrev pub ServicesAreStarted : Type 0
ServicesAreStarted =
    (board : Board) (asked : Question) → AreInstalled board.packages → asked.kind ≡ kinds.Service
    → standing_at is_decided (accounts board asked None)
    ≡ started_service board asked asked.intent.component asked.intent.«package»

-- the account of a receiver that a broadcast is offered to: what becomes of the offer
abbrev pub account_of : Receiving → Account
account_of receiving = record { to = receiving.aim; standing = unless_refused receiving.skip }

-- the accounts of those that are reached
abbrev pub reached_spots : List Spot → List Account
reached_spots spots = map (λ (spot : Spot). record { to = spot.aim; standing = Reached }) spots

-- the receivers decided on, as the broadcast decides, are those that it is offered to, and the reached ones are those
-- that are admitted; if the caller may not send the action, none is reached
pub record ReceiversAreSentTo : Type 0 where
  pub offered : (board : Board) (asked : Question) → AreInstalled board.packages → asked.kind ≡ kinds.Receiver
      → sending_rule board asked ≡ None
      → IsPermutation (standing_at is_decided (accounts board asked None))
      (map account_of (receivers board asked.intent asked.caller asked.required))
  pub admitted : (board : Board) (asked : Question) → AreInstalled board.packages → asked.kind ≡ kinds.Receiver
      → sending_rule board asked ≡ None
      → IsPermutation (standing_at is_reached (accounts board asked None))
      (reached_spots (admitted (receivers board asked.intent asked.caller asked.required)))
  pub protected : (board : Board) (asked : Question) → asked.kind ≡ kinds.Receiver
      → sending_rule board asked ≡ Some rules.ProtectedAction
      → standing_at is_reached (accounts board asked None) ≡ []

-- the reasons of a component are those for which the intent doesn't find its filters, one for each; the same holds for
-- the reason of a registered receiver
pub record ReasonsAreOfFilters : Type 0 where
  pub components : (board : Board) (asked : Question) (owner : Package) (decl : Decl) (reasons : List Why)
      → standing board asked owner decl ≡ Filters reasons
      → map Some reasons ≡ map (λ (f : Filter). unfound_why board.rules f asked.intent (needs_default asked.kind)) decl.filters
  pub registered : (board : Board) (asked : Question) (r : Registration) (reasons : List Why)
      → registered_standing board asked r ≡ Filters reasons
      → map Some reasons ≡ unheard_why board.rules r.filter asked.intent ∷ []
