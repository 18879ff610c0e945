-- Names of kinds, flags, placements, and of the reasons for leaving a component out.
use Rattle.std.specs.Prelude.{ℕ, Bool, List, [], ◌∷◌, codes, if◌then◌else◌}
use Rattle.am_types.specs.declared.account.Narrowing.{Narrowing}
use Rattle.am_types.specs.declared.account.Narrowing.TheVariants.{Approved, Browser, General}
use Rattle.am_types.specs.declared.filter.Why.{Why}
use Rattle.am_types.specs.declared.filter.Why.TheVariants.{Action, Scheme, Host, Path, Type_, Category}
use Rattle.am_types.specs.declared.intent.Flags.{Flags}
use Rattle.am_types.specs.declared.pending.PendingFlags.{PendingFlags}
use Rattle.am_types.specs.declared.manifest.Kind.{Kind}
use Rattle.am_types.specs.declared.manifest.Kind.TheVariants.{Activity, Service, Receiver}
use Rattle.am_types.specs.declared.task.Placed.{Placed}
use Rattle.am_types.specs.declared.task.Placed.TheVariants.{Fresh, NewIntent, Fronted}

-- a kind of component
abbrev pub kind_name : Kind → List ℕ
kind_name Activity = codes "activity"
kind_name Service = codes "service"
kind_name Receiver = codes "receiver"

-- what a pending intent does
abbrev pub pending_name : Kind → List ℕ
pending_name Activity = codes "activity"
pending_name Service = codes "service"
pending_name Receiver = codes "broadcast"

-- what a start did
abbrev pub placed_name : Placed → List ℕ
placed_name Fresh = codes "fresh"
placed_name NewIntent = codes "new_intent"
placed_name Fronted = codes "fronted"

-- why a filter doesn't pass
abbrev pub why_name : Why → List ℕ
why_name Action = codes "action"
why_name Scheme = codes "scheme"
why_name Host = codes "host"
why_name Path = codes "path"
why_name Type_ = codes "type"
why_name Category = codes "category"

-- what the activities that open a web intent are narrowed to
abbrev pub narrowing_name : Narrowing → List ℕ
narrowing_name Approved = codes "approved"
narrowing_name Browser = codes "browser"
narrowing_name General = codes "general"

-- the names of the flags that are set
abbrev pub names_set : List (Bool × List ℕ) → List (List ℕ)
names_set [] = []
names_set (first ∷ others) = if first.0 then first.1 ∷ names_set others else names_set others

-- the flags of an intent with their names
abbrev pub flags_named : Flags → List (Bool × List ℕ)
flags_named flags =
    (flags.new_task, codes "NEW_TASK") ∷ (flags.multiple_task, codes "MULTIPLE_TASK")
    ∷ (flags.clear_task, codes "CLEAR_TASK")
    ∷ (flags.clear_top, codes "CLEAR_TOP") ∷ (flags.single_top, codes "SINGLE_TOP")
    ∷ (flags.reorder_to_front, codes "REORDER_TO_FRONT")
    ∷ (flags.registered_only, codes "REGISTERED_ONLY") ∷ (flags.foreground, codes "FOREGROUND")
    ∷ (flags.no_abort, codes "NO_ABORT")
    ∷ (flags.include_stopped, codes "INCLUDE_STOPPED") ∷ []

-- the flags that a pending intent is requested with, with their names
abbrev pub pending_named : PendingFlags → List (Bool × List ℕ)
pending_named flags =
    (flags.one_shot, codes "ONE_SHOT") ∷ (flags.no_create, codes "NO_CREATE")
    ∷ (flags.cancel_current, codes "CANCEL_CURRENT")
    ∷ (flags.update_current, codes "UPDATE_CURRENT") ∷ (flags.immutable, codes "IMMUTABLE")
    ∷ (flags.mutable, codes "MUTABLE") ∷ []
