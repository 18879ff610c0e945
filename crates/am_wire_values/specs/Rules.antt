-- The name and the status of a refusal.
use Rattle.std.specs.Prelude.{ℕ, List, codes, Option, Some, None}
use Rattle.serde_json.specs.Data.{Data, string, object, no_members, member}
use Rattle.am_types.specs.declared.rule.Limit.{Limit}
use Rattle.am_types.specs.declared.rule.Limit.TheVariants.{Packages, Grants, Links, Registered, Broadcasts, Receivers, Pending, Holders, Extras, Tasks, Activities, Services, Moment}
use Rattle.am_types.specs.declared.rule.Rule.{Rule}
use Rattle.am_types.specs.declared.rule.Rule.TheVariants.{UnknownKey, HistoryFull, AdminOnly, NoPackage, NoComponent, NoActivity, NoInstance, NoDelivery, NoToken, NoService, NoReceiver, NotExported, NeedsPermission, ProtectedAction, NotYours, NotHolder, NotCreator, ImplicitService, NeedsNewTask, Mutability, NotOrdered, Installed, Canceled, OverLimit, BadManifest, KeeperFault, RegisteredOnly, ManifestImplicit, StoppedPackage, ReceiverLacks}
use Rattle.am_types.specs.Printing.{printed}

-- the name of a quantity that has a limit
abbrev pub limit_name : Limit → List ℕ
limit_name Packages = codes "packages"
limit_name Grants = codes "grants"
limit_name Links = codes "links"
limit_name Registered = codes "registered"
limit_name Broadcasts = codes "broadcasts"
limit_name Receivers = codes "receivers"
limit_name Pending = codes "pending"
limit_name Holders = codes "holders"
limit_name Extras = codes "extras"
limit_name Tasks = codes "tasks"
limit_name Activities = codes "activities"
limit_name Services = codes "services"
limit_name Moment = codes "moment"

-- the status and the name of a refusal; the last four rules skip a receiver and never refuse a request
abbrev pub refusal_of : Rule → ℕ × List ℕ
refusal_of UnknownKey = (401, codes "unknown_key")
refusal_of HistoryFull = (429, codes "history_full")
refusal_of AdminOnly = (403, codes "admin_only")
refusal_of NoPackage = (404, codes "no_package")
refusal_of NoComponent = (404, codes "no_component")
refusal_of NoActivity = (404, codes "no_activity")
refusal_of NoInstance = (404, codes "no_instance")
refusal_of NoDelivery = (404, codes "no_delivery")
refusal_of NoToken = (404, codes "no_token")
refusal_of NoService = (404, codes "no_service")
refusal_of NoReceiver = (404, codes "no_receiver")
refusal_of NotExported = (403, codes "not_exported")
refusal_of (NeedsPermission permission) = (403, codes "needs_permission")
refusal_of ProtectedAction = (403, codes "protected_action")
refusal_of NotYours = (403, codes "not_yours")
refusal_of NotHolder = (403, codes "not_holder")
refusal_of NotCreator = (403, codes "not_creator")
refusal_of ImplicitService = (400, codes "implicit_service")
refusal_of NeedsNewTask = (400, codes "needs_new_task")
refusal_of Mutability = (400, codes "mutability")
refusal_of NotOrdered = (400, codes "not_ordered")
refusal_of Installed = (409, codes "installed")
refusal_of Canceled = (410, codes "canceled")
refusal_of (OverLimit limit) = (429, codes "over_limit")
refusal_of (BadManifest fault) = (422, codes "bad_manifest")
refusal_of KeeperFault = (503, codes "keeper_fault")
refusal_of RegisteredOnly = (403, codes "registered_only")
refusal_of ManifestImplicit = (403, codes "manifest_implicit")
refusal_of StoppedPackage = (403, codes "stopped_package")
refusal_of (ReceiverLacks permission) = (403, codes "receiver_lacks")

-- the name of a rule
abbrev pub rule_name : Rule → List ℕ
rule_name rule = (refusal_of rule).1

-- the status of a refusal
abbrev pub rule_status : Rule → ℕ
rule_status rule = (refusal_of rule).0

-- what a rule names: a permission, a limit, or the fault of a manifest
abbrev pub named_by : Rule → Option (List ℕ)
named_by (NeedsPermission permission) = Some permission
named_by (ReceiverLacks permission) = Some permission
named_by (OverLimit limit) = Some (limit_name limit)
named_by (BadManifest fault) = Some (printed fault)
named_by _ = None

-- an error, with a name if there is one
abbrev pub error_data : List ℕ → Option (List ℕ) → Data
error_data error None = object (member (codes "error") (string error) no_members)
error_data error (Some name) = object (member (codes "error") (string error)
    (member (codes "name") (string name) no_members))

-- the value of a refusal
abbrev pub refusal_data : Rule → Data
refusal_data rule = error_data (rule_name rule) (named_by rule)
