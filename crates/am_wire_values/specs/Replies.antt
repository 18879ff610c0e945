-- The value and the status of a reply. The fields of each object are in the order of their bytes.
use Rattle.std.specs.Prelude.{ℕ, suc, nat_lt, List, [], ◌∷◌, map, codes, true, false, Option, Some, None, option_map, if◌then◌else◌}
use Rattle.serde_json.specs.Data.{Data, boolean, string, object, Members, no_members, member}
use Rattle.am_types.specs.declared.account.Account.{Account}
use Rattle.am_types.specs.declared.account.Standing.{Standing}
use Rattle.am_types.specs.declared.account.Standing.TheVariants as stands
use Rattle.am_types.specs.declared.broadcast.Aim.{Aim}
use Rattle.am_types.specs.declared.broadcast.Aim.TheVariants.{Declared, Registered}
use Rattle.am_types.specs.declared.broadcast.Item.{Item}
use Rattle.am_types.specs.declared.broadcast.ItemKind.{ItemKind}
use Rattle.am_types.specs.declared.broadcast.ItemKind.TheVariants.{Normal, InOrder, Final}
use Rattle.am_types.specs.declared.broadcast.Receiving.{Receiving}
use Rattle.am_types.specs.declared.filter.Why.{Why}
use Rattle.am_types.specs.declared.history.Entry.{Entry}
use Rattle.am_types.specs.declared.intent.Component.{Component}
use Rattle.am_types.specs.declared.reply.Reply.{Reply}
use Rattle.am_types.specs.declared.reply.Reply.TheVariants as says
use Rattle.am_types.specs.declared.rule.Rule.{Rule}
use Rattle.am_types.specs.declared.task.InstanceView.{InstanceView}
use Rattle.am_types.specs.declared.task.Landed.{Landed}
use Rattle.am_types.specs.declared.task.ServiceView.{ServiceView}
use Rattle.am_types.specs.declared.task.TaskView.{TaskView}
use Rattle.am_wire_routes.specs.Table.{endpoint_for, path_of}
use Rattle.am_wire_values.specs.Fields.{natural, or_null, whole, listed}
use Rattle.am_wire_values.specs.Intents.{component_data, extras_data, intent_data}
use Rattle.am_wire_values.specs.Names.{narrowing_name, placed_name, why_name}
use Rattle.am_wire_values.specs.Requests.{request_data}
use Rattle.am_wire_values.specs.Rules.{rule_name, named_by, refusal_data, rule_status}

-- components under a name
abbrev pub components_data : List ℕ → List Component → Data
components_data name found = object (member name (listed (map component_data found)) no_members)

-- where a start ended up
abbrev pub landed_data : Landed → Data
landed_data landed =
    object (member (codes "instance") (natural landed.instance)
    (member (codes "placed") (string (placed_name landed.how))
    (member (codes "task") (natural landed.task) no_members)))

-- an instance of an activity
abbrev pub instance_data : InstanceView → Data
instance_data seen =
    object (member (codes "component") (component_data seen.component)
    (member (codes "instance") (natural seen.instance)
    (member (codes "intent") (intent_data seen.intent) no_members)))

-- a task
abbrev pub task_data : TaskView → Data
task_data seen =
    object (member (codes "instances") (listed (map instance_data seen.instances))
    (member (codes "task") (natural seen.task) no_members))

-- a running service
abbrev pub service_data : ServiceView → Data
service_data seen =
    object (member (codes "component") (component_data seen.component)
    (member (codes "intent") (intent_data seen.intent)
    (member (codes "starts") (natural seen.starts) no_members)))

-- a receiver: a component, or the number of a registered one
abbrev pub aim_data : Aim → Data
aim_data (Declared component) = component_data component
aim_data (Registered number) = natural number

-- what the verdict is on, and the verdict
abbrev pub judged : Aim → List ℕ → Members
judged aim verdict = member (codes "to") (aim_data aim) (member (codes "verdict") (string verdict) no_members)

-- a receiver that was left out
abbrev pub skipped_data : Aim → List ℕ → Option (List ℕ) → Data
skipped_data aim verdict None = object (judged aim verdict)
skipped_data aim verdict (Some name) = object (member (codes "name") (string name) (judged aim verdict))

-- a receiver with what became of it
abbrev pub offered_data : Aim → Option Rule → Data
offered_data aim None = skipped_data aim (codes "admitted") None
offered_data aim (Some rule) = skipped_data aim (rule_name rule) (named_by rule)

-- a receiver that a broadcast was offered to
abbrev pub receiving_data : Receiving → Data
receiving_data offered = offered_data offered.aim offered.skip

-- why a filter doesn't pass
abbrev pub reason_data : Why → Data
reason_data why = string (why_name why)

-- a component or a registered receiver with its standing, and further details
abbrev pub standing_data : Aim → Standing → Data
standing_data aim stands.OtherComponent = object (judged aim (codes "other_component"))
standing_data aim stands.OtherPackage = object (judged aim (codes "other_package"))
standing_data aim stands.Disabled = object (judged aim (codes "disabled"))
standing_data aim (stands.Filters reasons) =
    object (member (codes "reasons") (listed (map reason_data reasons)) (judged aim (codes "filters")))
standing_data aim (stands.Narrowed narrowing) =
    object (member (codes "by") (string (narrowing_name narrowing)) (judged aim (codes "narrowed")))
standing_data aim stands.Outranked = object (judged aim (codes "outranked"))
standing_data aim stands.Tied = object (judged aim (codes "tied"))
standing_data aim (stands.Refused rule) = skipped_data aim (rule_name rule) (named_by rule)
standing_data aim stands.Reached = object (judged aim (codes "reached"))

-- an account of one of these
abbrev pub account_data : Account → Data
account_data account = standing_data account.to account.standing

-- an item that waits in an inbox
abbrev pub item_data : ℕ → ℕ → ItemKind → Data
item_data broadcast delivery (Normal aim intent) =
    object (member (codes "broadcast") (natural broadcast) (member (codes "delivery") (natural delivery)
    (member (codes "intent") (intent_data intent) (member (codes "ordered") (boolean false)
    (member (codes "to") (aim_data aim) no_members)))))
item_data broadcast delivery (InOrder aim intent outcome) =
    object (member (codes "broadcast") (natural broadcast) (member (codes "code") (whole outcome.code)
    (member (codes "data") (or_null (option_map string outcome.text)) (member (codes "delivery") (natural delivery)
    (member (codes "extras") (extras_data outcome.extras) (member (codes "intent") (intent_data intent)
    (member (codes "ordered") (boolean true) (member (codes "to") (aim_data aim) no_members))))))))
item_data broadcast delivery (Final outcome) =
    object (member (codes "code") (whole outcome.code) (member (codes "data") (or_null (option_map string outcome.text))
    (member (codes "delivery") (natural delivery) (member (codes "extras") (extras_data outcome.extras)
    (member (codes "result") (natural broadcast) no_members)))))

-- an item of an inbox
abbrev pub waiting_data : Item → Data
waiting_data item = item_data item.broadcast item.delivery item.what

-- the number after this one; the greatest 64-bit number stays
unfoldable pub number_after : ℕ → ℕ
number_after n = if nat_lt n 18446744073709551615 then suc n else n

-- a stored call with its number
unfoldable pub entry_data : ℕ → Entry → Data
entry_data at entry =
    object (member (codes "at") (natural at) (member (codes "desk") (natural entry.desk)
    (member (codes "kept") (boolean entry.kept) (member (codes "now") (natural entry.now)
    (member (codes "request") (request_data entry.request) (member (codes "route")
    (string (path_of (endpoint_for entry.request)))
    (member (codes "uid") (natural entry.uid) (member (codes "weight") (natural entry.weight) no_members))))))))

-- stored calls that follow each other
abbrev pub entries_data : ℕ → List Entry → List Data
entries_data at [] = []
entries_data at (first ∷ others) = entry_data at first ∷ entries_data (number_after at) others

-- the value of a reply
unfoldable pub reply_data : Reply → Data
reply_data (says.Components found) = components_data (codes "components") found
reply_data (says.Accounts accounts) = object (member (codes "accounts") (listed (map account_data accounts)) no_members)
reply_data (says.Choose found) = components_data (codes "choose") found
reply_data (says.Placed landed) = landed_data landed
reply_data (says.Finished instance) = object (member (codes "finished") (or_null (option_map natural instance))
    no_members)
reply_data (says.Tasks tasks) = object (member (codes "tasks") (listed (map task_data tasks)) no_members)
reply_data (says.Services services) = object (member (codes "services") (listed (map service_data services)) no_members)
reply_data (says.Registered number) = object (member (codes "number") (natural number) no_members)
reply_data (says.Items items) = object (member (codes "items") (listed (map waiting_data items)) no_members)
reply_data (says.Token token) = object (member (codes "token") (or_null (option_map natural token)) no_members)
reply_data (says.Installed uid) = object (member (codes "uid") (natural uid) no_members)
reply_data (says.Refused rule) = refusal_data rule
reply_data (says.Started component starts) =
    object (member (codes "component") (component_data component) (member (codes "starts") (natural starts) no_members))
reply_data (says.Sent broadcast receivers) =
    object (member (codes "broadcast") (natural broadcast)
    (member (codes "receivers") (listed (map receiving_data receivers)) no_members))
reply_data (says.Entries from entries) =
    object (member (codes "entries") (listed (entries_data from entries))
    (member (codes "from") (natural from) no_members))
reply_data (says.Status history moment packages) =
    object (member (codes "history") (natural history) (member (codes "moment") (natural moment)
    (member (codes "packages") (natural packages) no_members)))
reply_data (says.Advanced due now) =
    object (member (codes "due") (or_null (option_map natural due)) (member (codes "now") (natural now) no_members))
reply_data says.Plain = object no_members

-- the status of a reply
abbrev pub status_of : Reply → ℕ
status_of (says.Choose found) = 300
status_of (says.Refused rule) = rule_status rule
status_of _ = 200
