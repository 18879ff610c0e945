-- The value of a request: fields that are absent or at their default are left out.
use Rattle.std.specs.Prelude.{ℕ, ℤ, Bool, true, List, codes, Option, Some, None, option_map}
use Rattle.serde_json.specs.Data.{Data, boolean, string, object, Members, no_members, put}
use Rattle.am_types.specs.declared.broadcast.Answer.{Answer}
use Rattle.am_types.specs.declared.broadcast.Ordered.{Ordered}
use Rattle.am_types.specs.declared.broadcast.Outcome.{Outcome}
use Rattle.am_types.specs.declared.filter.Filter.{Filter}
use Rattle.am_types.specs.declared.intent.Intent.{Intent}
use Rattle.am_types.specs.declared.manifest.Kind.{Kind}
use Rattle.am_types.specs.declared.pending.PendingFlags.{PendingFlags}
use Rattle.am_types.specs.declared.request.Request.{Request}
use Rattle.am_types.specs.declared.request.Request.TheVariants as asks
use Rattle.am_wire_values.specs.Fields.{put_given, natural, whole, some_whole, texts_data, some_truth}
use Rattle.am_wire_values.specs.Filters.{filter_data}
use Rattle.am_wire_values.specs.Intents.{component_data, intent_data, some_extras}
use Rattle.am_wire_values.specs.Names.{kind_name, pending_name, names_set, pending_named}

-- a request with one field
abbrev pub with_one : List ℕ → Data → Data
with_one name value = object (put name value no_members)

-- a request with two fields
abbrev pub with_two : List ℕ → Data → List ℕ → Data → Data
with_two name value other more = object (put other more (put name value no_members))

-- the members, with an outcome apart from its code
unfoldable pub with_outcome : Outcome → Members → Members
with_outcome outcome members =
    put_given (codes "extras") (some_extras outcome.extras) (put_given (codes "data") (option_map string outcome.text)
    members)

-- the members, with how an ordered broadcast starts
unfoldable pub with_ordered : Ordered → Members → Members
with_ordered ordered members =
    put_given (codes "result") (some_truth ordered.wanted)
    (put_given (codes "code") (some_whole ordered.initial.code)
    (with_outcome ordered.initial (put (codes "ordered") (boolean true) members)))

-- the members, with the same if the broadcast is ordered
abbrev pub with_order : Option Ordered → Members → Members
with_order None members = members
with_order (Some ordered) members = with_ordered ordered members

-- the members, with an outcome if one is set
abbrev pub with_set : Option Outcome → Members → Members
with_set None members = members
with_set (Some outcome) members = with_outcome outcome (put (codes "code") (whole outcome.code) members)

unfoldable pub query_data : Kind → Intent → Bool → Data
query_data kind intent default_only =
    object (put_given (codes "defaultOnly") (some_truth default_only)
    (put (codes "intent") (intent_data intent) (put (codes "kind") (string (kind_name kind)) no_members)))

unfoldable pub explain_data : Kind → Intent → Option (List ℕ) → Option (List ℕ) → Option (List ℕ) → Data
explain_data kind intent caller permission shown =
    object (put_given (codes "of") (option_map string shown)
    (put_given (codes "permission") (option_map string permission)
    (put_given (codes "as") (option_map string caller)
    (put (codes "intent") (intent_data intent) (put (codes "kind") (string (kind_name kind)) no_members)))))

unfoldable pub start_data : Intent → Option ℕ → Data
start_data intent source =
    object (put_given (codes "source") (option_map natural source)
    (put (codes "intent") (intent_data intent) no_members))

unfoldable pub send_data : Intent → Option (List ℕ) → Option Ordered → Data
send_data intent permission ordered =
    object (with_order ordered
    (put_given (codes "permission") (option_map string permission)
    (put (codes "intent") (intent_data intent) no_members)))

unfoldable pub register_data : Filter → Option (List ℕ) → Data
register_data filter permission =
    object (put_given (codes "permission") (option_map string permission)
    (put (codes "filter") (filter_data filter) no_members))

unfoldable pub finish_data : ℕ → Answer → Data
finish_data delivery answer =
    object (with_set answer.set
    (put_given (codes "abort") (some_truth answer.abort) (put (codes "delivery") (natural delivery) no_members)))

unfoldable pub get_data : Kind → ℤ → Intent → PendingFlags → Data
get_data kind code intent flags =
    object (put (codes "flags") (texts_data (names_set (pending_named flags)))
    (put (codes "intent") (intent_data intent)
    (put (codes "code") (whole code) (put (codes "kind") (string (pending_name kind)) no_members))))

unfoldable pub pending_send_data : ℕ → Option Intent → Data
pending_send_data token fill =
    object (put_given (codes "fill") (option_map intent_data fill) (put (codes "token") (natural token) no_members))

unfoldable pub grant_data : List ℕ → List ℕ → Bool → Data
grant_data name permission held =
    object (put (codes "held") (boolean held)
    (put (codes "permission") (string permission) (put (codes "package") (string name) no_members)))

unfoldable pub link_data : List ℕ → List ℕ → Bool → Data
link_data name host approved =
    object (put (codes "approved") (boolean approved)
    (put (codes "host") (string host) (put (codes "package") (string name) no_members)))

-- the value of a request, as in its body; `{}` for one without a body
unfoldable pub request_data : Request → Data
request_data (asks.Query kind intent default_only) = query_data kind intent default_only
request_data (asks.Explain kind intent caller permission shown) = explain_data kind intent caller permission shown
request_data (asks.Start intent source) = start_data intent source
request_data (asks.FinishActivity instance) = with_one (codes "instance") (natural instance)
request_data asks.Back = object no_members
request_data asks.ListTasks = object no_members
request_data (asks.StartService intent) = with_one (codes "intent") (intent_data intent)
request_data (asks.StopService component) = with_one (codes "component") (component_data component)
request_data asks.Services = object no_members
request_data (asks.Send intent permission ordered) = send_data intent permission ordered
request_data (asks.Register filter permission) = register_data filter permission
request_data (asks.Unregister number) = with_one (codes "number") (natural number)
request_data asks.Inbox = object no_members
request_data (asks.Finish delivery answer) = finish_data delivery answer
request_data (asks.PendingGet kind code intent flags) = get_data kind code intent flags
request_data (asks.PendingSend token fill) = pending_send_data token fill
request_data (asks.PendingCancel token) = with_one (codes "token") (natural token)
request_data (asks.PendingGive token name) = with_two (codes "package") (string name) (codes "token") (natural token)
request_data (asks.Install text key) = with_two (codes "key") (string key) (codes "manifest") (string text)
request_data (asks.Uninstall name) = with_one (codes "package") (string name)
request_data (asks.Grant name permission held) = grant_data name permission held
request_data (asks.Link name host approved) = link_data name host approved
request_data (asks.ForceStop name) = with_one (codes "package") (string name)
request_data asks.Tick = object no_members
request_data (asks.Advance by) = with_one (codes "by") (natural by)
request_data (asks.History from) = with_one (codes "from") (natural from)
request_data asks.Status = object no_members
