-- The endpoints of the interface: the path and the method of each, which endpoint a method and a target ask for, and
-- the endpoint of each request.
use Rattle.std.specs.Prelude.{ℕ, List, [], ◌∷◌, Bool, Option, None, Some, Result, Ok, Err, codes, bytes_eq, ◌==◌, if◌then◌else◌}
use Rattle.std.specs.List.{before_first, find}
use Rattle.am_types.specs.declared.request.Request.{Request}
use Rattle.am_types.specs.declared.request.Request.TheVariants as asks
use Rattle.am_wire_routes.specs.declared.endpoint.Endpoint.{Endpoint}
use Rattle.am_wire_routes.specs.declared.endpoint.Endpoint.TheVariants as at
use Rattle.am_wire_routes.specs.declared.routes.RouteFault.{RouteFault}
use Rattle.am_wire_routes.specs.declared.routes.RouteFault.TheVariants.{NoRoute, NoMethod}

-- a request's method and path
pub record Line : Type 0 where
  pub method : List ℕ
  pub path : List ℕ

-- a request with GET
abbrev pub get : List ℕ → Line
get path = record { method = codes "GET"; path = path }

-- a request with POST
abbrev pub post : List ℕ → Line
post path = record { method = codes "POST"; path = path }

-- the method and the path of each request
abbrev pub line_of : Endpoint → Line
line_of at.Query = post (codes "/v1/query")
line_of at.Explain = post (codes "/v1/explain")
line_of at.Start = post (codes "/v1/start")
line_of at.FinishActivity = post (codes "/v1/finish_activity")
line_of at.Back = post (codes "/v1/back")
line_of at.ListTasks = get (codes "/v1/tasks")
line_of at.StartService = post (codes "/v1/start_service")
line_of at.StopService = post (codes "/v1/stop_service")
line_of at.Services = get (codes "/v1/services")
line_of at.Send = post (codes "/v1/send")
line_of at.Register = post (codes "/v1/register")
line_of at.Unregister = post (codes "/v1/unregister")
line_of at.Inbox = get (codes "/v1/inbox")
line_of at.Finish = post (codes "/v1/finish")
line_of at.PendingGet = post (codes "/v1/pending/get")
line_of at.PendingSend = post (codes "/v1/pending/send")
line_of at.PendingCancel = post (codes "/v1/pending/cancel")
line_of at.PendingGive = post (codes "/v1/pending/give")
line_of at.Install = post (codes "/v1/install")
line_of at.Uninstall = post (codes "/v1/uninstall")
line_of at.Grant = post (codes "/v1/grant")
line_of at.Link = post (codes "/v1/link")
line_of at.ForceStop = post (codes "/v1/force_stop")
line_of at.Tick = post (codes "/v1/tick")
line_of at.Advance = post (codes "/v1/advance")
line_of at.History = post (codes "/v1/history")
line_of at.Status = get (codes "/v1/status")

-- the path of a request
abbrev pub path_of : Endpoint → List ℕ
path_of endpoint = (line_of endpoint).path

-- the method of a request
abbrev pub method_of : Endpoint → List ℕ
method_of endpoint = (line_of endpoint).method

-- every request
abbrev pub endpoints : List Endpoint
endpoints =
    at.Query ∷ at.Explain ∷ at.Start ∷ at.FinishActivity ∷ at.Back ∷ at.ListTasks ∷ at.StartService ∷ at.StopService
    ∷ at.Services ∷ at.Send ∷ at.Register ∷ at.Unregister ∷ at.Inbox ∷ at.Finish ∷ at.PendingGet ∷ at.PendingSend
    ∷ at.PendingCancel ∷ at.PendingGive ∷ at.Install ∷ at.Uninstall ∷ at.Grant ∷ at.Link ∷ at.ForceStop ∷ at.Tick
    ∷ at.Advance ∷ at.History ∷ at.Status ∷ []

-- the request's path is this one
abbrev pub is_at : List ℕ → Endpoint → Bool
is_at path endpoint = bytes_eq (path_of endpoint) path

-- which of these requests has the path
abbrev pub found_at : List Endpoint → List ℕ → Option Endpoint
found_at those path = find (is_at path) those

-- which request has the path
unfoldable pub endpoint_at : List ℕ → Option Endpoint
endpoint_at path = found_at endpoints path

-- the question mark, which starts a target's query
abbrev pub question_mark : ℕ
question_mark = 63

-- the path of a target: everything before the first question mark
abbrev pub path_in : List ℕ → List ℕ
path_in target = before_first (λ b. b == question_mark) target

-- a request at its path is asked for only with its own method
abbrev pub asked : List ℕ → Option Endpoint → Result Endpoint RouteFault
asked method None = Err NoRoute
asked method (Some endpoint) = if bytes_eq method (method_of endpoint) then Ok endpoint else Err (NoMethod endpoint)

-- which request the method and the target ask for
abbrev pub endpoint_of : List ℕ → List ℕ → Result Endpoint RouteFault
endpoint_of method target = asked method (endpoint_at (path_in target))

-- the endpoint for a request
abbrev pub endpoint_for : Request → Endpoint
endpoint_for (asks.Query kind intent default_only) = at.Query
endpoint_for (asks.Explain kind intent caller permission shown) = at.Explain
endpoint_for (asks.Start intent source) = at.Start
endpoint_for (asks.FinishActivity instance) = at.FinishActivity
endpoint_for asks.Back = at.Back
endpoint_for asks.ListTasks = at.ListTasks
endpoint_for (asks.StartService intent) = at.StartService
endpoint_for (asks.StopService component) = at.StopService
endpoint_for asks.Services = at.Services
endpoint_for (asks.Send intent permission ordered) = at.Send
endpoint_for (asks.Register filter permission) = at.Register
endpoint_for (asks.Unregister number) = at.Unregister
endpoint_for asks.Inbox = at.Inbox
endpoint_for (asks.Finish delivery answer) = at.Finish
endpoint_for (asks.PendingGet kind code intent flags) = at.PendingGet
endpoint_for (asks.PendingSend token fill) = at.PendingSend
endpoint_for (asks.PendingCancel token) = at.PendingCancel
endpoint_for (asks.PendingGive token «package») = at.PendingGive
endpoint_for (asks.Install text key) = at.Install
endpoint_for (asks.Uninstall «package») = at.Uninstall
endpoint_for (asks.Grant «package» permission held) = at.Grant
endpoint_for (asks.Link «package» host approved) = at.Link
endpoint_for (asks.ForceStop «package») = at.ForceStop
endpoint_for asks.Tick = at.Tick
endpoint_for (asks.Advance by) = at.Advance
endpoint_for (asks.History from) = at.History
endpoint_for asks.Status = at.Status
