-- The request that a body makes at a route, or the first fault of the body.
use Rattle.std.specs.Prelude.{ℕ, List, codes, Result, Ok}
use Rattle.serde_json.specs.Data.{Data}
use Rattle.am_types.specs.declared.request.Request.{Request}
use Rattle.am_types.specs.declared.request.Request.TheVariants as asks
use Rattle.am_wire_routes.specs.declared.endpoint.Endpoint.{Endpoint}
use Rattle.am_wire_routes.specs.declared.endpoint.Endpoint.TheVariants as at
use Rattle.am_wire_fields.specs.declared.fault.WireFault.{WireFault}
use Rattle.am_wire_fields.specs.Bodies.{value_of}
use Rattle.am_types.specs.Reading.{◌>>=◌}
use Rattle.am_wire.specs.Activities.{plain_in, number_in, advance_in, query_in, start_in, start_service_in, stop_service_in}
use Rattle.am_wire.specs.Accounts.{explain_in}
use Rattle.am_wire.specs.Broadcasts.{send_in, register_in, finish_in}
use Rattle.am_wire.specs.Pendings.{pending_get_in, pending_send_in, pending_give_in}
use Rattle.am_wire.specs.Packages.{install_in, package_in, grant_in, link_in}

-- the request that a JSON value makes at a route; at a route with GET the value isn't looked at
unfoldable pub request_in : Endpoint → Data → Result Request WireFault
request_in at.Query body = query_in body
request_in at.Explain body = explain_in body
request_in at.Start body = start_in body
request_in at.FinishActivity body = number_in (codes "instance") body >>= λ instance. Ok (asks.FinishActivity instance)
request_in at.Back body = plain_in asks.Back body
request_in at.ListTasks body = Ok asks.ListTasks
request_in at.StartService body = start_service_in body
request_in at.StopService body = stop_service_in body
request_in at.Services body = Ok asks.Services
request_in at.Send body = send_in body
request_in at.Register body = register_in body
request_in at.Unregister body = number_in (codes "number") body >>= λ number. Ok (asks.Unregister number)
request_in at.Inbox body = Ok asks.Inbox
request_in at.Finish body = finish_in body
request_in at.PendingGet body = pending_get_in body
request_in at.PendingSend body = pending_send_in body
request_in at.PendingCancel body = number_in (codes "token") body >>= λ token. Ok (asks.PendingCancel token)
request_in at.PendingGive body = pending_give_in body
request_in at.Install body = install_in body
request_in at.Uninstall body = package_in body >>= λ name. Ok (asks.Uninstall name)
request_in at.Grant body = grant_in body
request_in at.Link body = link_in body
request_in at.ForceStop body = package_in body >>= λ name. Ok (asks.ForceStop name)
request_in at.Tick body = plain_in asks.Tick body
request_in at.Advance body = advance_in body
request_in at.History body = number_in (codes "from") body >>= λ from. Ok (asks.History from)
request_in at.Status body = Ok asks.Status

-- the request that the bytes of a body make through their JSON value
unfoldable pub posted : Endpoint → List ℕ → Result Request WireFault
posted endpoint body = do
  value ← value_of body
  request_in endpoint value

-- the request that a body makes at a route; the body of a GET isn't looked at
unfoldable pub request_of : Endpoint → List ℕ → Result Request WireFault
request_of at.ListTasks body = Ok asks.ListTasks
request_of at.Services body = Ok asks.Services
request_of at.Inbox body = Ok asks.Inbox
request_of at.Status body = Ok asks.Status
request_of endpoint body = posted endpoint body
