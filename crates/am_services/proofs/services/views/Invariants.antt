use Rattle.std.proofs.Common.{◌≡◌, take}
use Rattle.am_history.specs.Services.{services_of}
use Rattle.am_services.proofs.services.views.Given as goal

abbrev pub invariant-loop-service : goal.invariant-loop-service
invariant-loop-service l = l.shown.items ≡ services_of (take l.service-index l.running) l.caller
