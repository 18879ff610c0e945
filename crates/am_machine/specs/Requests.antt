-- Packed requests, and the requests that they are.
use Rattle.std.specs.Prelude.{Some, None}
use Rattle.am_types.specs.declared.request.Request.{Request}
use Rattle.am_types.specs.declared.request.Request.TheVariants as asks
use Rattle.am_machine.specs.declared.packed.Packed.{Packed}
use Rattle.am_machine.specs.declared.packed.Packed.TheVariants as packed
use Rattle.am_packed.specs.Forms.{◌and◌}
use Rattle.am_packed.specs.Parts.{value_of}
use Rattle.am_packed.specs.Numbers.{number, flag, whole}
use Rattle.am_packed.specs.Texts.{text}
use Rattle.am_packed.specs.Lists.{option_of}
use Rattle.am_packed.specs.Intents.{kind_form, component_form, intent_form, pending_flags_form}
use Rattle.am_packed.specs.Filters.{filter_form}
use Rattle.am_packed.specs.Outcomes.{outcome_form, ordered_form}

-- the request of each packed one
abbrev pub request_of : Packed → Request
request_of (packed.Query bytes) =
    let x = value_of (kind_form and intent_form and flag) bytes.items in asks.Query x.0 x.1.0 x.1.1
request_of (packed.Explain bytes) =
    let x =
    value_of (kind_form and intent_form and option_of text and option_of text and option_of text) bytes.items in
    asks.Explain x.0 x.1.0 x.1.1.0 x.1.1.1.0 x.1.1.1.1
request_of (packed.Start bytes) =
    let x = value_of (intent_form and option_of number) bytes.items in asks.Start x.0 x.1
request_of (packed.FinishActivity instance) = asks.FinishActivity instance
request_of packed.Back = asks.Back
request_of packed.ListTasks = asks.ListTasks
request_of (packed.StartService bytes) = asks.StartService (value_of intent_form bytes.items)
request_of (packed.StopService bytes) = asks.StopService (value_of component_form bytes.items)
request_of packed.Services = asks.Services
request_of (packed.Send bytes) =
    let x = value_of (intent_form and option_of text and option_of ordered_form) bytes.items in
    asks.Send x.0 x.1.0 x.1.1
request_of (packed.Register bytes) =
    let x = value_of (filter_form and option_of text) bytes.items in asks.Register x.0 x.1
request_of (packed.Unregister n) = asks.Unregister n
request_of packed.Inbox = asks.Inbox
request_of (packed.Finish delivery abort) = asks.Finish delivery (record { set = None; abort = abort })
request_of (packed.FinishWith bytes) =
    let x = value_of (number and outcome_form and flag) bytes.items in
    asks.Finish x.0 (record { set = Some x.1.0; abort = x.1.1 })
request_of (packed.PendingGet bytes) =
    let x = value_of (kind_form and whole and intent_form and pending_flags_form) bytes.items in
    asks.PendingGet x.0 x.1.0 x.1.1.0 x.1.1.1
request_of (packed.PendingSend bytes) =
    let x = value_of (number and option_of intent_form) bytes.items in asks.PendingSend x.0 x.1
request_of (packed.PendingCancel token) = asks.PendingCancel token
request_of (packed.PendingGive bytes) = let x = value_of (number and text) bytes.items in asks.PendingGive x.0 x.1
request_of (packed.Install bytes) = let x = value_of (text and text) bytes.items in asks.Install x.0 x.1
request_of (packed.Uninstall bytes) = asks.Uninstall (value_of text bytes.items)
request_of (packed.Grant bytes) =
    let x = value_of (text and text and flag) bytes.items in asks.Grant x.0 x.1.0 x.1.1
request_of (packed.Link bytes) =
    let x = value_of (text and text and flag) bytes.items in asks.Link x.0 x.1.0 x.1.1
request_of (packed.ForceStop bytes) = asks.ForceStop (value_of text bytes.items)
request_of packed.Tick = asks.Tick
request_of (packed.Advance by) = asks.Advance by
request_of (packed.History from) = asks.History from
request_of packed.Status = asks.Status
