-- A request that some body is read as is read of what is written for it.
use Rattle.std.proofs.Common.{◌≡◌, ℕ, ◌≤◌, cond, List, Option, Some, None, Ok, Err, String, Global, string_bytes, refl, sym, ap, ◌∙◌, subst}
use Rattle.std.specs.Prelude.{codes}
use Rattle.std.specs.Str.{IsUtf8, is_utf8}
use Rattle.std.proofs.lemmas.Str.{is_utf8-from_IsUtf8, IsUtf8-string_bytes}
use Rattle.serde_json.specs.Data.{Data, string, depth}
use Rattle.serde_json.specs.Read.{max_depth, read}
use Rattle.am_types.specs.Bounds.{longest_manifest}
use Rattle.am_types.specs.declared.request.Request.{Request}
use Rattle.am_types.specs.declared.request.Request.TheVariants as asks
use Rattle.am_wire_fields.specs.declared.fault.WireFault.TheVariants.{NotJson}
use Rattle.am_wire_fields.specs.Bodies.{json_of, value_of}
use Rattle.am_wire.specs.Activities.{greatest_advance, advance_in, query_in, start_in, start_service_in, stop_service_in}
use Rattle.am_wire.specs.Packages.{install_in, package_in, right_in, grant_in}
use Rattle.am_wire.specs.Pendings.{pending_send_in, pending_give_in}
use Rattle.am_wire_routes.specs.Table.{endpoint_for}
use Rattle.am_wire.specs.Requests.{request_in, posted, request_of}
use Rattle.am_wire_values.specs.Requests.{with_one, query_data, start_data, pending_send_data, grant_data, request_data}
use Rattle.am_wire_read_back.specs.Written.{IsReadable, HasFewRows}
use Rattle.am_wire_read_back.proofs.Accounts.{explain_again}
use Rattle.am_wire_read_back.proofs.Activities.{plain_again, kind_part, made_again, numbered}
use Rattle.am_wire_read_back.proofs.Broadcasts.{send_again, finish_again}
use Rattle.am_wire_read_back.proofs.Depths.{request_within}
use Rattle.am_wire_read_back.proofs.Filters.{register_again}
use Rattle.am_wire_read_back.proofs.Kept.{IsKept, kept_read}
use Rattle.am_wire_read_back.proofs.Packages.{key_part, package_again, link_again}
use Rattle.am_wire_read_back.proofs.Parts as parts
use Rattle.am_wire_read_back.proofs.Pendings.{pending_get_again}
use Rattle.am_wire_read_back.proofs.Steps.{step, steps, same_ok}
use Rattle.am_wire_read_back.proofs.Texts.{if_read}

-- a request that was read of a value is read of its own value
value_again : (value : Data) (r : Request) → IsKept value → HasFewRows r → request_in (endpoint_for r) value ≡ Ok r
    → request_in (endpoint_for r) (request_data r) ≡ Ok r
unfolding request_in advance_in query_in start_in start_service_in stop_service_in install_in right_in grant_in
    pending_send_in pending_give_in query_data start_data pending_send_data grant_data request_data
value_again value (asks.Query kind intent default_only) k few h =
    parts.three_again kind_part (parts.intent (codes "intent")) (parts.truth_or_false (codes "defaultOnly")) asks.Query
    (λ x y z. ((refl, refl, refl), refl, refl, refl)) value (asks.Query kind intent default_only) k h
value_again value (asks.Explain kind intent caller permission shown) k few h = explain_again value
    (asks.Explain kind intent caller permission shown) k h
value_again value (asks.Start intent source) k few h =
    parts.two_again (parts.intent (codes "intent")) (parts.number_if (codes "source")) asks.Start
    (λ x y. ((refl, refl, refl), refl, refl)) value (asks.Start intent source) k h
value_again value (asks.FinishActivity instance) k few h = numbered (codes "instance") asks.FinishActivity
    (λ n. (refl, refl, refl)) value (asks.FinishActivity instance) k h
value_again value asks.Back k few h = plain_again asks.Back
value_again value asks.ListTasks k few h = refl
value_again value (asks.StartService intent) k few h =
    parts.one_again (parts.intent (codes "intent")) asks.StartService (λ x. ((refl, refl, refl), refl)) value
    (asks.StartService intent) k h
value_again value (asks.StopService component) k few h =
    parts.one_again (parts.component (codes "component")) asks.StopService (λ x. ((refl, refl, refl), refl)) value
    (asks.StopService component) k h
value_again value asks.Services k few h = refl
value_again value (asks.Send intent permission ordered) k few h = send_again value (asks.Send intent permission ordered)
    k h
value_again value (asks.Register filter permission) k few h = register_again value (asks.Register filter permission) k h
    few
value_again value (asks.Unregister registered) k few h = numbered (codes "number") asks.Unregister
    (λ n. (refl, refl, refl)) value (asks.Unregister registered) k h
value_again value asks.Inbox k few h = refl
value_again value (asks.Finish delivery answer) k few h = finish_again value (asks.Finish delivery answer) k h
value_again value (asks.PendingGet kind code intent flags) k few h = pending_get_again value
    (asks.PendingGet kind code intent flags) k h
value_again value (asks.PendingSend token fill) k few h =
    parts.two_again (parts.number (codes "token")) (parts.intent_if (codes "fill")) asks.PendingSend
    (λ x y. ((refl, refl, refl), refl, refl)) value (asks.PendingSend token fill) k h
value_again value (asks.PendingCancel token) k few h = numbered (codes "token") asks.PendingCancel
    (λ n. (refl, refl, refl)) value (asks.PendingCancel token) k h
value_again value (asks.PendingGive token name) k few h =
    parts.two_again (parts.number (codes "token")) (parts.text 1024 (codes "package")) asks.PendingGive
    (λ x y. ((refl, refl, refl), refl, refl)) value (asks.PendingGive token name) k h
value_again value (asks.Install text key) k few h =
    parts.two_again (parts.text longest_manifest (codes "manifest")) key_part asks.Install
    (λ x y. ((refl, refl, refl), refl, refl)) value (asks.Install text key) k h
value_again value (asks.Uninstall name) k few h =
    made_again package_in (λ name. with_one (codes "package") (string name)) package_again asks.Uninstall (λ name. refl)
    value (asks.Uninstall name) k h
value_again value (asks.Grant name permission held) k few h =
    parts.three_again (parts.text 1024 (codes "package")) (parts.text 1024 (codes "permission"))
    (parts.truth (codes "held")) asks.Grant (λ x y z. ((refl, refl, refl), refl, refl, refl)) value
    (asks.Grant name permission held) k h
value_again value (asks.Link name host approved) k few h = link_again value (asks.Link name host approved) k h
value_again value (asks.ForceStop name) k few h =
    made_again package_in (λ name. with_one (codes "package") (string name)) package_again asks.ForceStop (λ name. refl)
    value (asks.ForceStop name) k h
value_again value asks.Tick k few h = plain_again asks.Tick
value_again value (asks.Advance by) k few h =
    parts.one_again (parts.number_up_to greatest_advance (codes "by")) asks.Advance (λ x. ((refl, refl, refl), refl))
    value (asks.Advance by) k h
value_again value (asks.History from) k few h = numbered (codes "from") asks.History (λ n. (refl, refl, refl)) value
    (asks.History from) k h
value_again value asks.Status k few h = refl

json_is : (o : Option Data) (value : Data) → json_of o ≡ Ok value → o ≡ Some value
unfolding json_of
json_is None value h = absurd (cc)
json_is (Some said) value h = ap Some (same_ok said value h)

-- the value of a body is what its text reads as
body_kept : (body : List ℕ) (value : Data) → value_of body ≡ Ok value → IsKept value
unfolding value_of
body_kept body value h = let good = if_read (is_utf8 body) (json_of (read body)) NotJson value h in kept_read body value
    (json_is (read body) value good.1)

-- a text that reads as a value is a body of it
value_is : (text : List ℕ) (value : Data) → IsUtf8 text → read text ≡ Some value → value_of text ≡ Ok value
unfolding value_of json_of
value_is text value utf8 h = ap (λ b. cond b (json_of (read text)) (Err NotJson)) (is_utf8-from_IsUtf8 text utf8)
    ∙ ap json_of h

posted_again : (body text : List ℕ) (r : Request) → posted (endpoint_for r) body ≡ Ok r → HasFewRows r → IsUtf8 text
    → read text ≡ Some (request_data r) → posted (endpoint_for r) text ≡ Ok r
unfolding posted
posted_again body text r h few utf8 is =
    let one = step (value_of body) (request_in (endpoint_for r)) r h in
    steps (value_of text) (request_in (endpoint_for r)) (request_data r) r (value_is text (request_data r) utf8 is)
    (value_again one.value r (body_kept body one.value one.first) few one.later)

-- a readable request is read of the text of its value
pub read_back : (text : List ℕ) (r : Request) → IsUtf8 text → read text ≡ Some (request_data r) → IsReadable r
    → HasFewRows r → request_of (endpoint_for r) text ≡ Ok r
unfolding request_of
read_back text asks.ListTasks utf8 is h few = refl
read_back text asks.Services utf8 is h few = refl
read_back text asks.Inbox utf8 is h few = refl
read_back text asks.Status utf8 is h few = refl
read_back text r utf8 is h few = posted_again h.0 text r h.1 few utf8 is

-- and so it is if the text is that of a value which is the request's
pub text_read_back : (text : String Global) (value : Data) (r : Request) → value ≡ request_data r
    → (depth value ≤ max_depth → read (string_bytes text) ≡ Some value) → IsReadable r → HasFewRows r
    → request_of (endpoint_for r) (string_bytes text) ≡ Ok r
text_read_back text value r is reads h few =
    let P : Data → Type 0 = λ d. depth d ≤ max_depth in
    read_back (string_bytes text) r (IsUtf8-string_bytes text) (reads (subst P (sym is) (request_within r))
    ∙ ap Some is) h few
