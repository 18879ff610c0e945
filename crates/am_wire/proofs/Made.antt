-- A request that is read is asked at the endpoint at which it is read; a key in it is an access key, and a link's host
-- in lower case.
use Rattle.std.proofs.Common.{◌≡◌, ℕ, ◌==◌, Bool, true, false, List, [], ◌∷◌, refl, ap, ◌∙◌, subst, IsTrue}
use Rattle.std.specs.Prelude.{IfOk, Result, Ok, Err, Option, Some, None, codes, nat_lt, length, if◌then◌else◌}
use Rattle.std.specs.Char.{to_ascii_lowercase}
use Rattle.std.proofs.lemmas.Str.Ascii.{lowercase-lowercase}
use Rattle.serde_json.specs.Data.{Data}
use Rattle.serde_json.specs.Find.{as_str}
use Rattle.am_types.specs.Bounds.{longest_manifest}
use Rattle.am_types.specs.declared.request.Request.{Request}
use Rattle.am_types.specs.declared.request.Request.TheVariants as asks
use Rattle.am_types.specs.Reading.{◌>>=◌}
use Rattle.am_model.specs.Sound.{is_access_key, is_visible}
use Rattle.am_model.specs.Texts.{lowered}
use Rattle.am_uri.specs.declared.text.Form.TheVariants.{Any}
use Rattle.am_wire_routes.specs.declared.endpoint.Endpoint.{Endpoint}
use Rattle.am_wire_routes.specs.declared.endpoint.Endpoint.TheVariants as at
use Rattle.am_wire_routes.specs.Table.{endpoint_for}
use Rattle.am_wire_fields.specs.declared.fault.WireFault.{WireFault}
use Rattle.am_wire_fields.specs.declared.fault.WireFault.TheVariants.{WrongKind, TooLong}
use Rattle.am_wire_fields.specs.Bodies.{value_of}
use Rattle.am_wire_fields.specs.Fields.{required, required_by, required_truth, optional_truth}
use Rattle.am_wire_fields.specs.Numbers.{required_natural, required_up_to, required_whole, optional_natural}
use Rattle.am_wire_fields.specs.Texts.{required_text, optional_text}
use Rattle.am_wire_intents.specs.Components.{component_in}
use Rattle.am_wire_intents.specs.Intents.{required_intent, optional_intent}
use Rattle.am_wire.specs.Accounts.{asks_receivers, explain_fields, permission_for, asked_with, explain_in}
use Rattle.am_wire.specs.Activities.{fields_of, two_in, number_in, greatest_advance, advance_in, query_in, start_in, start_service_in, stop_service_in, plain_in}
use Rattle.am_wire.specs.Broadcasts.{is_ordered, send_fields, ordered_if, sets_outcome, finish_fields, outcome_if, send_in, sent_with, required_filter, register_in, finish_in}
use Rattle.am_wire.specs.Pendings.{pending_get_in, pending_send_in, pending_give_in}
use Rattle.am_wire.specs.Packages.{package_in, key_of, key_in, install_in, right_in, grant_in, link_in}
use Rattle.am_wire.specs.Words.{kind_of, pending_kind_of, pending_flags_of}
use Rattle.am_wire.specs.Requests.{request_of, request_in, posted}

-- an installation has an access key, and a link a host in lower case
abbrev pub HasForm : Request → Type 0
HasForm (asks.Install text key) = IsTrue (is_access_key key)
HasForm (asks.Link name host approved) = lowered host ≡ host
HasForm _ = Unit {0}

-- the request is asked at that endpoint and has its form
abbrev pub IsMade : Endpoint → Request → Type 0
IsMade endpoint request = (endpoint_for request ≡ endpoint) × HasForm request

-- a request that is made of a value that is read is made so, if what each value makes is
bound : {A : Type 0} (endpoint : Endpoint) (read : Result A WireFault) (next : A → Result Request WireFault)
    → ((x : A) → IfOk (next x) (IsMade endpoint))
    → IfOk (read >>= next) (IsMade endpoint)
bound endpoint (Ok x) next h = h x
bound endpoint (Err fault) next h = tt

-- a request that is made of two fields, if what their values make is made so
two_is_made : {A B : Type 0} (endpoint : Endpoint) (first : List ℕ) (read_first : List ℕ → Data → Result A WireFault)
    (second : List ℕ) (read_second : List ℕ → Data → Result B WireFault) (make : A → B → Request) (value : Data)
    → ((x : A) (y : B) → IsMade endpoint (make x y))
    → IfOk (two_in first read_first second read_second make value) (IsMade endpoint)
two_is_made endpoint first read_first second read_second make value made =
    bound endpoint (fields_of (first ∷ second ∷ []) value) _
    (λ known. bound endpoint (read_first first value) _
    (λ x. bound endpoint (read_second second value) _ (λ y. made x y)))

-- a request that gives or takes a right, if what the values of its fields make is made so
right_is_made : (endpoint : Endpoint) (text_name held_name : List ℕ) (make : List ℕ → List ℕ → Bool → Request)
    (value : Data) → ((name text : List ℕ) (held : Bool) → IsMade endpoint (make name text held))
    → IfOk (right_in text_name held_name make value) (IsMade endpoint)
unfolding right_in
right_is_made endpoint text_name held_name make value made =
    bound endpoint (fields_of (codes "package" ∷ text_name ∷ held_name ∷ []) value) _
    (λ known. bound endpoint (required_text Any 1024 (codes "package") value) _
    (λ name. bound endpoint (required_text Any 1024 text_name value) _
    (λ text. bound endpoint (required_truth held_name value) _ (λ held. made name text held))))

-- what is in lower case stays as it is
pub lowered_again : (text : List ℕ) → lowered (lowered text) ≡ lowered text
lowered_again [] = refl
lowered_again (b ∷ bytes) =
    ap (λ c. c ∷ lowered (lowered bytes)) (lowercase-lowercase b) ∙ ap (λ (cs : List ℕ). to_ascii_lowercase b ∷ cs)
    (lowered_again bytes)

-- a key that is read is an access key
key_is_access_key : (o : Option (List ℕ)) → IfOk (key_of o) (λ key. IsTrue (is_access_key key))
unfolding key_of
key_is_access_key None = tt
key_is_access_key (Some text) = by (length text == 0) (is_visible text) (nat_lt 255 (length text)) refl refl refl
  where
    by : (empty visible long : Bool) → (length text == 0) ≡ empty → is_visible text ≡ visible → nat_lt 255 (length text)
        ≡ long
        → IfOk (if empty then Err (WrongKind (codes "key"))
        else if visible then (if long then Err (TooLong (codes "key")) else Ok text)
        else Err (WrongKind (codes "key"))) (λ key. IsTrue (is_access_key key))
    by true visible long e v l = tt
    by false false long e v l = tt
    by false true true e v l = tt
    by false true false e v l =
        ap (λ b. if b then false else if nat_lt 255 (length text) then false else is_visible text) e
        ∙ ap (λ b. if b then false else is_visible text) l
        ∙ v

-- a key that is read, and then an installation with it
install_with_key : (text : List ℕ) (read : Result (List ℕ) WireFault) → IfOk read (λ key. IsTrue (is_access_key key))
    → IfOk (read >>= (λ key. Ok (asks.Install text key))) (IsMade at.Install)
install_with_key text (Err fault) is = tt
install_with_key text (Ok key) is = (refl, is)

-- an installation whose key is read of a field
install_is_made : (text : List ℕ) (read : Result Data WireFault)
    → IfOk ((read >>= (λ found. key_of (as_str found))) >>= (λ key. Ok (asks.Install text key))) (IsMade at.Install)
install_is_made text (Err fault) = tt
install_is_made text (Ok found) = install_with_key text (key_of (as_str found)) (key_is_access_key (as_str found))

-- the request that a JSON value makes at an endpoint
value_is_made : (endpoint : Endpoint) (value : Data) → IfOk (request_in endpoint value) (IsMade endpoint)
unfolding request_in advance_in query_in explain_in asked_with start_in plain_in start_service_in stop_service_in
    send_in sent_with register_in finish_in pending_get_in pending_send_in pending_give_in install_in key_in grant_in
    link_in
value_is_made at.Query value =
    bound at.Query (fields_of (codes "kind" ∷ codes "intent" ∷ codes "defaultOnly" ∷ []) value) _
    (λ x0. bound at.Query (kind_of value) _ (λ x1. bound at.Query (required_intent (codes "intent") value) _
    (λ x2. bound at.Query (optional_truth (codes "defaultOnly") value) _ (λ x3. (refl, tt)))))
value_is_made at.Explain value =
    bound at.Explain (fields_of (explain_fields (asks_receivers value)) value) _
    (λ x0. bound at.Explain (kind_of value) _ (λ x1. bound at.Explain (required_intent (codes "intent") value) _
    (λ x2. bound at.Explain (optional_text Any 1024 (codes "as") value) _
    (λ x3. bound at.Explain (permission_for x1 value) _ (λ x4. bound at.Explain
    (optional_text Any 1024 (codes "of") value) _ (λ x5. (refl, tt)))))))
value_is_made at.Start value =
    two_is_made at.Start (codes "intent") required_intent (codes "source") optional_natural asks.Start value
    (λ x y. (refl, tt))
value_is_made at.FinishActivity value =
    bound at.FinishActivity (number_in (codes "instance") value) _ (λ x0. (refl, tt))
value_is_made at.Back value = bound at.Back (fields_of [] value) _ (λ x0. (refl, tt))
value_is_made at.ListTasks value = (refl, tt)
value_is_made at.StartService value =
    bound at.StartService (fields_of (codes "intent" ∷ []) value) _
    (λ x0. bound at.StartService (required_intent (codes "intent") value) _ (λ x1. (refl, tt)))
value_is_made at.StopService value =
    bound at.StopService (fields_of (codes "component" ∷ []) value) _
    (λ x0. bound at.StopService (required_by component_in (codes "component") value) _ (λ x1. (refl, tt)))
value_is_made at.Services value = (refl, tt)
value_is_made at.Send value =
    bound at.Send (fields_of (send_fields (is_ordered value)) value) _
    (λ x0. bound at.Send (required_intent (codes "intent") value) _
    (λ x1. bound at.Send (optional_text Any 1024 (codes "permission") value) _
    (λ x2. bound at.Send (optional_truth (codes "ordered") value) _
    (λ x3. bound at.Send (ordered_if x3 value) _ (λ x4. (refl, tt))))))
value_is_made at.Register value =
    two_is_made at.Register (codes "filter") required_filter (codes "permission") (optional_text Any 1024)
    asks.Register value (λ x y. (refl, tt))
value_is_made at.Unregister value = bound at.Unregister (number_in (codes "number") value) _ (λ x0. (refl, tt))
value_is_made at.Inbox value = (refl, tt)
value_is_made at.Finish value =
    bound at.Finish (fields_of (finish_fields (sets_outcome value)) value) _
    (λ x0. bound at.Finish (required_natural (codes "delivery") value) _
    (λ x1. bound at.Finish (optional_truth (codes "abort") value) _
    (λ x2. bound at.Finish (outcome_if (sets_outcome value) value) _ (λ x3. (refl, tt)))))
value_is_made at.PendingGet value =
    bound at.PendingGet (fields_of (codes "kind" ∷ codes "code" ∷ codes "intent" ∷ codes "flags" ∷ []) value) _
    (λ x0. bound at.PendingGet (pending_kind_of value) _ (λ x1. bound at.PendingGet
    (required_whole (codes "code") value) _ (λ x2. bound at.PendingGet (required_intent (codes "intent") value) _
    (λ x3. bound at.PendingGet (pending_flags_of value) _ (λ x4. (refl, tt))))))
value_is_made at.PendingSend value =
    two_is_made at.PendingSend (codes "token") required_natural (codes "fill") optional_intent asks.PendingSend value
    (λ x y. (refl, tt))
value_is_made at.PendingCancel value = bound at.PendingCancel (number_in (codes "token") value) _ (λ x0. (refl, tt))
value_is_made at.PendingGive value =
    two_is_made at.PendingGive (codes "token") required_natural (codes "package") (required_text Any 1024)
    asks.PendingGive value (λ x y. (refl, tt))
value_is_made at.Install value =
    bound at.Install (fields_of (codes "manifest" ∷ codes "key" ∷ []) value) _
    (λ x0. bound at.Install (required_text Any longest_manifest (codes "manifest") value) _
    (λ x1. install_is_made x1 (required (codes "key") value)))
value_is_made at.Uninstall value = bound at.Uninstall (package_in value) _ (λ x0. (refl, tt))
value_is_made at.Grant value =
    right_is_made at.Grant (codes "permission") (codes "held") asks.Grant value (λ name permission held. (refl, tt))
value_is_made at.Link value =
    right_is_made at.Link (codes "host") (codes "approved") (λ name host approved. asks.Link name (lowered host) approved)
    value (λ name host approved. (refl, lowered_again host))
value_is_made at.ForceStop value = bound at.ForceStop (package_in value) _ (λ x0. (refl, tt))
value_is_made at.Tick value = bound at.Tick (fields_of [] value) _ (λ x0. (refl, tt))
value_is_made at.Advance value =
    bound at.Advance (fields_of (codes "by" ∷ []) value) _ (λ x0. bound at.Advance
    (required_up_to greatest_advance (codes "by") value) _ (λ x1. (refl, tt)))
value_is_made at.History value = bound at.History (number_in (codes "from") value) _ (λ x0. (refl, tt))
value_is_made at.Status value = (refl, tt)

-- the request that a body makes whose value is read
posted_is_made : (endpoint : Endpoint) (body : List ℕ) → IfOk (posted endpoint body) (IsMade endpoint)
unfolding posted
posted_is_made endpoint body = bound endpoint (value_of body) _ (λ value. value_is_made endpoint value)

-- the request that a body makes at an endpoint
pub body_is_made : (endpoint : Endpoint) (body : List ℕ) → IfOk (request_of endpoint body) (IsMade endpoint)
unfolding request_of
body_is_made at.ListTasks body = (refl, tt)
body_is_made at.Services body = (refl, tt)
body_is_made at.Inbox body = (refl, tt)
body_is_made at.Status body = (refl, tt)
body_is_made endpoint body = posted_is_made endpoint body

-- a request that was read
pub read_is_made : (endpoint : Endpoint) (body : List ℕ) (request : Request) → request_of endpoint body ≡ Ok request
    → IsMade endpoint request
read_is_made endpoint body request is =
    let P : Result Request WireFault → Type 0 = λ r. IfOk r (IsMade endpoint) in
    subst P is (body_is_made endpoint body)
