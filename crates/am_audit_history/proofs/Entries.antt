-- What the value of an entry says, and its text.
use Rattle.std.proofs.Common.{◌≡◌, ℕ, ◌≤◌, Bool, true, false, ◌||◌, cond, List, Option, Some, None, Ok, Err, String, Global, string_bytes, refl, sym, ap, ◌∙◌, subst, arith}
use Rattle.std.specs.Prelude.{codes, option_and_then, IfOk, Result}
use Rattle.std.specs.Str.{IsUtf8}
use Rattle.std.proofs.lemmas.Str.{is_utf8-from_IsUtf8, IsUtf8-string_bytes}
use Rattle.serde_json.specs.Data.{Data, depth, string}
use Rattle.serde_json.specs.Find.{as_str, get}
use Rattle.serde_json.specs.Read.{max_depth, read}
use Rattle.serde_json.specs.Written.{compact_text, has_float}
use Rattle.am_types.specs.declared.history.Entry.{Entry}
use Rattle.am_types.specs.declared.request.Request.{Request}
use Rattle.am_wire_fields.specs.declared.fault.WireFault.{WireFault}
use Rattle.am_wire_fields.specs.declared.fault.WireFault.TheVariants.{NotJson}
use Rattle.am_wire_fields.specs.Bodies.{json_of, value_of}
use Rattle.am_wire_routes.specs.Table.{endpoint_for, path_of}
use Rattle.am_wire_values.proofs.Floats.{request_none}
use Rattle.am_wire_values.specs.Replies.{entry_data}
use Rattle.am_wire_values.specs.Requests.{request_data}
use Rattle.am_types.specs.declared.failure.NoMemory.{NoMemory}
use Rattle.am_wire.specs.Requests.{request_of}
use Rattle.am_wire_routes.specs.declared.endpoint.Endpoint.{Endpoint}
use Rattle.am_wire_read_back.specs.Written.{HasFewRows}
use Rattle.am_audit_history.specs.Lines.{IsReadAgain, IsTextOf, number_in}
use Rattle.am_wire_read_back.proofs.Depths.{shallow}

-- the value says the fields of the entry
pub record Says (value : Data) (e : Entry) : Type 0 where
  pub desk : number_in (codes "desk") value ≡ Some e.desk
  pub uid : number_in (codes "uid") value ≡ Some e.uid
  pub now : number_in (codes "now") value ≡ Some e.now
  pub weight : number_in (codes "weight") value ≡ Some e.weight
  pub route : get (codes "route") value ≡ Some (string (path_of (endpoint_for e.request)))
  pub request : get (codes "request") value ≡ Some (request_data e.request)

pub says : (at : ℕ) (e : Entry) → Says (entry_data at e) e
unfolding entry_data
says at e = record { desk = refl; uid = refl; now = refl; weight = refl; route = refl; request = refl }

-- it has no float, and nests at most five deep
either_none : (b : Bool) → b ≡ false → b || false ≡ false
either_none true is = is
either_none false is = refl

pub no_float : (at : ℕ) (e : Entry) → has_float (entry_data at e) ≡ false
unfolding entry_data
no_float at e = either_none (has_float (request_data e.request)) (request_none e.request)

pub nests : (at : ℕ) (e : Entry) → depth (entry_data at e) ≤ max_depth
unfolding entry_data
nests at e = omega (arith, shallow e.request)

-- a text that reads as a value is that value's
value_is : (text : List ℕ) (value : Data) → IsUtf8 text → read text ≡ Some value → value_of text ≡ Ok value
unfolding value_of json_of
value_is text value utf8 h = ap (λ b. cond b (json_of (read text)) (Err NotJson)) (is_utf8-from_IsUtf8 text utf8)
    ∙ ap json_of h

-- the text that is written for an entry's value is the entry's
pub written_is : (text : String Global) (value : Data) (at : ℕ) (e : Entry) → value ≡ entry_data at e
    → (has_float value ≡ false → string_bytes text ≡ compact_text value)
    → (depth value ≤ max_depth → read (string_bytes text) ≡ Some value)
    → IsTextOf at e (string_bytes text)
written_is text value at e is compact reads =
    let P : Data → Type 0 = λ d. depth d ≤ max_depth in
    record {
      value = value_is (string_bytes text) (entry_data at e) (IsUtf8-string_bytes text)
          (reads (subst P (sym is) (nests at e)) ∙ ap Some is);
      compact = compact (ap has_float is ∙ no_float at e) ∙ ap compact_text is;
    }

-- a request that is read again is read of the text of its value
reread : (endpoint : Endpoint) (text : List ℕ) (value : Data) (request : Request) → endpoint ≡ endpoint_for request
    → value ≡ request_data request
    → IsReadAgain request → (has_float value ≡ false → text ≡ compact_text value)
    → (request_of endpoint text ≡ Ok request) × (text ≡ compact_text (request_data request))
reread endpoint text value request at is again compact =
    let own : text ≡ compact_text (request_data request) = compact (ap has_float is ∙ request_none request)
    ∙ ap compact_text is in
    (ap (λ e. request_of e text) at ∙ ap (request_of (endpoint_for request)) own ∙ again.again, own)

-- so what is found where it was read is that request
pub found_is : (endpoint : Endpoint) (text : List ℕ) (value : Data) (read request : Request)
    (result : Result (Option Request) NoMemory)
    → endpoint ≡ endpoint_for request → value ≡ request_data request → IsReadAgain request
    → (has_float value ≡ false → text ≡ compact_text value)
    → request_of endpoint text ≡ Ok read
    → (text ≡ compact_text (request_data read) → HasFewRows read → IfOk result (λ found. found ≡ Some read))
    → IfOk result (λ found. found ≡ Some request)
found_is endpoint text value read request result at is again compact reads finds =
    let both = reread endpoint text value request at is again compact in
    let same : read ≡ request = ok_is (sym reads ∙ both.0) in
    let P : Request → Type 0 = λ r. IfOk result (λ found. found ≡ Some r) in
    subst P same (finds (both.1 ∙ ap (λ r. compact_text (request_data r)) (sym same))
    (subst HasFewRows (sym same) again.few))
  where
    ok_is : {x y : Request} → ◌≡◌ {A = Result Request WireFault} (Ok x) (Ok y) → x ≡ y
    ok_is e = cc

-- and it is read
pub not_refused : (endpoint : Endpoint) (text : List ℕ) (value : Data) (request : Request) (fault : WireFault)
    → endpoint ≡ endpoint_for request → value ≡ request_data request → IsReadAgain request
    → (has_float value ≡ false → text ≡ compact_text value)
    → request_of endpoint text ≡ Err fault → ⊥
not_refused endpoint text value request fault at is again compact fails =
    let both = reread endpoint text value request at is again compact in
    let no : Ok request ≡ Err fault = sym both.0 ∙ fails in
    cc

-- the route that the value of an entry says, and its request
pub route_said : (value : Data) (at : ℕ) (e : Entry) → value ≡ entry_data at e
    → option_and_then as_str (get (codes "route") value) ≡ Some (path_of (endpoint_for e.request))
route_said value at e is = ap (λ v. option_and_then as_str (get (codes "route") v)) is
    ∙ ap (option_and_then as_str) (says at e).route

pub request_said : (value : Data) (at : ℕ) (e : Entry) → value ≡ entry_data at e → get (codes "request") value
    ≡ Some (request_data e.request)
request_said value at e is = ap (get (codes "request")) is ∙ (says at e).request

pub some_is : {A : Type 0} {x y : A} → ◌≡◌ {A = Option A} (Some x) (Some y) → x ≡ y
some_is e = cc

pub none_is_some : {A : Type 0} {x : A} → ◌≡◌ {A = Option A} None (Some x) → ⊥
none_is_some e = cc
