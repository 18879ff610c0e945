-- Bodies with one field or none, queries, activities and services.
use Rattle.std.specs.Prelude.{ℕ, List, [], ◌∷◌, codes, Result, Ok}
use Rattle.serde_json.specs.Data.{Data}
use Rattle.am_types.specs.declared.request.Request.{Request}
use Rattle.am_types.specs.declared.request.Request.TheVariants as asks
use Rattle.am_wire_fields.specs.declared.fault.WireFault.{WireFault}
use Rattle.am_wire_fields.specs.Fields.{only_fields, optional_truth, required_by}
use Rattle.am_wire_fields.specs.Numbers.{required_natural, required_up_to, optional_natural}
use Rattle.am_types.specs.Reading.{◌>>=◌}
use Rattle.am_wire_intents.specs.Components.{component_in}
use Rattle.am_wire_intents.specs.Intents.{required_intent}
use Rattle.am_wire.specs.Words.{kind_of}

-- a body is an object with no other fields than these
unfoldable pub fields_of : List (List ℕ) → Data → Result (Unit {0}) WireFault
fields_of fields body = only_fields (codes "body") fields body

-- a request without fields
unfoldable pub plain_in : Request → Data → Result Request WireFault
plain_in request body = do
  known ← fields_of [] body
  Ok request

-- a body whose only field is a number from 0 on
unfoldable pub number_in : List ℕ → Data → Result ℕ WireFault
number_in name body = do
  known ← fields_of (name ∷ []) body
  required_natural name body

-- a body with only this field, and the request that its value makes
abbrev pub one_in : {A : Type 0} → List ℕ → (List ℕ → Data → Result A WireFault) → (A → Request) → Data
    → Result Request WireFault
one_in name read make body = do
  known ← fields_of (name ∷ []) body
  x ← read name body
  Ok (make x)

-- a body with only these two fields, which are read in this order, and the request that their values make
abbrev pub two_in : {A B : Type 0} → List ℕ → (List ℕ → Data → Result A WireFault) → List ℕ
    → (List ℕ → Data → Result B WireFault)
    → (A → B → Request) → Data → Result Request WireFault
two_in first read_first second read_second make body = do
  known ← fields_of (first ∷ second ∷ []) body
  x ← read_first first body
  y ← read_second second body
  Ok (make x y)

-- by how many milliseconds the moment is moved ahead at most: 2^50
abbrev pub greatest_advance : ℕ
greatest_advance = 1125899906842624

unfoldable pub advance_in : Data → Result Request WireFault
advance_in body = one_in (codes "by") (required_up_to greatest_advance) asks.Advance body

unfoldable pub query_in : Data → Result Request WireFault
query_in body = do
  known ← fields_of (codes "kind" ∷ codes "intent" ∷ codes "defaultOnly" ∷ []) body
  kind ← kind_of body
  intent ← required_intent (codes "intent") body
  default_only ← optional_truth (codes "defaultOnly") body
  Ok (asks.Query kind intent default_only)

unfoldable pub start_in : Data → Result Request WireFault
start_in body = two_in (codes "intent") required_intent (codes "source") optional_natural asks.Start body

unfoldable pub start_service_in : Data → Result Request WireFault
start_service_in body = one_in (codes "intent") required_intent asks.StartService body

unfoldable pub stop_service_in : Data → Result Request WireFault
stop_service_in body = one_in (codes "component") (required_by component_in) asks.StopService body
