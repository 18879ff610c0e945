-- Questions about what an intent would reach.
use Rattle.std.specs.Prelude.{ℕ, Bool, false, List, [], ◌∷◌, codes, if◌then◌else◌, Option, Some, None, Result, Ok}
use Rattle.serde_json.specs.Data.{Data}
use Rattle.serde_json.specs.Find.{get, as_str}
use Rattle.am_types.specs.declared.manifest.Kind.{Kind}
use Rattle.am_types.specs.declared.manifest.Kind.TheVariants.{Activity, Service, Receiver}
use Rattle.am_types.specs.declared.request.Request.{Request}
use Rattle.am_types.specs.declared.request.Request.TheVariants as asks
use Rattle.am_model.specs.Texts.{is_same}
use Rattle.am_uri.specs.declared.text.Form.TheVariants.{Any}
use Rattle.am_wire_fields.specs.declared.fault.WireFault.{WireFault}
use Rattle.am_wire_fields.specs.Texts.{optional_text}
use Rattle.am_types.specs.Reading.{◌>>=◌}
use Rattle.am_wire_intents.specs.Intents.{required_intent}
use Rattle.am_wire.specs.Activities.{fields_of}
use Rattle.am_wire.specs.Words.{kind_of}

-- the text is the word for receivers
abbrev pub is_receiver : Option (List ℕ) → Bool
is_receiver None = false
is_receiver (Some word) = is_same word (codes "receiver")

-- the value of a field, if it is a text
abbrev pub text_at : Option Data → Option (List ℕ)
text_at None = None
text_at (Some value) = as_str value

-- the question is about receivers: the field `kind` is literally `receiver`
unfoldable pub asks_receivers : Data → Bool
asks_receivers body = is_receiver (text_at (get (codes "kind") body))

-- the fields of the question; there are more if it is about receivers
unfoldable pub explain_fields : Bool → List (List ℕ)
explain_fields receivers =
    if receivers then codes "kind" ∷ codes "intent" ∷ codes "as" ∷ codes "permission" ∷ codes "of" ∷ []
    else codes "kind" ∷ codes "intent" ∷ codes "as" ∷ codes "of" ∷ []

-- the permission that receivers must hold; for other kinds there is none
unfoldable pub permission_for : Kind → Data → Result (Option (List ℕ)) WireFault
permission_for Activity body = Ok None
permission_for Service body = Ok None
permission_for Receiver body = optional_text Any 1024 (codes "permission") body

-- the rest of the question, apart from its kind and intent, and what `make` makes of it
unfoldable pub asked_with : {A : Type 0} → (Option (List ℕ) → Option (List ℕ) → Option (List ℕ) → A) → Kind → Data
    → Result A WireFault
asked_with make kind body = do
  caller ← optional_text Any 1024 (codes "as") body
  permission ← permission_for kind body
  shown ← optional_text Any 1024 (codes "of") body
  Ok (make caller permission shown)

unfoldable pub explain_in : Data → Result Request WireFault
explain_in body = do
  known ← fields_of (explain_fields (asks_receivers body)) body
  kind ← kind_of body
  intent ← required_intent (codes "intent") body
  asked_with (asks.Explain kind intent) kind body
