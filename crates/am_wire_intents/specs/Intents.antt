-- An intent.
use Rattle.std.specs.Prelude.{ℕ, List, [], ◌∷◌, codes, Option, Result, Ok, Err}
use Rattle.serde_json.specs.Data.{Data}
use Rattle.am_types.specs.declared.intent.Intent.{Intent}
use Rattle.am_types.specs.declared.uri.Mime.{Mime}
use Rattle.am_types.specs.declared.uri.MimeFault.{MimeFault}
use Rattle.am_types.specs.declared.uri.Uri.{Uri}
use Rattle.am_types.specs.declared.uri.UriFault.{UriFault}
use Rattle.am_model.specs.MimeTypes.{mime_of}
use Rattle.am_model.specs.Uris.{uri_of}
use Rattle.am_uri.specs.declared.text.Form.{Form}
use Rattle.am_uri.specs.declared.text.Form.TheVariants.{Any}
use Rattle.am_uri.specs.Texts.{sorted_texts}
use Rattle.am_wire_fields.specs.declared.fault.WireFault.{WireFault}
use Rattle.am_wire_fields.specs.declared.fault.WireFault.TheVariants.{BadUri, BadMime}
use Rattle.am_wire_fields.specs.Fields.{field, if_said, only_fields, required_by}
use Rattle.am_wire_fields.specs.Lists.{optional_texts}
use Rattle.am_types.specs.Reading.{◌>>=◌}
use Rattle.am_wire_fields.specs.Texts.{text_in, optional_text}
use Rattle.am_wire_intents.specs.Components.{optional_component}
use Rattle.am_wire_intents.specs.Extras.{optional_extras}
use Rattle.am_wire_intents.specs.Flags.{flags_of}

-- a URI, or what is wrong with it
unfoldable pub uri_or_fault : Result Uri UriFault → Result Uri WireFault
uri_or_fault (Ok uri) = Ok uri
uri_or_fault (Err fault) = Err (BadUri fault)

-- the URI in a value
unfoldable pub uri_in : List ℕ → Data → Result Uri WireFault
uri_in name value = do
  text ← text_in Any 1024 name value
  uri_or_fault (uri_of text)

-- a URI field, if it is present
unfoldable pub optional_uri : List ℕ → Data → Result (Option Uri) WireFault
optional_uri name parent = if_said (uri_in name) (field name parent)

-- a MIME type, or what is wrong with it
unfoldable pub mime_or_fault : Result Mime MimeFault → Result Mime WireFault
mime_or_fault (Ok mime) = Ok mime
mime_or_fault (Err fault) = Err (BadMime fault)

-- the MIME type in a value that is a text of the form
unfoldable pub mime_in : Form → List ℕ → Data → Result Mime WireFault
mime_in form name value = do
  text ← text_in form 1024 name value
  mime_or_fault (mime_of text)

-- a MIME type field, if it is present
unfoldable pub optional_mime : Form → List ℕ → Data → Result (Option Mime) WireFault
optional_mime form name parent = if_said (mime_in form name) (field name parent)

-- the categories, each of the form, sorted by bytes, each once
unfoldable pub categories_of : Form → Data → Result (List (List ℕ)) WireFault
categories_of form parent = do
  texts ← optional_texts form (codes "categories") parent
  Ok (sorted_texts texts)

-- the contents of an intent
unfoldable pub intent_of : Data → Result Intent WireFault
intent_of parent = do
  action ← optional_text Any 1024 (codes "action") parent
  categories ← categories_of Any parent
  component ← optional_component (codes "component") parent
  uri ← optional_uri (codes "data") parent
  extras ← optional_extras parent
  flags ← flags_of parent
  identifier ← optional_text Any 1024 (codes "identifier") parent
  name ← optional_text Any 1024 (codes "package") parent
  mime ← optional_mime Any (codes "type") parent
  Ok (record {
    action = action;
    uri = uri;
    mime = mime;
    identifier = identifier;
    categories = categories;
    «package» =
        name;
    component = component;
    flags = flags;
    extras = extras;
  })

-- the fields of an intent
abbrev pub intent_fields : List (List ℕ)
intent_fields =
    codes "action" ∷ codes "categories" ∷ codes "component" ∷ codes "data" ∷ codes "extras" ∷ codes "flags"
    ∷ codes "identifier"
    ∷ codes "package" ∷ codes "type" ∷ []

-- the intent that is the value of the field with this name
unfoldable pub intent_in : List ℕ → Data → Result Intent WireFault
intent_in name value = do
  known ← only_fields name intent_fields value
  intent_of value

-- a required intent field
unfoldable pub required_intent : List ℕ → Data → Result Intent WireFault
required_intent name parent = required_by intent_in name parent

-- an intent field, if it is present
unfoldable pub optional_intent : List ℕ → Data → Result (Option Intent) WireFault
optional_intent name parent = if_said (intent_in name) (field name parent)
