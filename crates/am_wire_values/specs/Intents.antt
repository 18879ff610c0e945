-- The value of an intent: fields that are absent or at their default are left out.
use Rattle.std.specs.Prelude.{List, [], ◌∷◌, ◌++◌, codes, Option, Some, None, option_map}
use Rattle.serde_json.specs.Data.{Data, boolean, string, object, Members, no_members, put}
use Rattle.am_types.specs.declared.intent.Component.{Component}
use Rattle.am_types.specs.declared.intent.Extra.{Extra}
use Rattle.am_types.specs.declared.intent.Extra.TheVariants.{Word, Whole, Truth}
use Rattle.am_types.specs.declared.intent.Intent.{Intent}
use Rattle.am_types.specs.declared.intent.Named.{Named}
use Rattle.am_types.specs.declared.uri.Mime.{Mime}
use Rattle.am_types.specs.declared.uri.Uri.{Uri}
use Rattle.am_wire_values.specs.Fields.{put_given, whole, some_texts}
use Rattle.am_wire_values.specs.Names.{names_set, flags_named}

-- a component: package/class
abbrev pub component_data : Component → Data
component_data component = string (component.«package» ++ codes "/" ++ component.class)

-- a MIME type: main/sub
abbrev pub mime_data : Mime → Data
mime_data mime = string (mime.main ++ codes "/" ++ mime.sub)

-- a URI, as it was written
abbrev pub uri_data : Uri → Data
uri_data uri = string uri.text

-- the value of an extra
abbrev pub extra_data : Extra → Data
extra_data (Word text) = string text
extra_data (Whole number) = whole number
extra_data (Truth truth) = boolean truth

-- the members, with these extras among them
abbrev pub with_extras : List Named → Members → Members
with_extras [] members = members
with_extras (first ∷ others) members = with_extras others (put first.key (extra_data first.value) members)

-- extras as an object
abbrev pub extras_data : List Named → Data
extras_data extras = object (with_extras extras no_members)

-- extras as an object, unless there are none
abbrev pub some_extras : List Named → Option Data
some_extras [] = None
some_extras (first ∷ others) = Some (extras_data (first ∷ others))

-- the value of an intent
unfoldable pub intent_data : Intent → Data
intent_data intent =
    object (put_given (codes "flags") (some_texts (names_set (flags_named intent.flags)))
    (put_given (codes "extras") (some_extras intent.extras)
    (put_given (codes "package") (option_map string intent.«package»)
    (put_given (codes "identifier") (option_map string intent.identifier)
    (put_given (codes "component") (option_map component_data intent.component)
    (put_given (codes "type") (option_map mime_data intent.mime)
    (put_given (codes "data") (option_map uri_data intent.uri)
    (put_given (codes "categories") (some_texts intent.categories)
    (put_given (codes "action") (option_map string intent.action) no_members)))))))))
