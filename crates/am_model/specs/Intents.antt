-- When two intents are the same for a filter, and what one intent fills in for another.
use Rattle.std.specs.Prelude.{ℕ, Bool, ◌&&◌, ◌||◌, nat_lt, List, [], ◌∷◌, length, if◌then◌else◌, Option, Some, None, Result, Ok, Err}
use Rattle.std.specs.List.{list_any, list_all, fold}
use Rattle.std.specs.Option.{option_eq, option_or}
use Rattle.am_types.specs.declared.intent.Intent.{Intent}
use Rattle.am_types.specs.declared.intent.Component.{Component}
use Rattle.am_types.specs.declared.intent.Flags.{Flags}
use Rattle.am_types.specs.declared.intent.Named.{Named}
use Rattle.am_types.specs.declared.uri.Uri.{Uri}
use Rattle.am_types.specs.declared.uri.Mime.{Mime}
use Rattle.am_types.specs.declared.filter.FillFault.{FillFault}
use Rattle.am_types.specs.declared.filter.FillFault.TheVariants.{ExtrasFull}
use Rattle.am_model.specs.Texts.{is_same, lists, is_before}

-- two types are the same
abbrev pub is_same_mime : Mime → Mime → Bool
is_same_mime mime other = is_same mime.main other.main && is_same mime.sub other.sub

-- two URIs have the same text
abbrev pub is_same_uri : Uri → Uri → Bool
is_same_uri uri other = is_same uri.text other.text

-- two components are the same
abbrev pub is_same_component : Component → Component → Bool
is_same_component component other =
    is_same component.«package» other.«package» && is_same component.class other.class

-- each text of either list is in the other
abbrev pub are_same_set : List (List ℕ) → List (List ℕ) → Bool
are_same_set texts others = list_all (λ text. lists others text) texts && list_all (λ text. lists texts text) others

-- two intents are the same for a filter: all except flags and extras
abbrev pub filter_equals : Intent → Intent → Bool
filter_equals intent other =
    (((((option_eq is_same intent.action other.action
    && option_eq is_same_uri intent.uri other.uri)
    && option_eq is_same_mime intent.mime other.mime)
    && option_eq is_same intent.identifier other.identifier)
    && option_eq is_same intent.«package» other.«package»)
    && option_eq is_same_component intent.component other.component)
    && are_same_set intent.categories other.categories

-- the first if it is there, else the second
abbrev pub or_other : {X : Type 0} → Option X → Option X → Option X
or_other option other = option_or option other

-- the URI if the intent has neither URI nor type
abbrev pub filled_uri : Option Uri → Option Mime → Option Uri → Option Uri
filled_uri None None other = other
filled_uri None (Some mime) other = None
filled_uri (Some uri) mime other = Some uri

-- the type if the intent has neither URI nor type
abbrev pub filled_mime : Option Uri → Option Mime → Option Mime → Option Mime
filled_mime None None other = other
filled_mime None (Some mime) other = Some mime
filled_mime (Some uri) mime other = mime

-- the categories if the intent has none
abbrev pub filled_categories : List (List ℕ) → List (List ℕ) → List (List ℕ)
filled_categories [] others = others
filled_categories (first ∷ others) unused = first ∷ others

-- the flags of either
abbrev pub united_flags : Flags → Flags → Flags
united_flags a b = record {
  new_task = a.new_task || b.new_task;
  multiple_task = a.multiple_task || b.multiple_task;
  clear_task = a.clear_task || b.clear_task;
  clear_top = a.clear_top || b.clear_top;
  single_top = a.single_top || b.single_top;
  reorder_to_front = a.reorder_to_front || b.reorder_to_front;
  registered_only = a.registered_only || b.registered_only;
  foreground = a.foreground || b.foreground;
  no_abort = a.no_abort || b.no_abort;
  include_stopped = a.include_stopped || b.include_stopped;
}

-- an extra in front of the first whose key comes after its own
abbrev pub place_extra : Named → List Named → List Named
place_extra extra [] = extra ∷ []
place_extra extra (first ∷ others) =
    if is_before extra.key first.key then extra ∷ first ∷ others else first ∷ place_extra extra others

-- an extra has the key
abbrev pub has_key : List Named → List ℕ → Bool
has_key extras key = list_any (λ (extra : Named). is_same extra.key key) extras

-- one more extra, unless its key is there
abbrev pub with_extra : List Named → Named → List Named
with_extra extras extra = if has_key extras extra.key then extras else place_extra extra extras

-- the extras, with those of the other whose keys are absent, sorted by key if the first are
abbrev pub united_extras : List Named → List Named → List Named
united_extras extras others = fold with_extra extras others

-- the intent with what it lacks taken from another; never the component
abbrev pub filled : Intent → Intent → Intent
filled kept other = record {
  action = or_other kept.action other.action;
  uri = filled_uri kept.uri kept.mime other.uri;
  mime = filled_mime kept.uri kept.mime other.mime;
  identifier = or_other kept.identifier other.identifier;
  categories = filled_categories kept.categories other.categories;
  «package» = or_other kept.«package» other.«package»;
  component = kept.component;
  flags = united_flags kept.flags other.flags;
  extras = united_extras kept.extras other.extras;
}

-- the intent filled in, unless that would give it more than 64 extras
unfoldable pub fill_in : Intent → Intent → Result Intent FillFault
fill_in kept other =
    if nat_lt 64 (length (united_extras kept.extras other.extras)) then Err ExtrasFull else Ok (filled kept other)
