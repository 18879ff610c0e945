-- Intents as bytes.
use Rattle.std.specs.Prelude.{◌≡◌, ℕ, zero, suc, Bool, true, false, List, [], ◌∷◌, ◌++◌, if◌then◌else◌, nat_eq, refl}
use Rattle.am_types.specs.declared.manifest.Kind.{Kind}
use Rattle.am_types.specs.declared.manifest.Kind.TheVariants as kinds
use Rattle.am_types.specs.declared.intent.Component.{Component}
use Rattle.am_types.specs.declared.intent.Extra.{Extra}
use Rattle.am_types.specs.declared.intent.Extra.TheVariants as extras
use Rattle.am_types.specs.declared.intent.Named.{Named}
use Rattle.am_types.specs.declared.intent.Flags.{Flags}
use Rattle.am_types.specs.declared.intent.Intent.{Intent}
use Rattle.am_types.specs.declared.uri.Uri.{Uri}
use Rattle.am_types.specs.declared.uri.UriParts.{UriParts}
use Rattle.am_types.specs.declared.uri.Mime.{Mime}
use Rattle.am_types.specs.declared.pending.PendingFlags.{PendingFlags}
use Rattle.am_packed.specs.Forms.{Form, ◌and◌, ◌&◌, made_of}
use Rattle.am_packed.specs.Numbers.{short_number, flag, whole}
use Rattle.am_packed.specs.Texts.{text}
use Rattle.am_packed.specs.Lists.{option_of, list_of}

-- the number of a kind
abbrev pub kind_number : Kind → ℕ
kind_number kinds.Activity = 0
kind_number kinds.Service = 1
kind_number kinds.Receiver = 2

-- the kind of a number
abbrev pub kind_of : ℕ → Kind
kind_of n = if nat_eq n 0 then kinds.Activity else (if nat_eq n 1 then kinds.Service else kinds.Receiver)

-- the kind that bytes begin with, and what follows the first
abbrev pub kind_at : List ℕ → Kind × List ℕ
kind_at [] = (kinds.Activity, [])
kind_at (first ∷ others) = (kind_of first, others)

pub kind_again : (kind : Kind) (rest : List ℕ) → kind_at ((kind_number kind ∷ []) ++ rest) ≡ (kind, rest)
kind_again kinds.Activity rest = refl
kind_again kinds.Service rest = refl
kind_again kinds.Receiver rest = refl

-- a kind of component, as the byte of its number
unfoldable pub kind_form : Form Kind
kind_form = record {
  bytes = λ kind. kind_number kind ∷ [];
  read = kind_at;
  light = λ kind. true;
  again = kind_again;
}

-- the name of a component
unfoldable pub component_form : Form Component
component_form =
    made_of (text and text) (λ x. x.package & x.class) (λ p. record { «package» = p.0; class = p.1 }) (λ x. refl)

-- the parts of a URI by one of the device's rules
unfoldable pub uri_parts_form : Form UriParts
uri_parts_form =
    made_of (option_of text and option_of short_number and text) (λ x. x.host & x.port & x.path)
    (λ p. record { host = p.0; port = p.1.0; path = p.1.1 }) (λ x. refl)

-- a URI with its parts
unfoldable pub uri_form : Form Uri
uri_form =
    made_of (text and text and uri_parts_form and uri_parts_form) (λ x. x.text & x.scheme & x.profile & x.phone)
    (λ p. record { text = p.0; scheme = p.1.0; profile = p.1.1.0; phone = p.1.1.1 }) (λ x. refl)

-- a MIME type
unfoldable pub mime_form : Form Mime
mime_form =
    made_of (text and text) (λ x. x.main & x.sub) (λ p. record { main = p.0; sub = p.1 }) (λ x. refl)

-- the bytes of an extra's value: a byte that says which it is, then the value
abbrev pub extra_bytes : Extra → List ℕ
extra_bytes (extras.Word words) = 0 ∷ text.bytes words
extra_bytes (extras.Whole x) = 1 ∷ whole.bytes x
extra_bytes (extras.Truth so) = 2 ∷ flag.bytes so

-- the extra's value that bytes begin with, and what follows it
abbrev pub extra_at : List ℕ → Extra × List ℕ
extra_at [] = (extras.Truth false, [])
extra_at (zero ∷ others) = (extras.Word (text.read others).0, (text.read others).1)
extra_at (suc zero ∷ others) = (extras.Whole (whole.read others).0, (whole.read others).1)
extra_at (suc (suc n) ∷ others) = (extras.Truth (flag.read others).0, (flag.read others).1)

pub extra_again : (x : Extra) (rest : List ℕ) → extra_at (extra_bytes x ++ rest) ≡ (x, rest)
extra_again (extras.Word words) rest = rw (text.again words rest) refl
extra_again (extras.Whole x) rest = rw (whole.again x rest) refl
extra_again (extras.Truth so) rest = rw (flag.again so rest) refl

-- a number or a truth is light, and a text isn't
abbrev pub extra_light : Extra → Bool
extra_light (extras.Word words) = text.light words
extra_light (extras.Whole x) = whole.light x
extra_light (extras.Truth so) = flag.light so

-- the value of an extra
unfoldable pub extra_form : Form Extra
extra_form = record { bytes = extra_bytes; read = extra_at; light = extra_light; again = extra_again }

-- an extra under its key
unfoldable pub named_form : Form Named
named_form =
    made_of (text and extra_form) (λ x. x.key & x.value) (λ p. record { key = p.0; value = p.1 }) (λ x. refl)

-- the flags of an intent
unfoldable pub flags_form : Form Flags
flags_form =
    made_of (flag and flag and flag and flag and flag and flag and flag and flag and flag and flag)
    (λ x. x.new_task & x.multiple_task & x.clear_task & x.clear_top & x.single_top & x.reorder_to_front &
    x.registered_only & x.foreground & x.no_abort & x.include_stopped)
    (λ p. record {
      new_task = p.0;
      multiple_task = p.1.0;
      clear_task = p.1.1.0;
      clear_top = p.1.1.1.0;
      single_top = p.1.1.1.1.0;
      reorder_to_front = p.1.1.1.1.1.0;
      registered_only = p.1.1.1.1.1.1.0;
      foreground = p.1.1.1.1.1.1.1.0;
      no_abort = p.1.1.1.1.1.1.1.1.0;
      include_stopped = p.1.1.1.1.1.1.1.1.1;
    })
    (λ x. refl)

-- an intent
unfoldable pub intent_form : Form Intent
intent_form =
    made_of (option_of text and option_of uri_form and option_of mime_form and option_of text and list_of text and
    option_of text and option_of component_form and flags_form and list_of named_form)
    (λ x. x.action & x.uri & x.mime & x.identifier & x.categories & x.package & x.component & x.flags & x.extras)
    (λ p. record {
      action = p.0;
      uri = p.1.0;
      mime = p.1.1.0;
      identifier = p.1.1.1.0;
      categories = p.1.1.1.1.0;
      «package» = p.1.1.1.1.1.0;
      component = p.1.1.1.1.1.1.0;
      flags = p.1.1.1.1.1.1.1.0;
      extras = p.1.1.1.1.1.1.1.1;
    })
    (λ x. refl)

-- the flags of a pending intent
unfoldable pub pending_flags_form : Form PendingFlags
pending_flags_form =
    made_of (flag and flag and flag and flag and flag and flag)
    (λ x. x.one_shot & x.no_create & x.cancel_current & x.update_current & x.immutable & x.mutable)
    (λ p. record {
      one_shot = p.0;
      no_create = p.1.0;
      cancel_current = p.1.1.0;
      update_current = p.1.1.1.0;
      immutable = p.1.1.1.1.0;
      mutable = p.1.1.1.1.1;
    })
    (λ x. refl)
