-- Broadcasts, registered receivers and deliveries.
use Rattle.std.specs.Prelude.{ℕ, ℤ, pos, Bool, true, false, List, [], ◌∷◌, codes, is_some, if◌then◌else◌, Option, Some, None, Result, Ok}
use Rattle.serde_json.specs.Data.{Data}
use Rattle.serde_json.specs.Find.{get, as_bool}
use Rattle.am_types.specs.declared.broadcast.Ordered.{Ordered}
use Rattle.am_types.specs.declared.broadcast.Outcome.{Outcome}
use Rattle.am_types.specs.declared.filter.Filter.{Filter}
use Rattle.am_types.specs.declared.request.Request.{Request}
use Rattle.am_types.specs.declared.request.Request.TheVariants as asks
use Rattle.am_uri.specs.declared.text.Form.TheVariants.{Any}
use Rattle.am_wire_fields.specs.declared.fault.WireFault.{WireFault}
use Rattle.am_wire_fields.specs.Fields.{field, optional_truth, required_by}
use Rattle.am_wire_fields.specs.Numbers.{required_natural, required_whole, optional_whole}
use Rattle.am_wire_fields.specs.Texts.{optional_text}
use Rattle.am_types.specs.Reading.{◌>>=◌}
use Rattle.am_wire_intents.specs.Extras.{optional_extras}
use Rattle.am_wire_intents.specs.Intents.{required_intent}
use Rattle.am_wire_intents.specs.Filters.{filter_in}
use Rattle.am_wire.specs.Activities.{fields_of, two_in}

-- the boolean is `true`, and nothing else
abbrev pub is_true : Option Bool → Bool
is_true None = false
is_true (Some truth) = truth

-- the value of a field, if it is a boolean
abbrev pub truth_at : Option Data → Option Bool
truth_at None = None
truth_at (Some value) = as_bool value

-- the broadcast is ordered: its field is literally `true`
unfoldable pub is_ordered : Data → Bool
is_ordered body = is_true (truth_at (get (codes "ordered") body))

-- the fields of a broadcast; there are more if it is ordered
unfoldable pub send_fields : Bool → List (List ℕ)
send_fields ordered =
    if ordered
    then codes "intent" ∷ codes "permission" ∷ codes "ordered" ∷ codes "code" ∷ codes "data" ∷ codes "extras"
    ∷ codes "result" ∷ []
    else codes "intent" ∷ codes "permission" ∷ codes "ordered" ∷ []

-- the number, or 0
abbrev pub or_zero : Option ℤ → ℤ
or_zero None = pos 0
or_zero (Some n) = n

-- the outcome with this code, and what `more` reads after it
abbrev pub outcome_of : {A : Type 0} → ℤ → (Outcome → Result A WireFault) → Data → Result A WireFault
outcome_of code more body = do
  text ← optional_text Any 1024 (codes "data") body
  extras ← optional_extras body
  more (record { code = code; text = text; extras = extras })

-- whether the sender wants the result of a broadcast that starts so
abbrev pub wanted_in : Data → Outcome → Result Ordered WireFault
wanted_in body initial = do
  wanted ← optional_truth (codes "result") body
  Ok (record { initial = initial; wanted = wanted })

-- how an ordered broadcast starts
unfoldable pub ordered_in : Data → Result Ordered WireFault
ordered_in body = do
  code ← optional_whole (codes "code") body
  outcome_of (or_zero code) (wanted_in body) body

-- how a broadcast starts, if it is ordered
unfoldable pub ordered_if : Bool → Data → Result (Option Ordered) WireFault
ordered_if false body = Ok None
ordered_if true body = do
  ordered ← ordered_in body
  Ok (Some ordered)

-- the rest of a broadcast, apart from its intent, and what `make` makes of it
unfoldable pub sent_with : {A : Type 0} → (Option (List ℕ) → Option Ordered → A) → Data → Result A WireFault
sent_with make body = do
  permission ← optional_text Any 1024 (codes "permission") body
  is_ordered ← optional_truth (codes "ordered") body
  ordered ← ordered_if is_ordered body
  Ok (make permission ordered)

unfoldable pub send_in : Data → Result Request WireFault
send_in body = do
  known ← fields_of (send_fields (is_ordered body)) body
  intent ← required_intent (codes "intent") body
  sent_with (asks.Send intent) body

-- the filter of a receiver to be registered
unfoldable pub required_filter : List ℕ → Data → Result Filter WireFault
required_filter name parent = required_by filter_in name parent

unfoldable pub register_in : Data → Result Request WireFault
register_in body = two_in (codes "filter") required_filter (codes "permission") (optional_text Any 1024) asks.Register
    body

-- the answer sets an outcome: it has the field `code`
unfoldable pub sets_outcome : Data → Bool
sets_outcome body = is_some (field (codes "code") body)

-- the fields of an answer; there are more if it sets an outcome
unfoldable pub finish_fields : Bool → List (List ℕ)
finish_fields sets =
    if sets then codes "delivery" ∷ codes "abort" ∷ codes "code" ∷ codes "data" ∷ codes "extras" ∷ []
    else codes "delivery" ∷ codes "abort" ∷ codes "code" ∷ []

-- the outcome that an answer sets
unfoldable pub outcome_in : Data → Result Outcome WireFault
outcome_in body = do
  code ← required_whole (codes "code") body
  outcome_of code (λ outcome. Ok outcome) body

-- the outcome, if one is set
unfoldable pub outcome_if : Bool → Data → Result (Option Outcome) WireFault
outcome_if false body = Ok None
outcome_if true body = do
  outcome ← outcome_in body
  Ok (Some outcome)

unfoldable pub finish_in : Data → Result Request WireFault
finish_in body = do
  known ← fields_of (finish_fields (sets_outcome body)) body
  delivery ← required_natural (codes "delivery") body
  abort ← optional_truth (codes "abort") body
  set ← outcome_if (sets_outcome body) body
  Ok (asks.Finish delivery (record { set = set; abort = abort }))
