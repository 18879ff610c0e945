-- Pending intents: what was read of a body is read of what is written for it.
use Rattle.std.proofs.Common.{◌≡◌, true, List, [], ◌∷◌, Some, Ok, refl, subst}
use Rattle.std.specs.Prelude.{codes}
use Rattle.serde_json.specs.Data.{Data, string, object}
use Rattle.am_types.specs.declared.manifest.Kind.{Kind}
use Rattle.am_types.specs.declared.manifest.Kind.TheVariants.{Activity, Service, Receiver}
use Rattle.am_types.specs.declared.request.Request.{Request}
use Rattle.am_types.specs.declared.request.Request.TheVariants as asks
use Rattle.am_wire_fields.specs.Numbers.{required_whole}
use Rattle.am_wire_intents.specs.Intents.{required_intent}
use Rattle.am_wire.specs.Activities.{fields_of}
use Rattle.am_wire.specs.Pendings.{pending_get_in}
use Rattle.am_wire.specs.Words.{pending_words, pending_kind_of, pending_flags_of}
use Rattle.am_wire_values.specs.Fields.{whole, texts_data}
use Rattle.am_wire_values.specs.Intents.{intent_data}
use Rattle.am_wire_values.specs.Names.{pending_name, names_set, pending_named}
use Rattle.am_wire_values.specs.Requests.{get_data, request_data}
use Rattle.am_wire_read_back.proofs.Activities.{named_at}
use Rattle.am_wire_read_back.proofs.Flags.{pending_flags_at}
use Rattle.am_wire_read_back.proofs.Intents.{required_intent_again}
use Rattle.am_wire_read_back.proofs.Kept.{IsKept}
use Rattle.am_wire_read_back.proofs.Numbers.{required_whole_again}
use Rattle.am_wire_read_back.proofs.Objects.{Entry, members_with, value_at, are_apart}
use Rattle.am_wire_read_back.proofs.Parts.{fields_known}
use Rattle.am_wire_read_back.proofs.Steps.{step, steps, same_ok}

kind_at : (kind : Kind) (es : List Entry) → are_apart es ≡ true → value_at (codes "kind") es
    ≡ Some (string (pending_name kind)) → pending_kind_of (object (members_with es)) ≡ Ok kind
unfolding pending_kind_of pending_words
kind_at Activity es apart is = named_at pending_words (codes "activity") Activity es refl refl apart is
kind_at Service es apart is = named_at pending_words (codes "service") Service es refl refl apart is
kind_at Receiver es apart is = named_at pending_words (codes "broadcast") Receiver es refl refl apart is

pub pending_get_again : (value : Data) (r : Request) → IsKept value → pending_get_in value ≡ Ok r
    → pending_get_in (request_data r) ≡ Ok r
unfolding pending_get_in request_data get_data
pending_get_again value r k h =
    let fields = codes "kind" ∷ codes "code" ∷ codes "intent" ∷ codes "flags" ∷ [] in
    let one = step (fields_of fields value) _ r h in
    let two = step (pending_kind_of value) _ r one.later in
    let three = step (required_whole (codes "code") value) _ r two.later in
    let four = step (required_intent (codes "intent") value) _ r three.later in
    let five = step (pending_flags_of value) _ r four.later in
    let got = asks.PendingGet two.value three.value four.value five.value in
    let es : List Entry =
    (codes "flags", Some (texts_data (names_set (pending_named five.value))))
    ∷ (codes "intent", Some (intent_data four.value)) ∷ (codes "code", Some (whole three.value))
    ∷ (codes "kind", Some (string (pending_name two.value))) ∷ []
    in
    let P : Request → Type 0 = λ r. pending_get_in (request_data r) ≡ Ok r in
    subst P (same_ok got r five.later)
    (steps (fields_of fields (object (members_with es))) _ tt got (fields_known fields es refl)
    (steps (pending_kind_of (object (members_with es))) _ two.value got (kind_at two.value es refl refl)
    (steps (required_whole (codes "code") (object (members_with es))) _ three.value got
    (required_whole_again (codes "code") value three.value es k three.first refl refl)
    (steps (required_intent (codes "intent") (object (members_with es))) _ four.value got
    (required_intent_again (codes "intent") value four.value es k four.first refl refl)
    (steps (pending_flags_of (object (members_with es))) _ five.value got (pending_flags_at five.value es refl refl)
    refl)))))
