-- Pending intents.
use Rattle.std.specs.Prelude.{[], ◌∷◌, codes, Result, Ok}
use Rattle.serde_json.specs.Data.{Data}
use Rattle.am_types.specs.declared.request.Request.{Request}
use Rattle.am_types.specs.declared.request.Request.TheVariants as asks
use Rattle.am_uri.specs.declared.text.Form.TheVariants.{Any}
use Rattle.am_wire_fields.specs.declared.fault.WireFault.{WireFault}
use Rattle.am_wire_fields.specs.Numbers.{required_natural, required_whole}
use Rattle.am_wire_fields.specs.Texts.{required_text}
use Rattle.am_types.specs.Reading.{◌>>=◌}
use Rattle.am_wire_intents.specs.Intents.{required_intent, optional_intent}
use Rattle.am_wire.specs.Activities.{fields_of, two_in}
use Rattle.am_wire.specs.Words.{pending_kind_of, pending_flags_of}

unfoldable pub pending_get_in : Data → Result Request WireFault
pending_get_in body = do
  known ← fields_of (codes "kind" ∷ codes "code" ∷ codes "intent" ∷ codes "flags" ∷ []) body
  kind ← pending_kind_of body
  code ← required_whole (codes "code") body
  intent ← required_intent (codes "intent") body
  flags ← pending_flags_of body
  Ok (asks.PendingGet kind code intent flags)

unfoldable pub pending_send_in : Data → Result Request WireFault
pending_send_in body = two_in (codes "token") required_natural (codes "fill") optional_intent asks.PendingSend body

unfoldable pub pending_give_in : Data → Result Request WireFault
pending_give_in body = two_in (codes "token") required_natural (codes "package") (required_text Any 1024)
    asks.PendingGive body
