-- Packages, grants and links.
use Rattle.std.specs.Prelude.{ℕ, Bool, ◌==◌, nat_lt, List, [], ◌∷◌, length, codes, if◌then◌else◌, Option, Some, None, Result, Ok, Err}
use Rattle.serde_json.specs.Data.{Data}
use Rattle.serde_json.specs.Find.{as_str}
use Rattle.am_types.specs.Bounds.{longest_manifest}
use Rattle.am_types.specs.declared.request.Request.{Request}
use Rattle.am_types.specs.declared.request.Request.TheVariants as asks
use Rattle.am_model.specs.Sound.{is_visible}
use Rattle.am_model.specs.Texts.{lowered}
use Rattle.am_uri.specs.declared.text.Form.TheVariants.{Any}
use Rattle.am_wire_fields.specs.declared.fault.WireFault.{WireFault}
use Rattle.am_wire_fields.specs.declared.fault.WireFault.TheVariants.{WrongKind, TooLong}
use Rattle.am_wire_fields.specs.Fields.{required, required_truth}
use Rattle.am_wire_fields.specs.Texts.{required_text}
use Rattle.am_types.specs.Reading.{◌>>=◌}
use Rattle.am_wire.specs.Activities.{fields_of}

-- a key for a package's calls: 1 to 255 visible ASCII characters
unfoldable pub key_of : Option (List ℕ) → Result (List ℕ) WireFault
key_of None = Err (WrongKind (codes "key"))
key_of (Some text) =
    if length text == 0 then Err (WrongKind (codes "key"))
    else if is_visible text then (if nat_lt 255 (length text) then Err (TooLong (codes "key")) else Ok text)
    else Err (WrongKind (codes "key"))

-- the field `key`
unfoldable pub key_in : Data → Result (List ℕ) WireFault
key_in body = do
  value ← required (codes "key") body
  key_of (as_str value)

unfoldable pub install_in : Data → Result Request WireFault
install_in body = do
  known ← fields_of (codes "manifest" ∷ codes "key" ∷ []) body
  text ← required_text Any longest_manifest (codes "manifest") body
  key ← key_in body
  Ok (asks.Install text key)

-- a body whose only field is a package's name
unfoldable pub package_in : Data → Result (List ℕ) WireFault
package_in body = do
  known ← fields_of (codes "package" ∷ []) body
  required_text Any 1024 (codes "package") body

-- a right given or taken: a body with only `package` and these two fields, a text and a boolean, and what is made of it
unfoldable pub right_in : {A : Type 0} → List ℕ → List ℕ → (List ℕ → List ℕ → Bool → A) → Data → Result A WireFault
right_in text_name held_name make body = do
  known ← fields_of (codes "package" ∷ text_name ∷ held_name ∷ []) body
  name ← required_text Any 1024 (codes "package") body
  text ← required_text Any 1024 text_name body
  held ← required_truth held_name body
  Ok (make name text held)

unfoldable pub grant_in : Data → Result Request WireFault
grant_in body = right_in (codes "permission") (codes "held") asks.Grant body

-- a link; its host is put in lower case (ASCII)
unfoldable pub link_in : Data → Result Request WireFault
link_in body =
    right_in (codes "host") (codes "approved") (λ name host approved. asks.Link name (lowered host) approved) body
