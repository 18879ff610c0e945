-- Packages, grants and links: what was read of a body is read of what is written for it.
use Rattle.std.proofs.Common.{◌≡◌, ℕ, suc, true, cond, List, [], ◌∷◌, length, Option, Some, None, Ok, Err, refl, sym, ap, ◌∙◌, subst}
use Rattle.std.specs.Prelude.{codes, nat_lt, ◌==◌}
use Rattle.serde_json.specs.Data.{Data, boolean, string, object}
use Rattle.serde_json.specs.Find.{as_str}
use Rattle.am_types.specs.declared.request.Request.{Request}
use Rattle.am_types.specs.declared.request.Request.TheVariants as asks
use Rattle.am_model.specs.Sound.{is_visible}
use Rattle.am_model.specs.Texts.{lowered}
use Rattle.am_uri.specs.declared.text.Form.TheVariants.{Any}
use Rattle.am_wire_fields.specs.declared.fault.WireFault.TheVariants.{WrongKind, TooLong}
use Rattle.am_wire_fields.specs.Fields.{required, required_truth}
use Rattle.am_wire_fields.specs.Texts.{text_of, text_in, required_text}
use Rattle.am_wire.specs.Activities.{fields_of}
use Rattle.am_wire.specs.Packages.{key_of, key_in, package_in, right_in, link_in}
use Rattle.am_wire.proofs.Made.{lowered_again}
use Rattle.am_wire_values.specs.Requests.{with_one, link_data, request_data}
use Rattle.am_wire_read_back.proofs.Kept.{IsKept}
use Rattle.am_wire_read_back.proofs.Objects.{Entry, members_with, value_at, are_apart}
use Rattle.am_wire_read_back.proofs.Options.{IsFieldReread, IsReread}
use Rattle.am_wire_read_back.proofs.Parts.{Part, part, fields_known}
use Rattle.am_wire_read_back.proofs.Steps.{step, steps, same_ok}
use Rattle.am_wire_read_back.proofs.Texts.{if_read, else_read, read_else, field_again, required_at, required_text_again, required_truth_at}

-- ---- keys

key_of_again : (o : Option (List ℕ)) (key : List ℕ) → key_of o ≡ Ok key → key_of (Some key) ≡ Ok key
unfolding key_of
key_of_again None key h = absurd (cc)
key_of_again (Some text) key h =
    let some = else_read (length text == 0) (WrongKind (codes "key")) _ key h in
    let visible = if_read (is_visible text) (cond (nat_lt 255 (length text)) (Err (TooLong (codes "key"))) (Ok text))
    (WrongKind (codes "key")) key some.1 in
    let short = else_read (nat_lt 255 (length text)) (TooLong (codes "key")) (Ok text) key visible.1 in
    let P : List ℕ → Type 0 = λ t. key_of (Some t) ≡ Ok key in
    subst P (same_ok text key short.1) h

key_again : IsReread (λ value. key_of (as_str value)) string
key_again value key k h = key_of_again (as_str value) key h

pub key_field : IsFieldReread (codes "key") key_in (λ key. Some (string key))
unfolding key_in
key_field = field_again (λ value. key_of (as_str value)) string key_again (λ key. refl) (codes "key")

abbrev pub key_part : Part (List ℕ)
key_part = part (codes "key") key_in (λ key. Some (string key)) key_field

-- ---- names

pub package_again : IsReread package_in (λ name. with_one (codes "package") (string name))
unfolding package_in
package_again value name k h =
    let fields = codes "package" ∷ [] in
    let one = step (fields_of fields value) _ name h in
    let es : List Entry = (codes "package", Some (string name)) ∷ [] in
    steps (fields_of fields (object (members_with es))) (λ known. required_text Any 1024 (codes "package")
    (object (members_with es))) tt name (fields_known fields es refl)
    (required_text_again Any 1024 (codes "package") value name es k one.later refl refl)

-- ---- links

lowered_length : (text : List ℕ) → length (lowered text) ≡ length text
lowered_length [] = refl
lowered_length (b ∷ bytes) = ap suc (lowered_length bytes)

-- a host in lower case is as long as it was
host_of : (o : Option (List ℕ)) (host : List ℕ) → text_of Any 1024 (codes "host") o ≡ Ok host
    → text_of Any 1024 (codes "host") (Some (lowered host)) ≡ Ok (lowered host)
unfolding text_of
host_of None host h = absurd (cc)
host_of (Some text) host h =
    let short = else_read (nat_lt 1024 (length text)) (TooLong (codes "host")) (Ok text) host h in
    read_else (nat_lt 1024 (length (lowered host))) (TooLong (codes "host")) (Ok (lowered host)) (lowered host)
    (ap (λ n. nat_lt 1024 n) (lowered_length host ∙ ap length (sym (same_ok text host short.1))) ∙ short.0) refl

host_at : (value : Data) (host : List ℕ) (es : List Entry) → required_text Any 1024 (codes "host") value ≡ Ok host
    → are_apart es ≡ true → value_at (codes "host") es ≡ Some (string (lowered host))
    → required_text Any 1024 (codes "host") (object (members_with es)) ≡ Ok (lowered host)
unfolding required_text text_in
host_at value host es h apart is =
    let one = step (required (codes "host") value) (λ value. text_of Any 1024 (codes "host") (as_str value)) host h in
    steps (required (codes "host") (object (members_with es))) (λ value. text_of Any 1024 (codes "host") (as_str value))
    (string (lowered host)) (lowered host)
    (required_at (codes "host") es (string (lowered host)) apart is refl) (host_of (as_str one.value) host one.later)

pub link_again : (value : Data) (r : Request) → IsKept value → link_in value ≡ Ok r → link_in (request_data r) ≡ Ok r
unfolding link_in right_in request_data link_data
link_again value r k h =
    let fields = codes "package" ∷ codes "host" ∷ codes "approved" ∷ [] in
    let one = step (fields_of fields value) _ r h in
    let two = step (required_text Any 1024 (codes "package") value) _ r one.later in
    let three = step (required_text Any 1024 (codes "host") value) _ r two.later in
    let four = step (required_truth (codes "approved") value) _ r three.later in
    let got = asks.Link two.value (lowered three.value) four.value in
    let es : List Entry = (codes "approved", Some (boolean four.value))
    ∷ (codes "host", Some (string (lowered three.value))) ∷ (codes "package", Some (string two.value)) ∷ [] in
    let P : Request → Type 0 = λ r. link_in (request_data r) ≡ Ok r in
    subst P (same_ok got r four.later)
    (steps (fields_of fields (object (members_with es))) _ tt got (fields_known fields es refl)
    (steps (required_text Any 1024 (codes "package") (object (members_with es))) _ two.value got
    (required_text_again Any 1024 (codes "package") value two.value es k two.first refl refl)
    (steps (required_text Any 1024 (codes "host") (object (members_with es))) _ (lowered three.value) got
    (host_at value three.value es three.first refl refl)
    (steps (required_truth (codes "approved") (object (members_with es))) _ four.value got
    (required_truth_at (codes "approved") four.value es refl refl)
    (ap (λ (host : List ℕ). Ok (asks.Link two.value host four.value)) (lowered_again three.value))))))
