-- Components, URIs and MIME types: what was read of a text is read again.
use Rattle.std.proofs.Common.{◌≡◌, ℕ, suc, ◌+◌, Bool, true, false, not, cond, ◌||◌, List, [], ◌∷◌, ◌++◌, length, take, drop, Option, Some, None, option_map, option_and_then, Result, Ok, Err, true≢false, refl, sym, ap, ◌∙◌, subst, arith, ne_eqb}
use Rattle.std.specs.Prelude.{nat_lt, ◌==◌, codes}
use Rattle.std.specs.List.{list_any, before_first, after_first, position_or_len}
use Rattle.std.proofs.lemmas.List.Folds.{list_any-append}
use Rattle.std.proofs.lemmas.Bool.Decides.{Decides-eqb}
use Rattle.std.proofs.lemmas.Bool.{or_parts, not-true, not-false}
use Rattle.serde_json.specs.Data.{Data, string, object}
use Rattle.serde_json.specs.Find.{as_str}
use Rattle.am_types.specs.declared.intent.Component.{Component}
use Rattle.am_types.specs.declared.uri.Mime.{Mime}
use Rattle.am_types.specs.declared.uri.MimeFault.{MimeFault}
use Rattle.am_types.specs.declared.uri.MimeFault.TheVariants.{NoSlash, EmptyPart, BadCharacter}
use Rattle.am_types.specs.declared.uri.Uri.{Uri}
use Rattle.am_types.specs.declared.uri.UriFault.{UriFault}
use Rattle.am_types.specs.declared.uri.UriFault.TheVariants as uris
use Rattle.am_model.specs.MimeTypes.{is_slash, main_in, sub_in, has_bad_character, mime_of}
use Rattle.am_model.specs.Sound.{has_slash, is_name, is_package_name, starts_with_dot}
use Rattle.am_model.specs.Uris.{has_scheme, is_port_good, is_escaped, path_text, rest_in, parts_of as uri_parts, uri_of}
use Rattle.am_uri.specs.declared.text.Form.{Form}
use Rattle.am_uri.specs.declared.text.Form.TheVariants.{Any}
use Rattle.am_wire_fields.specs.declared.fault.WireFault.{WireFault}
use Rattle.am_wire_fields.specs.declared.fault.WireFault.TheVariants.{WrongKind, TooLong}
use Rattle.am_types.specs.Reading.{◌>>=◌}
use Rattle.am_wire_fields.specs.Fields.{required_by}
use Rattle.am_wire_fields.specs.Texts.{text_in}
use Rattle.am_wire_intents.specs.Components.{parts_of, with_first, full_class, measured, of_parts, component_in, optional_component}
use Rattle.am_wire_intents.specs.Intents.{uri_or_fault, uri_in, optional_uri, mime_or_fault, mime_in, optional_mime}
use Rattle.am_wire_values.specs.Intents.{component_data, mime_data, uri_data}
use Rattle.am_wire_read_back.proofs.Kept.{IsKept}
use Rattle.am_wire_read_back.proofs.Objects.{Entry, members_with, value_at, are_apart}
use Rattle.am_wire_read_back.proofs.Options.{IsFieldReread, IsReread, option_field}
use Rattle.am_wire_read_back.proofs.Steps.{step, steps, same_ok}
use Rattle.am_wire_read_back.proofs.Texts.{if_read, else_read, read_if, read_else, text_again, field_again}

-- what is made of a text, and written as that text, is made of it again
of_text_again : {X : Type 0} (form : Form) (name : List ℕ) (make : List ℕ → Result X WireFault) (write : X → Data)
    (text_of : X → List ℕ) → ((x : X) → write x ≡ string (text_of x))
    → ((text : List ℕ) (x : X) → make text ≡ Ok x → text_of x ≡ text)
    → IsReread (λ value. text_in form 1024 name value >>= make) write
of_text_again form name make write text_of written is value x k h =
    let s = step (text_in form 1024 name value) make x h in
    ap (λ d. text_in form 1024 name d >>= make) (written x ∙ ap string (is s.value x s.later))
    ∙ steps (text_in form 1024 name (string s.value)) make s.value x (text_again form 1024 name value s.value k s.first)
    s.later

-- ---- MIME types

split_more : (x : ℕ) (xs : List ℕ) (n : ℕ) → (take n xs ++ 47 ∷ []) ++ drop (n + 1) xs ≡ xs
    → (take (1 + n) (x ∷ xs) ++ 47 ∷ []) ++ drop (1 + n + 1) (x ∷ xs) ≡ x ∷ xs
split_more x xs n h =
    let first : 1 + n ≡ suc n = omega arith in
    let behind : 1 + n + 1 ≡ suc (n + 1) = omega arith in
    rw (behind, first) (ap (λ (ys : List ℕ). x ∷ ys) h)

split_cons : (b : Bool) (x : ℕ) (xs : List ℕ) (n : ℕ) → (b ≡ true → x ≡ 47)
    → (b ≡ false → (take n xs ++ 47 ∷ []) ++ drop (n + 1) xs ≡ xs)
    → (take (cond (not b) (1 + n) 0) (x ∷ xs) ++ 47 ∷ []) ++ drop (cond (not b) (1 + n) 0 + 1) (x ∷ xs) ≡ x ∷ xs
split_cons true x xs n h k = ap (λ (y : ℕ). y ∷ xs) (sym (h refl))
split_cons false x xs n h k = split_more x xs n (k refl)

later_slash : (b c : Bool) → (b || c) ≡ true → b ≡ false → c ≡ true
later_slash true c h e = absurd (true≢false e)
later_slash false c h e = h

-- a text with a slash is the part before its first one, that slash and the part after it
split : (text : List ℕ) → list_any is_slash text ≡ true → (before_first is_slash text ++ codes "/")
    ++ after_first is_slash text ≡ text
split [] h = absurd (true≢false (sym h))
split (x ∷ xs) h = split_cons (is_slash x) x xs (position_or_len is_slash xs) (λ e. (Decides-eqb x 47).0 e)
    (λ e. split xs (later_slash (is_slash x) (list_any is_slash xs) h e))

mime_ok_or : Mime → Result Mime MimeFault → Mime
unfolding mime_of
mime_ok_or d (Ok m) = m
mime_ok_or d (Err f) = d

-- a MIME type is written as the text that it was read of
pub mime_text : (text : List ℕ) (mime : Mime) → mime_of text ≡ Ok mime → (mime.main ++ codes "/") ++ mime.sub ≡ text
unfolding mime_of mime_ok_or
mime_text text mime h =
    let parts : Mime = record { main = main_in text; sub = sub_in text } in
    let four : Result Mime MimeFault = Ok parts in
    let three = cond (length (sub_in text) == 0) (Err EmptyPart) four in
    let two = cond (length (main_in text) == 0) (Err EmptyPart) three in
    let one = cond (has_bad_character text) (Err BadCharacter) two in
    let a = else_read (not (list_any is_slash text)) NoSlash one mime h in
    let b = else_read (has_bad_character text) BadCharacter two mime a.1 in
    let c = else_read (length (main_in text) == 0) EmptyPart three mime b.1 in
    let d = else_read (length (sub_in text) == 0) EmptyPart four mime c.1 in
    let is : parts ≡ mime = ap (mime_ok_or parts) d.1 in
    ap (λ (m : Mime). (m.main ++ codes "/") ++ m.sub) (sym is) ∙ split text (not-false _ a.0)

mime_is : (r : Result Mime MimeFault) (mime : Mime) → mime_or_fault r ≡ Ok mime → r ≡ Ok mime
unfolding mime_or_fault
mime_is (Ok m) mime h = ap Ok (same_ok m mime h)
mime_is (Err f) mime h = absurd (cc)

pub mime_again : (form : Form) (name : List ℕ) → IsReread (mime_in form name) mime_data
unfolding mime_in
mime_again form name = of_text_again form name (λ text. mime_or_fault (mime_of text)) mime_data
    (λ m. (m.main ++ codes "/") ++ m.sub) (λ m. refl) (λ text mime h. mime_text text mime (mime_is (mime_of text) mime h))

pub mime_field : (name : List ℕ) → IsFieldReread name (optional_mime Any name) (option_map mime_data)
unfolding optional_mime
mime_field name = option_field (mime_in Any name) mime_data (mime_again Any name) (λ m. refl) name

-- ---- URIs

uri_ok_or : Uri → Result Uri UriFault → Uri
uri_ok_or d (Ok u) = u
uri_ok_or d (Err f) = d

-- a URI is written as the text that it was read of
uri_text : (text : List ℕ) (uri : Uri) → uri_of text ≡ Ok uri → uri.text ≡ text
unfolding uri_of uri_ok_or
uri_text text uri h =
    let a = else_read (nat_lt 1024 (length text)) uris.TooLong _ uri h in
    let b = else_read (not (has_scheme text)) uris.NoScheme _ uri a.1 in
    let c = else_read (not (is_port_good (rest_in text))) uris.BadPort _ uri b.1 in
    let d = else_read (not (is_escaped (path_text (rest_in text)))) uris.BadEscape _ uri c.1 in
    let e = else_read _ uris.NotUtf8 (Ok (uri_parts text (rest_in text))) uri d.1 in
    let is : uri_parts text (rest_in text) ≡ uri = ap (uri_ok_or (uri_parts text (rest_in text))) e.1 in
    ap (λ (u : Uri). u.text) (sym is)

uri_is : (r : Result Uri UriFault) (uri : Uri) → uri_or_fault r ≡ Ok uri → r ≡ Ok uri
unfolding uri_or_fault
uri_is (Ok u) uri h = ap Ok (same_ok u uri h)
uri_is (Err f) uri h = absurd (cc)

pub uri_again : (name : List ℕ) → IsReread (uri_in name) uri_data
unfolding uri_in
uri_again name = of_text_again Any name (λ text. uri_or_fault (uri_of text)) uri_data (λ u. u.text) (λ u. refl)
    (λ text uri h. uri_text text uri (uri_is (uri_of text) uri h))

pub uri_field : (name : List ℕ) → IsFieldReread name (optional_uri name) (option_map uri_data)
unfolding optional_uri
uri_field name = option_field (uri_in name) uri_data (uri_again name) (λ u. refl) name

-- ---- components

cut : (b : Bool) (x : ℕ) (rest : List ℕ) (o : Option (List ℕ × List ℕ)) (parts : List ℕ × List ℕ) → b ≡ false → o
    ≡ Some parts → cond b (Some ([], rest)) (with_first x o) ≡ Some (x ∷ parts.0, parts.1)
cut true x rest o parts h e = absurd (true≢false h)
cut false x rest o parts h e = ap (with_first x) e

-- a name without a slash and the text after one are the parts
parts_again : (name class : List ℕ) → has_slash name ≡ false → parts_of ((name ++ codes "/") ++ class)
    ≡ Some (name, class)
parts_again [] class h = refl
parts_again (x ∷ xs) class h =
    let both = or_parts (x == 47) (has_slash xs) h in
    cut (x == 47) x ((xs ++ codes "/") ++ class) (parts_of ((xs ++ codes "/") ++ class)) (xs, class) both.0
    (parts_again xs class both.1)

unless : (b c : Bool) → cond b false c ≡ true → (b ≡ false) × (c ≡ true)
unless true c h = absurd (true≢false (sym h))
unless false c h = (refl, h)

named : (b c : Bool) → b ≡ false → c ≡ true → cond b false c ≡ true
named true c h k = absurd (true≢false h)
named false c h k = k

no_slash : (name : List ℕ) → is_name name ≡ true → has_slash name ≡ false
no_slash name h = not-true (has_slash name) (unless (length name == 0) (not (has_slash name)) h).1

-- a package's name and a class of it are a name without a dot at its start
full_is_name : (b : Bool) (name class : List ℕ) → is_package_name name ≡ true → is_name class ≡ true
    → starts_with_dot class ≡ b
    → (is_name (cond b (name ++ class) class) ≡ true) × (starts_with_dot (cond b (name ++ class) class) ≡ false)
full_is_name false name class h k e = (k, e)
full_is_name true [] class h k e = absurd (true≢false (sym h))
full_is_name true (x ∷ xs) class h k e =
    let p = unless (starts_with_dot (x ∷ xs)) (is_name (x ∷ xs)) h in
    let slashes : has_slash ((x ∷ xs) ++ class) ≡ false = list_any-append (λ b. b == 47) (x ∷ xs) class
    ∙ rw (no_slash (x ∷ xs) p.1) (no_slash class k) in
    let some : (length ((x ∷ xs) ++ class) == 0) ≡ false = ne_eqb (suc (length (xs ++ class))) 0 (λ e. omega arith) in
    (named (length ((x ∷ xs) ++ class) == 0) (not (has_slash ((x ∷ xs) ++ class))) some (ap not slashes), p.0)

component_again_of : (field_name : List ℕ) (o : Option (List ℕ × List ℕ)) (c : Component) → of_parts field_name o ≡ Ok c
    → of_parts field_name (parts_of ((c.«package» ++ codes "/") ++ c.class)) ≡ Ok c
unfolding of_parts measured
component_again_of field_name None c h = absurd (cc)
component_again_of field_name (Some parts) c h =
    let full = full_class parts.0 parts.1 in
    let whole : Component = record { «package» = parts.0; class = full } in
    let p = if_read (is_package_name parts.0) _ (WrongKind field_name) c h in
    let n = if_read (is_name parts.1) (measured field_name parts.0 full) (WrongKind field_name) c p.1 in
    let a = else_read (nat_lt 1024 (length parts.0)) (TooLong field_name) _ c n.1 in
    let b = else_read (nat_lt 1024 (length full)) (TooLong field_name) (Ok whole) c a.1 in
    let is : whole ≡ c = same_ok whole c b.1 in
    let good = full_is_name (starts_with_dot parts.1) parts.0 parts.1 p.0 n.0 refl in
    let clear = no_slash parts.0 (unless (starts_with_dot parts.0) (is_name parts.0) p.0).1 in
    let stays : full_class parts.0 full ≡ full = rw (good.1) refl in
    let P : Component → Type 0 = λ c. of_parts field_name (parts_of ((c.«package» ++ codes "/") ++ c.class)) ≡ Ok c in
    subst P is (ap (of_parts field_name) (parts_again parts.0 full clear)
    ∙ read_if (is_package_name parts.0) _ (WrongKind field_name) whole p.0
    (read_if (is_name full) (measured field_name parts.0 (full_class parts.0 full)) (WrongKind field_name) whole good.0
    (ap (measured field_name parts.0) stays
    ∙ read_else (nat_lt 1024 (length parts.0)) (TooLong field_name) _ whole a.0
    (read_else (nat_lt 1024 (length full)) (TooLong field_name) (Ok whole) whole b.0 refl))))

pub component_again : (name : List ℕ) → IsReread (component_in name) component_data
unfolding component_in
component_again name value c k h = component_again_of name (option_and_then parts_of (as_str value)) c h

pub component_field : (name : List ℕ) → IsFieldReread name (optional_component name) (option_map component_data)
unfolding optional_component
component_field name = option_field (component_in name) component_data (component_again name) (λ c. refl) name

pub required_component_again : (name : List ℕ)
    → IsFieldReread name (required_by component_in name) (λ c. Some (component_data c))
required_component_again name = field_again (component_in name) component_data (component_again name) (λ c. refl) name
