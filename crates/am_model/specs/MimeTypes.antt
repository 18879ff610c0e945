-- MIME types, and when one covers another.
use Rattle.std.specs.Prelude.{ℕ, Bool, not, ◌&&◌, ◌||◌, ◌==◌, nat_le, codes, List, length, if◌then◌else◌, Result, Ok, Err}
use Rattle.std.specs.List.{list_any, before_first, after_first}
use Rattle.am_types.specs.declared.uri.Mime.{Mime}
use Rattle.am_types.specs.declared.uri.MimeFault.{MimeFault}
use Rattle.am_types.specs.declared.uri.MimeFault.TheVariants.{NoSlash, EmptyPart, BadCharacter}
use Rattle.am_model.specs.Texts.{is_same}

-- a slash
abbrev pub is_slash : ℕ → Bool
is_slash b = b == 47

-- a space or a control character
abbrev pub is_unprintable : ℕ → Bool
is_unprintable b = nat_le b 32 || (b == 127)

-- the part before the first slash
abbrev pub main_in : List ℕ → List ℕ
main_in text = before_first is_slash text

-- the part after the first slash
abbrev pub sub_in : List ℕ → List ℕ
sub_in text = after_first is_slash text

-- the text has a space, a control character or a second slash
abbrev pub has_bad_character : List ℕ → Bool
has_bad_character text = list_any is_unprintable text || list_any is_slash (sub_in text)

-- the MIME type that a text is, two nonempty parts with one slash between them, or the first fault that it has
unfoldable pub mime_of : List ℕ → Result Mime MimeFault
mime_of text =
    if not (list_any is_slash text) then Err NoSlash
    else if has_bad_character text then Err BadCharacter
    else if length (main_in text) == 0 then Err EmptyPart
    else if length (sub_in text) == 0 then Err EmptyPart
    else Ok (record { main = main_in text; sub = sub_in text })

-- a part that stands for every other
abbrev pub is_any : List ℕ → Bool
is_any part = is_same part (codes "*")

-- the type that stands for every other
abbrev pub is_any_type : Mime → Bool
is_any_type mime = is_any mime.main && is_any mime.sub

-- two types share their main part, and the sub parts are the same or one stands for every other
abbrev pub shares_main : Mime → Mime → Bool
shares_main mime other =
    is_same mime.main other.main && ((is_same mime.sub other.sub || is_any mime.sub) || is_any other.sub)

-- two types go together: they are equal, or one covers the other
abbrev pub goes_with : Mime → Mime → Bool
goes_with mime other = (shares_main mime other || is_any_type mime) || is_any_type other

-- some listed type goes with this one
abbrev pub passes_type : List Mime → Mime → Bool
passes_type types mime = list_any (λ listed. goes_with listed mime) types
