-- The fields of a request's head, as the tests of a frame read them.
use Rattle.std.specs.Prelude.{ℕ, ◌==◌, Bool, ◌&&◌, List, [], ◌∷◌, map, length, nat_lt, nat_le, if◌then◌else◌, Result, Ok, Err, codes, bytes_eq}
use Rattle.std.specs.List.{list_any, list_all, slice_split}
use Rattle.std.specs.Char.{to_ascii_lowercase, is_ascii_digit}
use Rattle.std.specs.Str.{is_utf8}
use Rattle.std.specs.Str.Parse.{digits_value}
use Rattle.httparse.specs.Ascii.{comma}
use Rattle.httparse.specs.Grammar.{trim_ows}
use Rattle.am_types.specs.Bounds.{longest_body}
use Rattle.am_frames.specs.declared.frame.Defect.{Defect}
use Rattle.am_frames.specs.declared.frame.Defect.TheVariants.{BadHead, TransferEncoding, LengthRequired, BodyTooLarge}

-- a field: its name, and its value without the spaces and tabs around it
abbrev pub Header : Type 0
Header = List ℕ × List ℕ

-- the texts are equal if the case of ASCII letters is ignored
unfoldable pub same_but_case : List ℕ → List ℕ → Bool
same_but_case a b = bytes_eq (map to_ascii_lowercase a) (map to_ascii_lowercase b)

-- the field has that name
abbrev pub is_named : List ℕ → Header → Bool
is_named name header = same_but_case header.0 name

-- the values of the fields with that name, in their order
abbrev pub values_of : List ℕ → List Header → List (List ℕ)
values_of name [] = []
values_of name (header ∷ headers) =
    if is_named name header then header.1 ∷ values_of name headers else values_of name headers

-- the value is 1 to 19 digits
abbrev pub is_length : List ℕ → Bool
is_length value = nat_lt 0 (length value) && nat_le (length value) 19 && list_all is_ascii_digit value

-- the length that the one value of `Content-Length` states, if a body may have it
abbrev pub stated_length : List ℕ → Result ℕ Defect
stated_length value =
    if is_length value
    then (if nat_lt longest_body (digits_value 10 value) then Err BodyTooLarge else Ok (digits_value 10 value))
    else Err BadHead

-- the length of the body by the values of `Content-Length`: a POST states it, once
abbrev pub length_by : List ℕ → List (List ℕ) → Result ℕ Defect
length_by method [] = if bytes_eq method (codes "POST") then Err LengthRequired else Ok 0
length_by method (value ∷ []) = stated_length value
length_by method (value ∷ other ∷ more) = Err BadHead

-- the same, if there is no `Transfer-Encoding`
abbrev pub length_without : List (List ℕ) → List ℕ → List (List ℕ) → Result ℕ Defect
length_without [] method lengths = length_by method lengths
length_without (coding ∷ codings) method lengths = Err TransferEncoding

-- the length of the body, or the first defect that the head has
unfoldable pub body_length : List ℕ → List Header → Result ℕ Defect
body_length method headers =
    length_without (values_of (codes "Transfer-Encoding") headers) method
    (values_of (codes "Content-Length") headers)

-- the first value, if it is text
abbrev pub first_text : List (List ℕ) → List ℕ
first_text [] = []
first_text (value ∷ more) = if is_utf8 value then value else []

-- the caller's key, which is empty if none is given
unfoldable pub key_of : List Header → List ℕ
key_of headers = first_text (values_of (codes "AM-Key") headers)

-- the part is the word `close`, with spaces and tabs around it
unfoldable pub is_close : List ℕ → Bool
is_close part = same_but_case (trim_ows part) (codes "close")

-- one of the parts between the commas is `close`
unfoldable pub lists_close : List ℕ → Bool
lists_close value = list_any is_close (slice_split (λ b. b == comma) value)

-- some field `Connection` lists `close`
unfoldable pub connection_closes : List Header → Bool
connection_closes headers = list_any lists_close (values_of (codes "Connection") headers)
