-- URIs: a scheme, a colon and a rest, which may have a host, a port and a path.
use Rattle.std.specs.Prelude.{ℕ, ◌-◌, Bool, true, false, not, ◌&&◌, ◌||◌, ◌==◌, nat_lt, nat_le, codes, List, [], ◌∷◌, length, map, drop, if◌then◌else◌, Option, Some, None, Result, Ok, Err}
use Rattle.std.specs.List.{list_any, list_all, take_while, before_first, after_first, before_last, after_last}
use Rattle.std.specs.Char.{is_ascii_alphabetic, is_ascii_alphanumeric, is_ascii_digit, is_ascii_hexdigit}
use Rattle.std.specs.Int.Digits.{number_from_digits}
use Rattle.std.specs.Str.{is_utf8}
use Rattle.std.specs.Str.Lossy.{utf8_lossy}
use Rattle.percent_encoding.specs.Percent.{percent_sign, percent_decode}
use Rattle.am_types.specs.declared.uri.Uri.{Uri}
use Rattle.am_types.specs.declared.uri.UriParts.{UriParts}
use Rattle.am_types.specs.declared.uri.UriFault.{UriFault}
use Rattle.am_types.specs.declared.uri.UriFault.TheVariants.{NoScheme, BadPort, BadEscape, NotUtf8, TooLong}
use Rattle.am_model.specs.Texts.{begins_with}

-- a colon
abbrev pub is_colon : ℕ → Bool
is_colon b = b == 58

-- a byte that a scheme may have after its first letter: a letter, a digit, `+`, `-` or `.`
abbrev pub is_scheme_byte : ℕ → Bool
is_scheme_byte b = ((is_ascii_alphanumeric b || (b == 43)) || (b == 45)) || (b == 46)

-- an ASCII letter, and then letters, digits, `+`, `-` and `.`
abbrev pub is_scheme : List ℕ → Bool
is_scheme [] = false
is_scheme (b ∷ bytes) = if is_ascii_alphabetic b then list_all is_scheme_byte bytes else false

-- the text is a scheme, a colon and a rest
abbrev pub has_scheme : List ℕ → Bool
has_scheme text = list_any is_colon text && is_scheme (before_first is_colon text)

-- the part before the first colon
abbrev pub scheme_in : List ℕ → List ℕ
scheme_in text = before_first is_colon text

-- the part after the first colon
abbrev pub rest_in : List ℕ → List ℕ
rest_in text = after_first is_colon text

-- a slash, a question mark or a number sign, at which an authority ends
abbrev pub ends_authority : ℕ → Bool
ends_authority b = ((b == 47) || (b == 63)) || (b == 35)

-- a question mark or a number sign, at which a path ends
abbrev pub ends_path : ℕ → Bool
ends_path b = (b == 63) || (b == 35)

-- the rest has an authority, which follows two slashes
abbrev pub has_authority : List ℕ → Bool
has_authority rest = begins_with rest (codes "//")

-- the authority of a rest that has one
abbrev pub authority_in : List ℕ → List ℕ
authority_in rest = take_while (λ b. not (ends_authority b)) (drop 2 rest)

-- what follows the authority of a rest that has one
abbrev pub behind_authority : List ℕ → List ℕ
behind_authority rest = drop (length (authority_in rest)) (drop 2 rest)

-- the server that an authority names: what follows its last `@`, or all of it
abbrev pub server_in : List ℕ → List ℕ
server_in authority = after_last (λ b. b == 64) authority

-- the server has a colon after its last `]`, and so a port
abbrev pub has_port : List ℕ → Bool
has_port server = list_any is_colon (after_last (λ b. b == 93) server)

-- the part before the server's last colon, if it has a port; else all of it
abbrev pub host_in : List ℕ → List ℕ
host_in server = if has_port server then before_last is_colon server else server

-- the digits of the port, none if the server has no port
abbrev pub port_text : List ℕ → List ℕ
port_text server = if has_port server then after_last is_colon server else []

-- at most five digits
abbrev pub is_port : List ℕ → Bool
is_port text = nat_le (length text) 5 && list_all is_ascii_digit text

-- the number that the digits write; without digits there is no port
abbrev pub port_of : List ℕ → Option ℕ
port_of [] = None
port_of (digit ∷ digits) = Some (number_from_digits 10 (map (λ b. b - 48) (digit ∷ digits)))

-- the path as it is written: up to a question mark or a number sign; an opaque rest, which doesn't begin with a
-- slash, has none
abbrev pub path_text : List ℕ → List ℕ
path_text rest =
    if has_authority rest then take_while (λ b. not (ends_path b)) (behind_authority rest)
    else if begins_with rest (codes "/") then take_while (λ b. not (ends_path b)) rest
    else []

-- the text begins with two hexadecimal digits
abbrev pub begins_with_digits : List ℕ → Bool
begins_with_digits [] = false
begins_with_digits (high ∷ []) = false
begins_with_digits (high ∷ low ∷ others) = is_ascii_hexdigit high && is_ascii_hexdigit low

-- two hexadecimal digits follow each percent sign
abbrev pub is_escaped : List ℕ → Bool
is_escaped [] = true
is_escaped (b ∷ others) = (not (b == percent_sign) || begins_with_digits others) && is_escaped others

-- the rest has no authority, or its port is valid
abbrev pub is_port_good : List ℕ → Bool
is_port_good rest = not (has_authority rest) || is_port (port_text (server_in (authority_in rest)))

-- the host of a rest that has an authority
abbrev pub host_of : List ℕ → Option (List ℕ)
host_of rest = if has_authority rest then Some (host_in (server_in (authority_in rest))) else None

-- the port of a rest that has an authority with one
abbrev pub port_in : List ℕ → Option ℕ
port_in rest = if has_authority rest then port_of (port_text (server_in (authority_in rest))) else None

-- the profile: the parts of a rest
abbrev pub profile_parts : List ℕ → UriParts
profile_parts rest = record { host = host_of rest; port = port_in rest; path = percent_decode (path_text rest) }

-- a phone: a backslash ends an authority too
abbrev pub phone_ends_authority : ℕ → Bool
phone_ends_authority b = ends_authority b || (b == 92)

-- a phone: the authority of a rest that has one
abbrev pub phone_authority_in : List ℕ → List ℕ
phone_authority_in rest = take_while (λ b. not (phone_ends_authority b)) (drop 2 rest)

-- a phone: what follows the authority of a rest that has one
abbrev pub phone_behind_authority : List ℕ → List ℕ
phone_behind_authority rest = drop (length (phone_authority_in rest)) (drop 2 rest)

-- a phone: the authority has a colon behind which only digits follow
abbrev pub phone_has_port : List ℕ → Bool
phone_has_port authority = list_any is_colon authority && list_all is_ascii_digit (after_last is_colon authority)

-- a phone: the authority without its port
abbrev pub phone_without_port : List ℕ → List ℕ
phone_without_port authority = if phone_has_port authority then before_last is_colon authority else authority

-- a phone: the digits of the port, none if the authority has no port
abbrev pub phone_port_text : List ℕ → List ℕ
phone_port_text authority = if phone_has_port authority then after_last is_colon authority else []

-- a phone: a port of 31 bits, if it isn't greater
abbrev pub phone_port_of : Option ℕ → Option ℕ
phone_port_of None = None
phone_port_of (Some port) = if nat_le port 2147483647 then Some port else None

-- a phone: the path as it is written
abbrev pub phone_path_text : List ℕ → List ℕ
phone_path_text rest =
    if has_authority rest then take_while (λ b. not (ends_path b)) (phone_behind_authority rest) else path_text rest

-- the text with each bad escape, a percent sign without two hexadecimal digits behind it, and the digit that may stand
-- there, as a byte that no text has; whether a bad one comes just before
abbrev pub marked_from : Bool → List ℕ → List ℕ
marked_from bad [] = []
marked_from bad (b ∷ others) =
    if bad && is_ascii_hexdigit b then marked_from false others
    else if (b == percent_sign) && not (begins_with_digits others) then 255 ∷ marked_from true others
    else b ∷ marked_from false others

-- a phone: what a text's escapes stand for, with U+FFFD for bad escapes and for bytes that aren't UTF-8
abbrev pub phone_decoded : List ℕ → List ℕ
phone_decoded text = utf8_lossy (percent_decode (marked_from false text))

-- a phone: the host of a rest that has an authority
abbrev pub phone_host_of : List ℕ → Option (List ℕ)
phone_host_of rest =
    if has_authority rest then Some (phone_decoded (server_in (phone_without_port (phone_authority_in rest)))) else None

-- a phone: the port of a rest that has an authority with one
abbrev pub phone_port_in : List ℕ → Option ℕ
phone_port_in rest =
    if has_authority rest then phone_port_of (port_of (phone_port_text (phone_authority_in rest))) else None

-- a phone: the parts of a rest
abbrev pub phone_parts : List ℕ → UriParts
phone_parts rest = record {
  host = phone_host_of rest;
  port = phone_port_in rest;
  path = phone_decoded (phone_path_text rest);
}

-- the parts of a text whose rest this is, by both rules
abbrev pub parts_of : List ℕ → List ℕ → Uri
parts_of text rest = record {
  text = text;
  scheme = scheme_in text;
  profile = profile_parts rest;
  phone = phone_parts rest;
}

-- the URI that a text is, or the first fault that it has, which the profile names under both rules
unfoldable pub uri_of : List ℕ → Result Uri UriFault
uri_of text =
    if nat_lt 1024 (length text) then Err TooLong
    else if not (has_scheme text) then Err NoScheme
    else if not (is_port_good (rest_in text)) then Err BadPort
    else if not (is_escaped (path_text (rest_in text))) then Err BadEscape
    else if not (is_utf8 (percent_decode (path_text (rest_in text)))) then Err NotUtf8
    else Ok (parts_of text (rest_in text))
