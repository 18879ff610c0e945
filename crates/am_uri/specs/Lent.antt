-- The parts of a URI before they are copied.
use Rattle.std.specs.Prelude.{◌≡◌, ℕ, true, false, not, List, Option, Result, Ok, Err, if◌then◌else◌, ⊤}
use Rattle.std.specs.Borrow.{Bor}
use Rattle.std.specs.Option.{option_copied}
use Rattle.std.specs.Str.{is_utf8}
use Rattle.percent_encoding.specs.Percent.{percent_decode}
use Rattle.am_types.specs.declared.uri.Uri.{Uri}
use Rattle.am_types.specs.declared.uri.UriFault.{UriFault}
use Rattle.am_types.specs.declared.uri.UriFault.TheVariants.{NoScheme, BadPort, BadEscape, NotUtf8, TooLong, NoMemory}
use Rattle.am_model.specs.Uris.{is_port_good, host_of, phone_parts, port_in}
use Rattle.am_uri.specs.declared.uri.Written.{Written}

-- the URI of a text, from these parts and this path
abbrev pub uri_with : List ℕ → Written → List ℕ → Uri
uri_with text parts path = record {
  text = text;
  scheme = parts.scheme.now;
  profile = record { host = option_copied parts.host; port = parts.port; path = path };
  phone = phone_parts parts.rest.now;
}

-- the URI of a text, from these parts, or the error that its path isn't UTF-8
abbrev pub decoded : List ℕ → Written → Result Uri UriFault
decoded text parts =
    if not (is_utf8 (percent_decode parts.path.now)) then Err NotUtf8
    else Ok (uri_with text parts (percent_decode parts.path.now))

-- the parts are those of the expected URI, whose path is still to be decoded, or the fault is the expected one
abbrev pub IsWritten : List ℕ → Result Uri UriFault → Result Written UriFault → Type 0
IsWritten text wanted (Ok parts) = wanted ≡ decoded text parts
IsWritten text wanted (Err NoScheme) = wanted ≡ Err NoScheme
IsWritten text wanted (Err BadPort) = wanted ≡ Err BadPort
IsWritten text wanted (Err BadEscape) = wanted ≡ Err BadEscape
IsWritten text wanted (Err NotUtf8) = ⊥
IsWritten text wanted (Err TooLong) = wanted ≡ Err TooLong
IsWritten text wanted (Err NoMemory) = ⊥

-- the host and the port of the rest, or the error that its port isn't valid
abbrev pub Serves : List ℕ → Result (Option (Bor (List ℕ)) × Option ℕ) UriFault → Type 0
Serves rest (Ok server) = (is_port_good rest ≡ true) × (option_copied server.0 ≡ host_of rest)
    × (server.1 ≡ port_in rest)
Serves rest (Err fault) = (fault ≡ BadPort) × (is_port_good rest ≡ false)

-- the path is decoded, or the decoded path isn't UTF-8, or memory runs out
abbrev pub Decodes : List ℕ → Result (List ℕ) UriFault → Type 0
Decodes path (Ok text) = (is_utf8 (percent_decode path) ≡ true) × (text ≡ percent_decode path)
Decodes path (Err NoScheme) = ⊥
Decodes path (Err BadPort) = ⊥
Decodes path (Err BadEscape) = ⊥
Decodes path (Err NotUtf8) = is_utf8 (percent_decode path) ≡ false
Decodes path (Err TooLong) = ⊥
Decodes path (Err NoMemory) = ⊤
