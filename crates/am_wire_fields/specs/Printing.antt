-- How a fault is printed.
use Rattle.std.specs.Prelude.{ℕ, codes, List, ◌++◌}
use Rattle.std.specs.Fmt.{decimal}
use Rattle.am_types.specs.declared.uri.UriFault.{UriFault}
use Rattle.am_types.specs.declared.uri.UriFault.TheVariants as uris
use Rattle.am_types.specs.declared.uri.MimeFault.{MimeFault}
use Rattle.am_types.specs.declared.uri.MimeFault.TheVariants as mimes
use Rattle.am_wire_fields.specs.declared.fault.WireFault.{WireFault}
use Rattle.am_wire_fields.specs.declared.fault.WireFault.TheVariants.{NotJson, Missing, WrongKind, UnknownField, BadUri, BadMime, TooLong}

-- the number of a fault of a URI (`NoMemory`, which no body has, is last)
abbrev pub uri_number : UriFault → ℕ
uri_number uris.NoScheme = 1
uri_number uris.BadPort = 2
uri_number uris.BadEscape = 3
uri_number uris.NotUtf8 = 4
uri_number uris.TooLong = 5
uri_number uris.NoMemory = 6

-- the number of a fault of a MIME type (`NoMemory`, which no body has, is last)
abbrev pub mime_number : MimeFault → ℕ
mime_number mimes.NoSlash = 1
mime_number mimes.EmptyPart = 2
mime_number mimes.BadCharacter = 3
mime_number mimes.NoMemory = 4

-- a fault as a refusal names it
abbrev pub printed : WireFault → List ℕ
printed NotJson = codes "not_json"
printed (Missing name) = codes "missing " ++ name
printed (WrongKind name) = codes "wrong_kind " ++ name
printed (UnknownField key) = codes "unknown_field " ++ key
printed (BadUri fault) = codes "bad_uri " ++ decimal (uri_number fault)
printed (BadMime fault) = codes "bad_mime " ++ decimal (mime_number fault)
printed (TooLong name) = codes "too_long " ++ name
