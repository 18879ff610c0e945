-- The readers' results, compared with the definitions.
use Rattle.std.specs.Prelude.{◌≡◌, Bool, true, false, Result, Ok, Err, IsOk, IsTrue}
use Rattle.am_types.specs.declared.uri.Uri.{Uri}
use Rattle.am_types.specs.declared.uri.UriFault.{UriFault}
use Rattle.am_types.specs.declared.uri.UriFault.TheVariants as fault
use Rattle.am_types.specs.declared.uri.Mime.{Mime}
use Rattle.am_types.specs.declared.uri.MimeFault.{MimeFault}
use Rattle.am_types.specs.declared.uri.MimeFault.TheVariants.{NoSlash, EmptyPart, BadCharacter, NoMemory}

-- the path is decoded
abbrev pub is_decoded : Result Uri UriFault → Bool
is_decoded (Ok uri) = true
is_decoded (Err fault.NoScheme) = false
is_decoded (Err fault.BadPort) = false
is_decoded (Err fault.BadEscape) = false
is_decoded (Err fault.NotUtf8) = true
is_decoded (Err fault.TooLong) = false
is_decoded (Err fault.NoMemory) = false

-- the result is the definition's; decoding a path may run out of memory
abbrev pub IsUriAnswer : Result Uri UriFault → Result Uri UriFault → Type 0
IsUriAnswer wanted (Ok uri) = wanted ≡ Ok uri
IsUriAnswer wanted (Err fault.NoScheme) = wanted ≡ Err fault.NoScheme
IsUriAnswer wanted (Err fault.BadPort) = wanted ≡ Err fault.BadPort
IsUriAnswer wanted (Err fault.BadEscape) = wanted ≡ Err fault.BadEscape
IsUriAnswer wanted (Err fault.NotUtf8) = wanted ≡ Err fault.NotUtf8
IsUriAnswer wanted (Err fault.TooLong) = wanted ≡ Err fault.TooLong
IsUriAnswer wanted (Err fault.NoMemory) = IsTrue (is_decoded wanted)

-- the result is the definition's; only a MIME type may run out of memory
abbrev pub IsMimeAnswer : Result Mime MimeFault → Result Mime MimeFault → Type 0
IsMimeAnswer wanted (Ok mime) = wanted ≡ Ok mime
IsMimeAnswer wanted (Err NoSlash) = wanted ≡ Err NoSlash
IsMimeAnswer wanted (Err EmptyPart) = wanted ≡ Err EmptyPart
IsMimeAnswer wanted (Err BadCharacter) = wanted ≡ Err BadCharacter
IsMimeAnswer wanted (Err NoMemory) = IsOk wanted
