-- The parts of a URI.
use Rattle.am_types.specs.declared.device.Rules.{Rules}
use Rattle.am_types.specs.declared.device.Rules.TheVariants.{Profile, Android12}
use Rattle.am_types.specs.declared.uri.Uri.{Uri}
use Rattle.am_types.specs.declared.uri.UriParts.{UriParts}

-- the parts of a URI by the device's rules
abbrev pub parts_by : Rules → Uri → UriParts
parts_by Profile uri = uri.profile
parts_by Android12 uri = uri.phone
