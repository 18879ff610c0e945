-- The hasher that each hash begins with.
use Rattle.std.specs.Prelude.{Option, Some, None}
use Rattle.std.specs.declared.hash.DefaultHasher.{DefaultHasher}
use Rattle.std.specs.Hash.DefaultHasher.{initial}
use Rattle.std.specs.declared.hash.RandomState.{RandomState}
use Rattle.std.specs.RandomState.{initial_hasher}
use Rattle.am_pending.specs.declared.hashing.Hashing.{Hashing}

-- under the keys that were drawn, or under publicly known ones
abbrev pub hasher_under : Option RandomState → DefaultHasher
hasher_under None = initial
hasher_under (Some keys) = initial_hasher keys

abbrev pub hasher_of : Hashing → DefaultHasher
hasher_of hashing = hasher_under hashing.drawn
