-- Readers in memory that aren't ready now and then, as their calls see them.
use Rattle.std.specs.Prelude.{Bool, true, false}
use Rattle.am_outside.specs.Memory.{one_more}
use Rattle.am_network.specs.declared.resting_reader.RestingReader.{RestingReader}

-- the reader once it was asked whether it is ready, and said so or not
abbrev pub asked : RestingReader → Bool → RestingReader
asked reader true = record reader { asks = one_more reader.asks }
asked reader false = record reader { asks = one_more reader.asks; waits = one_more reader.waits }
