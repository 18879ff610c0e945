-- The world of a run: all that it may touch. A function that is handed only some parts of it promises its relation for
-- whatever the other parts are.
use Rattle.std.specs.Prelude.{ℕ, Bool, List}
use Rattle.am_keeper.specs.declared.rows.Rows.{Rows}
use Rattle.am_keeper.specs.declared.keeper.Store.{Ghosts as StoreGhosts}
use Rattle.am_network.specs.declared.network.Network.{Ghosts as NetworkGhosts}
use Rattle.am_outside.specs.declared.clock.Clock.{Ghosts as ClockGhosts}
use Rattle.am_outside.specs.declared.files.Files.{Ghosts as FilesGhosts}
use Rattle.am_outside.specs.declared.outside.Sink.{Ghosts as SinkGhosts}
use Rattle.am_outside.specs.declared.outside.Source.{Ghosts as SourceGhosts}
use Rattle.am_console.specs.Files.{Shelf, shelf_of}
use Rattle.am_console.specs.Telling.{Voices}
use Rattle.am_http.specs.Links.{Moments, SinkView, SourceView, Streams, sink_of, source_of}
use Rattle.am_workers.specs.Serving.{NetworkView, network_of}

-- a store of kept rows: whether it tells its rows, those at each place, and its counts of failed attaches and of the
-- faults of its keepers
pub record StoreView : Type 0 where
  pub tells : Bool
  pub rows : List ℕ → Rows
  pub failed : ℕ
  pub faults : ℕ

abbrev pub store_of : {T K : Type 0} → StoreGhosts T K → T → StoreView
store_of g store = record {
  tells = g.tells store;
  rows = g.rows_at store;
  failed = g.failed_attaches store;
  faults = g.keeper_faults store;
}

-- the files, the store of the kept rows, the input, the output, the moments that the clock will answer, if it tells
-- them, the network and the errors
pub record World : Type 0 where
  pub files : Shelf
  pub store : StoreView
  pub input : SourceView
  pub output : SinkView
  pub clock : Moments
  pub network : NetworkView
  pub errors : SinkView

abbrev pub world_of : {F T K S W C N G R L E : Type 0} → FilesGhosts F → StoreGhosts T K → SourceGhosts S → SinkGhosts W
    → ClockGhosts C → NetworkGhosts N G R L → SinkGhosts E → F → T → S → W → C → N → E → World
world_of f t s w c n e files store input output clock network errors = record {
  files = shelf_of f files;
  store = store_of t store;
  input = source_of s input;
  output = sink_of w output;
  clock = c.moments clock;
  network = network_of n network;
  errors = sink_of e errors;
}

-- what a connection is served over: the input, the output and the clock
abbrev pub streams_in : World → Streams
streams_in w = record { input = w.input; output = w.output; clock = w.clock }

abbrev pub with_streams : World → Streams → World
with_streams w streams = record w { input = streams.input; output = streams.output; clock = streams.clock }

-- what is printed on: the output and the errors
abbrev pub voices_in : World → Voices
voices_in w = record { output = w.output; errors = w.errors }

abbrev pub with_voices : World → Voices → World
with_voices w voices = record w { output = voices.output; errors = voices.errors }
