-- What a connection is served with, as clauses see it.
use Rattle.std.specs.Prelude.{◌≡◌, ℕ, suc, ◌≤◌, List, [], ◌∷◌, Option}
use Rattle.std.specs.Io.KnownBytes.{prepend_known}
use Rattle.am_outside.specs.Clock.{IsTold}
use Rattle.am_outside.specs.declared.outside.Source.{Ghosts as SourceGhosts}
use Rattle.am_outside.specs.declared.outside.Sink.{Ghosts as SinkGhosts}
use Rattle.am_outside.specs.declared.clock.Clock.{Ghosts as ClockGhosts}
use Rattle.am_history.specs.Desks.{DeskView, IsSameDesk, start_of}
use Rattle.am_history.specs.History.{IsLegal}

-- a source: what is left, if it tells that, its count of faults, and its mark
pub record SourceView : Type 0 where
  pub left : Option (List ℕ)
  pub faults : ℕ
  pub mark : ℕ

-- a sink: what it took, if it tells that, its count of faults, and its mark
pub record SinkView : Type 0 where
  pub taken : Option (List ℕ)
  pub faults : ℕ
  pub mark : ℕ

-- the view of a source, and of a sink
abbrev pub source_of : {S : Type 0} → SourceGhosts S → S → SourceView
source_of g source = record { left = g.left source; faults = g.faults source; mark = g.mark source }

abbrev pub sink_of : {W : Type 0} → SinkGhosts W → W → SinkView
sink_of g sink = record { taken = g.taken sink; faults = g.faults sink; mark = g.mark sink }

-- the moments that a clock will answer to its calls, counted from 0, if it tells them
abbrev pub Moments : Type 0
Moments = ℕ → Option ℕ

-- what answers frames: the desk on which the calls are made, and the clock that gives their moments
pub record Server : Type 0 where
  pub desk : DeskView
  pub clock : Moments

-- what a connection is served with: who answers, where its bytes come from, and where the responses go
pub record Link : Type 0 where
  pub server : Server
  pub source : SourceView
  pub sink : SinkView

-- what a connection is served over: the input, the output, and the moments that the clock tells
pub record Streams : Type 0 where
  pub input : SourceView
  pub output : SinkView
  pub clock : Moments

abbrev pub streams_of : {S W C : Type 0} → SourceGhosts S → SinkGhosts W → ClockGhosts C → S → W → C → Streams
streams_of s w c input output clock =
    record { input = source_of s input; output = sink_of w output; clock = c.moments clock }

-- a desk with the clock, the input and the output
abbrev pub link_of : DeskView → Streams → Link
link_of desk streams = record {
  server = record { desk = desk; clock = streams.clock };
  source = streams.input;
  sink = streams.output;
}

-- a connection between two frames: what it is served with, the bytes that were read and not used yet, and the least place
-- of a later call
pub record Midway : Type 0 where
  pub link : Link
  pub window : List ℕ
  pub least : ℕ

-- what is told to be left of the input between two frames
abbrev pub rest_of : Midway → Option (List ℕ)
rest_of mid = prepend_known mid.window mid.link.source.left

-- the clock answered these moments, one after the other, as it had told, and what it tells of its later calls is the
-- same as before
abbrev pub Gives : Moments → List ℕ → Moments → Type 0
Gives old [] new = (calls : ℕ) → new calls ≡ old calls
Gives old (first ∷ others) new = IsTold (old 0) first × Gives (λ calls. old (suc calls)) others new

-- it is the same desk, and if its history could have been made before, it still could
pub record GoesOn (old new : DeskView) : Type 0 where
  pub desk : IsSameDesk old new
  pub legal : IsLegal (start_of old) old.seen → IsLegal (start_of old) new.seen

-- it is the same source, whose faults don't fall
pub record IsSameSource (old new : SourceView) : Type 0 where
  pub mark : new.mark ≡ old.mark
  pub never_falls : old.faults ≤ new.faults

-- it is the same sink, whose faults don't fall
pub record IsSameSink (old new : SinkView) : Type 0 where
  pub mark : new.mark ≡ old.mark
  pub never_falls : old.faults ≤ new.faults

-- a connection is served with the same things
pub record IsSameLink (old new : Link) : Type 0 where
  pub desk : GoesOn old.server.desk new.server.desk
  pub source : IsSameSource old.source new.source
  pub sink : IsSameSink old.sink new.sink
