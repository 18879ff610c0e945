use Rattle.std.proofs.Common.{ℕ, take}
use Rattle.std.specs.Prelude.{All}
use Rattle.httparse.specs.Spans.{IsHeaderWithin}
use Rattle.am_frames.specs.Fields.{values_of}
use Rattle.am_frames.specs.FrameSpans.{headers_at, IsNamedBy, IsNamedWithin}
use Rattle.am_frames.proofs.fields.find_named.Given as goal

abbrev pub invariant-loop-header : goal.invariant-loop-header
invariant-loop-header l =
    IsNamedBy l.bytes (values_of l.name (headers_at l.bytes (take l.header-index l.headers))) l.found
    × ((n : ℕ) → All (IsHeaderWithin n) l.headers → IsNamedWithin n l.found)
