use Rattle.std.proofs.Common.{◌≡◌, drop, codes}
use Rattle.std.specs.List.{list_any}
use Rattle.am_frames.specs.Fields.{values_of, lists_close}
use Rattle.am_frames.specs.FrameSpans.{headers_at}
use Rattle.am_frames.proofs.fields.connection_closes.Given as goal

abbrev pub invariant-loop-header : goal.invariant-loop-header
invariant-loop-header l =
    list_any lists_close (values_of (codes "Connection") (headers_at l.bytes (drop l.header-index l.headers)))
    ≡ list_any lists_close (values_of (codes "Connection") (headers_at l.bytes l.headers))
