-- The finder's answers, seen as the values that they stand for.
use Rattle.std.specs.Prelude.{◌≡◌, ℕ, ◌≤◌, List, [], ◌∷◌, map, ⊤}
use Rattle.httparse.specs.declared.spans.Span.{Span}
use Rattle.httparse.specs.declared.spans.HeaderSpan.{HeaderSpan}
use Rattle.httparse.specs.declared.spans.RequestSpans.{RequestSpans}
use Rattle.httparse.specs.Spans.{span_bytes, IsWithin, header_bytes}
use Rattle.am_frames.specs.declared.fields.Named.{Named}
use Rattle.am_frames.specs.declared.fields.Named.TheVariants.{Absent, Once, Repeated}
use Rattle.am_frames.specs.declared.frame.FrameSpans.{FrameSpans}
use Rattle.am_frames.specs.declared.frame.WholeFrame.{WholeFrame}
use Rattle.am_frames.specs.declared.frame.Found.{Found}
use Rattle.am_frames.specs.declared.frame.Found.TheVariants as Spans
use Rattle.am_frames.specs.declared.frame.Framing.{Framing}
use Rattle.am_frames.specs.declared.frame.Framing.TheVariants as Slices
use Rattle.am_frames.specs.Fields.{Header}
use Rattle.am_frames.specs.Head.{Frame, Outcome, whole, empty, refused, cut, Head}

-- the frame that the spans cover
abbrev pub frame_at : List ℕ → FrameSpans → Frame
frame_at bytes s = record {
  method = span_bytes bytes s.method;
  target = span_bytes bytes s.target;
  key = span_bytes bytes s.key;
  body = span_bytes bytes s.body;
  close = s.close;
  length = s.length;
}

-- the outcome that the spans stand for
abbrev pub outcome_at : List ℕ → Found → Outcome
outcome_at bytes (Spans.Whole s) = whole (frame_at bytes s)
outcome_at bytes Spans.Empty = empty
outcome_at bytes (Spans.Refused defect) = refused defect
outcome_at bytes Spans.Cut = cut

-- each span lies in the frame's bytes
pub record IsFrameWithin (s : FrameSpans) : Type 0 where
  pub method : IsWithin s.length s.method
  pub target : IsWithin s.length s.target
  pub key : IsWithin s.length s.key
  pub body : IsWithin s.length s.body

-- the frame lies in the first n bytes, and its spans in the frame
abbrev pub IsFoundWithin : ℕ → Found → Type 0
IsFoundWithin n (Spans.Whole s) = (s.length ≤ n) × IsFrameWithin s
IsFoundWithin n Spans.Empty = ⊤
IsFoundWithin n (Spans.Refused defect) = ⊤
IsFoundWithin n Spans.Cut = ⊤

-- the frame that the slices hold
abbrev pub frame_held : WholeFrame → Frame
frame_held f = record {
  method = f.method.now;
  target = f.target.now;
  key = f.key.now;
  body = f.body.now;
  close = f.close;
  length = f.length;
}

-- the outcome that the slices stand for
abbrev pub outcome_held : Framing → Outcome
outcome_held (Slices.Whole f) = whole (frame_held f)
outcome_held Slices.Empty = empty
outcome_held (Slices.Refused defect) = refused defect
outcome_held Slices.Cut = cut

-- the fields that the spans cover
abbrev pub headers_at : List ℕ → List HeaderSpan → List Header
headers_at bytes headers = map (header_bytes bytes) headers

-- the head that the spans cover
abbrev pub head_at : List ℕ → List HeaderSpan → RequestSpans → Head
head_at bytes headers r = record {
  method = span_bytes bytes r.method;
  target = span_bytes bytes r.path;
  minor = r.version;
  headers = headers_at bytes headers;
  size = r.len;
}

-- there is no value, one value, which the span covers, or several, of which it covers the first
abbrev pub IsNamedBy : List ℕ → List (List ℕ) → Named → Type 0
IsNamedBy bytes values Absent = values ≡ []
IsNamedBy bytes values (Once s) = values ≡ span_bytes bytes s ∷ []
IsNamedBy bytes values (Repeated s) =
    (other : List ℕ) × (more : List (List ℕ)) × (values ≡ span_bytes bytes s ∷ other ∷ more)

-- the span lies in the first n bytes
abbrev pub IsNamedWithin : ℕ → Named → Type 0
IsNamedWithin n Absent = ⊤
IsNamedWithin n (Once s) = IsWithin n s
IsNamedWithin n (Repeated s) = IsWithin n s

-- what was found, with one more value after it
abbrev pub with_value : Named → Span → Named
with_value Absent s = Once s
with_value (Once first) s = Repeated first
with_value (Repeated first) s = Repeated first
