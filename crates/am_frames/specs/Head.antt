-- What follows from a whole head at the front of the input: a frame, a defect, or a body that is cut off.
use Rattle.std.specs.Prelude.{ℕ, ◌+◌, ◌==◌, Bool, ◌||◌, List, map, length, slice_range, nat_le, if◌then◌else◌, Result, Ok, Err}
use Rattle.httparse.specs.Grammar.{RequestHead, print_request}
use Rattle.httparse.specs.Spans.{name_and_value}
use Rattle.am_frames.specs.declared.frame.Defect.{Defect}
use Rattle.am_frames.specs.Fields.{Header, body_length, key_of, connection_closes}

-- a whole frame: one request with its body
pub record Frame : Type 0 where
  pub method : List ℕ
  pub target : List ℕ
  -- the caller's key, which may be empty
  pub key : List ℕ
  pub body : List ℕ
  -- the peer asks to close the connection after the response
  pub close : Bool
  -- how many bytes the frame has, from its first empty line to the end of its body
  pub length : ℕ

-- the first step over an input: a frame, the end of the input, a defect, or an input that ends inside a frame
pub data Outcome : Type 0 where
  whole : Frame → Outcome
  empty : Outcome
  refused : Defect → Outcome
  cut : Outcome

-- what the tests read of a head: its words, minor version, fields and number of bytes
pub record Head : Type 0 where
  pub method : List ℕ
  pub target : List ℕ
  pub minor : ℕ
  pub headers : List Header
  pub size : ℕ

-- the same of a head of the grammar
abbrev pub head_of : RequestHead → Head
head_of h = record {
  method = h.method;
  target = h.target;
  minor = h.minor;
  headers = map name_and_value h.fields;
  size = length (print_request h);
}

-- the frame whose body is the next n bytes after the head
unfoldable pub frame_of : List ℕ → Head → ℕ → Frame
frame_of bytes head n = record {
  method = head.method;
  target = head.target;
  key = key_of head.headers;
  body = slice_range bytes head.size (head.size + n);
  close = (head.minor == 0) || connection_closes head.headers;
  length = head.size + n;
}

-- the outcome once the length of the body is known, or the head's defect
abbrev pub after_length : List ℕ → Head → Result ℕ Defect → Outcome
after_length bytes head (Err defect) = refused defect
after_length bytes head (Ok n) =
    if nat_le (head.size + n) (length bytes) then whole (frame_of bytes head n) else cut

-- the outcome for an input that begins with the head
unfoldable pub after_head : List ℕ → Head → Outcome
after_head bytes head = after_length bytes head (body_length head.method head.headers)
