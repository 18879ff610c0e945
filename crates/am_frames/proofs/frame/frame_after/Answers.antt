use Rattle.std.proofs.Common.{ℕ, Bool, List, sym, ap, ap₂, ◌∙◌, arith, length, slice_range, ◌+◌}
use Rattle.std.proofs.lemmas.Bool.{cond-true, cond-false, le-leb, lt-leb}
use Rattle.am_frames.specs.Fields.{body_length}
use Rattle.am_frames.specs.Head.{Frame, whole, frame_of, after_length, after_head}
use Rattle.am_frames.specs.FrameSpans.{headers_at, head_at}
use Rattle.am_frames.proofs.frame.frame_after.Goals as goal

pub returns-in-Err-clause-outcome : goal.returns-in-Err-clause-outcome
unfolding after_head
returns-in-Err-clause-outcome c =
    let bytes = c.args.bytes.now in
    let fields = headers_at bytes c.args.headers.now in
    let head = head_at bytes c.args.headers.now c.args.head.now in
    ap (after_length bytes head) (c.in-Err.ensures ∙ ap (λ (m : List ℕ). body_length m fields) c.of.ensures)

pub returns-then-bytes-head-clause-outcome : goal.returns-then-bytes-head-clause-outcome
unfolding after_head
returns-then-bytes-head-clause-outcome c =
    let bytes = c.args.bytes.now in
    let fields = headers_at bytes c.args.headers.now in
    let head = head_at bytes c.args.headers.now c.args.head.now in
    sym (cond-false _ _ _ (lt-leb (head.size + c.in-Ok.length) (length bytes) (omega arith)))
    ∙ ap (after_length bytes head) (c.in-Ok.ensures ∙ ap (λ (m : List ℕ). body_length m fields) c.of.ensures)

pub returns-clause-outcome : goal.returns-clause-outcome
unfolding after_head frame_of
returns-clause-outcome c =
    let bytes = c.args.bytes.now in
    let fields = headers_at bytes c.args.headers.now in
    let head = head_at bytes c.args.headers.now c.args.head.now in
    let n = c.in-Ok.length in
    let frame : List ℕ → Bool → Frame = λ k b. record {
      method = head.method;
      target = head.target;
      key = k;
      body = slice_range bytes head.size (head.size + n);
      close = b;
      length = head.size + n;
    } in
    ap₂ (λ (k : List ℕ) (b : Bool). whole (frame k b)) c.find_key.ensures.key c.asks_close.ensures
    ∙ sym (cond-true _ _ _ (le-leb (head.size + n) (length bytes) (omega arith)))
    ∙ ap (after_length bytes head) (c.in-Ok.ensures ∙ ap (λ (m : List ℕ). body_length m fields) c.of.ensures)
