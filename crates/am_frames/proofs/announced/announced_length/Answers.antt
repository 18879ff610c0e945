use Rattle.std.proofs.Common.{◌≡◌, ℕ, ◌+◌, ◌≤◌, List, length, take, sym, subst, ap, ◌∙◌, arith}
use Rattle.std.specs.Prelude.{Ok}
use Rattle.std.proofs.lemmas.Bool.{cond-true, eq-eqb}
use Rattle.std.proofs.lemmas.List.{take_min, length-take}
use Rattle.am_frames.specs.Fields.{body_length}
use Rattle.am_frames.specs.Head.{Head, after_length, after_head}
use Rattle.am_frames.specs.FrameSpans.{headers_at, head_at}
use Rattle.am_frames.specs.Announced.{HasLength}
use Rattle.am_frames.proofs.AnnouncedLemmas.{HasLength-from_head, IsRefused-from_framing}
use Rattle.am_frames.proofs.FramingLemmas.{body_length-le}
use Rattle.am_frames.proofs.WindowLemmas.{head-from_found, waits-from_partial, IsFraming-from_found, IsFraming-from_partial, IsFraming-from_refusal}
use Rattle.am_frames.proofs.announced.announced_length.Goals as goal

pub overflow_add-result : goal.overflow_add-result
overflow_add-result c =
    let bytes = c.args.bytes.now in
    let fields = headers_at bytes (take c.in-Ok-Complete.head.headers c.parse_request.new.headers) in
    let within = rw c.in-Ok-Complete.field-0-is at c.in-Ok-Complete.ensures.within in
    let inside = within.section.len_fits in
    let short = length-take c.min.result bytes in
    let few = body_length-le c.of.result.now fields c.in-Ok.body (sym c.in-Ok.ensures) in
    omega arith

pub returns-in-Ok : goal.returns-in-Ok
returns-in-Ok c =
    let bytes = c.args.bytes.now in
    let n = c.in-Ok.body in
    let headers = take c.in-Ok-Complete.head.headers c.parse_request.new.headers in
    let is = ap (λ (n : ℕ). take n bytes) c.min.ensures ∙ take_min 8192 bytes in
    let found = head-from_found bytes (take c.min.result bytes) is c.parse_request.new.headers c.in-Ok-Complete.head
    (omega arith)
    (rw c.in-Ok-Complete.field-0-is at c.in-Ok-Complete.ensures.within)
    (rw c.in-Ok-Complete.field-0-is at c.in-Ok-Complete.ensures.complete) in
    let states : body_length (head_at bytes headers c.in-Ok-Complete.head).method (headers_at bytes headers) ≡ Ok n =
    sym (c.in-Ok.ensures ∙ ap (λ (m : List ℕ). body_length m (headers_at bytes headers)) c.of.ensures) in
    subst (λ (k : Head). HasLength bytes (k.size + n)) (sym found.2)
    (HasLength-from_head bytes found.0 n found.1
    (subst (λ (k : Head). body_length k.method k.headers ≡ Ok n) found.2 states))

pub returns-in-Err-body_length : goal.returns-in-Err-body_length
unfolding after_head
returns-in-Err-body_length c =
    let bytes = c.args.bytes.now in
    let headers = take c.in-Ok-Complete.head.headers c.parse_request.new.headers in
    let head = head_at bytes headers c.in-Ok-Complete.head in
    let is = ap (λ (n : ℕ). take n bytes) c.min.ensures ∙ take_min 8192 bytes in
    IsRefused-from_framing bytes _
    (IsFraming-from_found bytes (take c.min.result bytes) is c.parse_request.new.headers c.in-Ok-Complete.head _
    (omega arith)
    (rw c.in-Ok-Complete.field-0-is at c.in-Ok-Complete.ensures.within)
    (rw c.in-Ok-Complete.field-0-is at c.in-Ok-Complete.ensures.complete)
    (ap (after_length bytes head) (c.in-Err-body_length.ensures
    ∙ ap (λ (m : List ℕ). body_length m (headers_at bytes headers)) c.of.ensures)))

pub returns-then-window-eq-MAX_HEAD : goal.returns-then-window-eq-MAX_HEAD
returns-then-window-eq-MAX_HEAD c =
    let bytes = c.args.bytes.now in
    let is = ap (λ (n : ℕ). take n bytes) c.min.ensures ∙ take_min 8192 bytes in
    IsRefused-from_framing bytes _
    (IsFraming-from_partial bytes (take c.min.result bytes) is _
    (rw c.in-Ok-Partial.field-0-is at c.in-Ok-Partial.ensures.partial)
    (rw c.in-Ok-Partial.field-0-is at c.in-Ok-Partial.ensures.unfinished)
    (sym (cond-true _ _ _ (eq-eqb _ 8192 c.if-window-eq-MAX_HEAD.true))))

pub returns-else-window-eq-MAX_HEAD : goal.returns-else-window-eq-MAX_HEAD
returns-else-window-eq-MAX_HEAD c =
    let bytes = c.args.bytes.now in
    let is = ap (λ (n : ℕ). take n bytes) c.min.ensures ∙ take_min 8192 bytes in
    let waits = waits-from_partial bytes (take c.min.result bytes) is
    (rw c.in-Ok-Partial.field-0-is at c.in-Ok-Partial.ensures.partial)
    (rw c.in-Ok-Partial.field-0-is at c.in-Ok-Partial.ensures.unfinished) in
    (waits.0, waits.1, omega (arith, length-take c.min.result bytes, c.min.ensures, c.if-window-eq-MAX_HEAD.false))

pub returns-in-Err : goal.returns-in-Err
returns-in-Err c =
    let bytes = c.args.bytes.now in
    let is = ap (λ (n : ℕ). take n bytes) c.min.ensures ∙ take_min 8192 bytes in
    IsRefused-from_framing bytes _
    (IsFraming-from_refusal bytes (take c.min.result bytes) is c.in-Err.ensures.no_room)
