-- What the parser says of the window, as the first step over the whole input.
use Rattle.std.proofs.Common.{◌≡◌, ◌≢◌, ℕ, ◌-◌, ◌<◌, ◌≤◌, List, [], ◌∷◌, ◌++◌, length, take, drop, refl, sym, ap, ◌∙◌, subst, arith}
use Rattle.std.specs.Prelude.{All}
use Rattle.std.proofs.lemmas.Bool.{cond-false, ne_eqb}
use Rattle.std.proofs.lemmas.List.{length-take, length-drop, length-map, take-append-drop, take-append-le, drop-append-le}
use Rattle.std.proofs.lemmas.List.Elements.{All-head, All-tail}
use Rattle.httparse.specs.declared.spans.Span.{Span}
use Rattle.httparse.specs.declared.spans.HeaderSpan.{HeaderSpan}
use Rattle.httparse.specs.declared.spans.RequestSpans.{RequestSpans}
use Rattle.httparse.specs.Grammar.{RequestHead, ReadsRequest, HasNoRequest, MayBecomeRequest}
use Rattle.httparse.specs.Spans.{span_bytes, IsWithin, IsHeaderWithin, header_bytes, name_and_value, IsRequestWithin, IsRequestAt, IsRequestOf, RequestOverflows}
use Rattle.am_frames.specs.declared.frame.Defect.TheVariants.{BadHead}
use Rattle.am_frames.specs.Head.{Outcome, empty, refused, cut, head_of, after_head}
use Rattle.am_frames.specs.Framing.{window, BeginsWithHead, HasNoHead, MayWait, IsFraming, by_head, by_dead, by_wait, without_head}
use Rattle.am_frames.specs.FrameSpans.{head_at, headers_at}
use Rattle.am_frames.proofs.WaitLemmas.{MayWait-from_MayBecome, MayWait-nil, print_request-some}

-- more bytes at the end do not change what a span covers
span_bytes-append : (a b : List ℕ) (s : Span) → IsWithin (length a) s → span_bytes (a ++ b) s ≡ span_bytes a s
span_bytes-append a b s within =
    ap (take (s.end - s.start)) (drop-append-le s.start a b (omega arith))
    ∙ take-append-le (s.end - s.start) (drop s.start a) b (omega (arith, length-drop s.start a))

headers_at-append : (a b : List ℕ) (headers : List HeaderSpan) → All (IsHeaderWithin (length a)) headers
    → headers_at (a ++ b) headers ≡ headers_at a headers
headers_at-append a b [] within = refl
headers_at-append a b (h ∷ hs) within =
    let here = All-head (IsHeaderWithin (length a)) h hs within in
    let later = headers_at-append a b hs (All-tail (IsHeaderWithin (length a)) h hs within) in
    λ i. (span_bytes-append a b h.name here.0 i, span_bytes-append a b h.value here.1 i) ∷ later i

module _ (bytes w : List ℕ) (is : w ≡ window bytes) where
  whole_input : bytes ≡ w ++ drop 8192 bytes
  whole_input = sym (take-append-drop 8192 bytes) ∙ ap (λ (t : List ℕ). t ++ drop 8192 bytes) (sym is)

  module _ (headers : List HeaderSpan) (r : RequestSpans) (h : RequestHead)
      (within : IsRequestWithin w headers r) (at : IsRequestAt w headers r h) where
    all_within : All (IsHeaderWithin (length w)) (take r.headers headers)
    all_within k d below =
        let here = within.section.headers_fit k d below in
        let fits = within.section.len_fits in
        ((here.0.0, omega arith), (here.1.0, omega arith))

    span_in_input : (s : Span) → IsWithin r.len s → span_bytes bytes s ≡ span_bytes w s
    span_in_input s inside =
        let fits = within.section.len_fits in
        ap (λ (t : List ℕ). span_bytes t s) whole_input
        ∙ span_bytes-append w (drop 8192 bytes) s (inside.0, omega arith)

    head_at_is : head_at bytes (take r.headers headers) r ≡ head_of h
    head_at_is =
        let method = span_in_input r.method within.method ∙ at.method in
        let target = span_in_input r.path within.path ∙ at.path in
        let fields =
        ap (λ (t : List ℕ). headers_at t (take r.headers headers)) whole_input
        ∙ headers_at-append w (drop 8192 bytes) (take r.headers headers) all_within ∙ at.fields in
        λ i. record {
          method = method i;
          target = target i;
          minor = at.version i;
          headers = fields i;
          size = at.len i;
        }

    few_fields : length headers ≤ 64 → length h.fields ≤ 64
    few_fields room =
        omega (
          arith,
          ap length at.fields,
          length-map (take r.headers headers) (header_bytes w),
          length-map h.fields name_and_value,
          length-take r.headers headers,
        )

  -- a head that the parser found
  pub head-from_found : (headers : List HeaderSpan) (r : RequestSpans) → length headers ≤ 64
      → IsRequestWithin w headers r → IsRequestOf w headers r
      → (h : RequestHead) × BeginsWithHead (window bytes) h × (head_at bytes (take r.headers headers) r ≡ head_of h)
  head-from_found headers r room within of = (
    of.0,
    (
      drop r.len w,
      subst (λ (t : List ℕ). ReadsRequest t of.0 (drop r.len w)) is of.1.reads,
      few_fields headers r of.0 within of.1 room,
    ),
    head_at_is headers r of.0 within of.1,
  )

  pub IsFraming-from_found : (headers : List HeaderSpan) (r : RequestSpans) (outcome : Outcome) → length headers ≤ 64
      → IsRequestWithin w headers r → IsRequestOf w headers r
      → outcome ≡ after_head bytes (head_at bytes (take r.headers headers) r) → IsFraming bytes outcome
  IsFraming-from_found headers r outcome room within of e =
      let found = head-from_found headers r room within of in
      by_head found.0 found.1 (e ∙ ap (after_head bytes) found.2)

  -- a window that the parser waits in
  pub waits-from_partial : HasNoRequest w → MayBecomeRequest w → HasNoHead (window bytes) × MayWait (window bytes)
  waits-from_partial none may =
      (subst HasNoHead is (λ h b. none h b.0 b.1), subst MayWait is (MayWait-from_MayBecome w may))

  pub IsFraming-from_partial : (outcome : Outcome) → HasNoRequest w → MayBecomeRequest w → outcome ≡ without_head w
      → IsFraming bytes outcome
  IsFraming-from_partial outcome none may e =
      let waits = waits-from_partial none may in
      by_wait waits.0 waits.1 (e ∙ ap without_head is)

  -- a window that the parser refused
  pub IsFraming-from_refusal : RequestOverflows 64 w → IsFraming bytes (refused BadHead)
  IsFraming-from_refusal dead = by_dead (subst (RequestOverflows 64) is dead) refl

-- no bytes
pub IsFraming-nil : (bytes : List ℕ) → bytes ≡ [] → IsFraming bytes empty
IsFraming-nil bytes none =
    subst (λ (t : List ℕ). IsFraming t empty) (sym none)
    (by_wait (λ h b. print_request-some h b.0 b.1.1) MayWait-nil refl)

-- a window that is neither full nor empty
pub without_head-cut : (text : List ℕ) → length text ≢ 8192 → 0 < length text → cut ≡ without_head text
without_head-cut text other some =
    sym (cond-false _ _ _ (ne_eqb (length text) 8192 other) ∙ cond-false _ _ _ (ne_eqb (length text) 0 (omega arith)))
