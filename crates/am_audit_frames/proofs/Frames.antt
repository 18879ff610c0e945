-- The whole frame at the front of an input, and what is written last where there is none.
use Rattle.std.proofs.Common.{◌≡◌, ℕ, ◌<◌, ◌≤◌, ◌==◌, ◌⊎◌, Bool, true, false, cond, List, [], length, drop, refl, sym, ap, ◌∙◌, subst, arith, append-nil, inl, inr}
use Rattle.std.proofs.lemmas.Bool.{cond-false, ne_eqb}
use Rattle.std.proofs.lemmas.List.{length-take, length-map}
use Rattle.httparse.specs.declared.spans.HeaderSpan.{HeaderSpan}
use Rattle.httparse.specs.declared.spans.RequestSpans.{RequestSpans}
use Rattle.httparse.specs.Grammar.{RequestHead, ReadsRequest}
use Rattle.httparse.specs.Spans.{IsRequestAt}
use Rattle.httparse.proofs.GrammarLemmas.{request_unique}
use Rattle.am_frames.specs.declared.frame.Defect.TheVariants.{BadHead, HeadTooLarge}
use Rattle.am_frames.specs.Head.{Frame, Outcome, whole, empty, refused, cut, head_of, after_head}
use Rattle.am_frames.specs.Framing.{window, BeginsWithHead, HasNoHead, IsDead, without_head, IsFraming, by_head, by_dead, by_wait}
use Rattle.am_http.specs.Sessions.{defect_text}
use Rattle.am_frames.proofs.FramingLemmas.{whole_only}
use Rattle.am_audit_frames.specs.Streams.{IsLast, IsWrittenAt, IsWrittenAtDead, MayBeDead, waiting_text}

-- ---- the frame at the front

-- There is one whole frame at the front of an input.
pub frame_only : (input : List ℕ) (a b : Frame) → IsFraming input (whole a) → IsFraming input (whole b) → a ≡ b
frame_only input a b x y =
    let same = whole_only input a (whole b) x y in cc

-- ---- a head in the window

-- a head that was found has at most as many fields as there was room for
pub begins_by : (text : List ℕ) (headers : List HeaderSpan) (r : RequestSpans) (h : RequestHead) → length headers ≤ 64
    → IsRequestAt text headers r h → BeginsWithHead text h
begins_by text headers r h room at = (
  drop r.len text,
  at.reads,
  omega (arith, simp (length-map, length-take) at (ap length at.fields)),
)

-- a text that no bytes make one that begins with a head begins with none
pub dead_has_none : (text : List ℕ) → IsDead text → HasNoHead text
dead_has_none text dead h b =
    let reads = subst (λ (t : List ℕ). ReadsRequest t h b.0) (sym (append-nil text)) b.1 in
    absurd (omega (arith, dead [] h b.0 reads, b.2))

-- ---- two outcomes of one input

-- Another outcome than the first can hold only where a reader may overlook that the window is dead.
pub two_outcomes : (input : List ℕ) (a b : Outcome) → IsFraming input a → IsFraming input b
    → (b ≡ a) ⊎ (MayBeDead input × ((b ≡ refused BadHead) ⊎ (b ≡ without_head (window input))))
two_outcomes input a b (by_head h x e) (by_head k y g) =
    let same = (request_unique (window input) h k x.0 y.0 x.1 y.1).0 in
    inl (g ∙ ap (λ (r : RequestHead). after_head input (head_of r)) (sym same) ∙ sym e)
two_outcomes input a b (by_head h x e) (by_dead dead g) = absurd (dead_has_none (window input) dead h x)
two_outcomes input a b (by_head h x e) (by_wait none may g) = absurd (none h x)
two_outcomes input a b (by_dead dead e) (by_head k y g) = absurd (dead_has_none (window input) dead k y)
two_outcomes input a b (by_dead dead e) (by_dead other g) = inl (g ∙ sym e)
two_outcomes input a b (by_dead dead e) (by_wait none (inl alive) g) = absurd (alive dead)
two_outcomes input a b (by_dead dead e) (by_wait none (inr overlook) g) =
    inr (record { none = none; overlooked = overlook }, inr g)
two_outcomes input a b (by_wait none may e) (by_head k y g) = absurd (none k y)
two_outcomes input a b (by_wait none (inl alive) e) (by_dead dead g) = absurd (alive dead)
two_outcomes input a b (by_wait none (inr overlook) e) (by_dead dead g) =
    inr (record { none = none; overlooked = overlook }, inl g)
two_outcomes input a b (by_wait none may e) (by_wait other more g) = inl (g ∙ sym e)

-- ---- what is written last

-- where a reader waits, it writes the text that is said so
waits_with : (text : List ℕ) → IsWrittenAt (without_head text) (waiting_text text)
waits_with text = by_tests (length text == 8192) (length text == 0)
  where
    by_tests : (full none : Bool)
        → IsWrittenAt (cond full (refused HeadTooLarge) (cond none empty cut)) (cond full (defect_text HeadTooLarge) [])
    by_tests true none = refl
    by_tests false true = refl
    by_tests false false = refl

waits_for : (text last : List ℕ) → IsWrittenAt (without_head text) last → last ≡ waiting_text text
waits_for text last w = by_tests (length text == 8192) (length text == 0) w
  where
    by_tests : (full none : Bool) → IsWrittenAt (cond full (refused HeadTooLarge) (cond none empty cut)) last
        → last ≡ cond full (defect_text HeadTooLarge) []
    by_tests true none w = w
    by_tests false true w = w
    by_tests false false w = w

-- a reader that waits for bytes in a window with room writes nothing
pub waits_silently : (input : List ℕ) → length input < 8192 → [] ≡ waiting_text (window input)
waits_silently input room =
    sym (cond-false _ _ _ (ne_eqb (length (window input)) 8192 (λ full. omega (arith, length-take 8192 input, full))))

-- What is written at an outcome may be written last.
pub last_from_outcome : (input last : List ℕ) (o : Outcome) → IsFraming input o → IsWrittenAt o last → IsLast input last
last_from_outcome input last (whole f) is w = absurd w
last_from_outcome input last empty is w = inl (inl is, w)
last_from_outcome input last (refused defect) is w = inr (defect, inl is, w)
last_from_outcome input last cut is w = inl (inr is, w)

-- So may what is written at a window that may be dead.
pub last_from_dead : (input last : List ℕ) → MayBeDead input → IsWrittenAtDead input last → IsLast input last
last_from_dead input last m (inl refusal) = inr (BadHead, inr (m, refl), refusal)
last_from_dead input last m (inr waits) =
    last_from_outcome input last (without_head (window input)) (by_wait m.none (inr m.overlooked) refl)
    (subst (IsWrittenAt (without_head (window input))) (sym waits) (waits_with (window input)))

-- what is written at another outcome
written_at_other : (input last : List ℕ) (a b : Outcome) → IsFraming input a → IsFraming input b → IsWrittenAt b last
    → IsWrittenAt a last ⊎ (MayBeDead input × IsWrittenAtDead input last)
written_at_other input last a b x y w =
    elim (two_outcomes input a b x y) [
      | inl same ↦ inl (subst (λ (o : Outcome). IsWrittenAt o last) same w)
      | inr (m, inl bad) ↦ inr (m, inl (subst (λ (o : Outcome). IsWrittenAt o last) bad w))
      | inr (m, inr waits) ↦
          inr (m, inr (waits_for (window input) last (subst (λ (o : Outcome). IsWrittenAt o last) waits w)))
    ]

-- Nothing else may be written last than what is written at any one outcome, or at a window that may be dead.
pub last_cases : (input last : List ℕ) (a : Outcome) → IsFraming input a → IsLast input last
    → IsWrittenAt a last ⊎ (MayBeDead input × IsWrittenAtDead input last)
last_cases input last a x (inl (inl is, w)) = written_at_other input last a empty x is w
last_cases input last a x (inl (inr is, w)) = written_at_other input last a cut x is w
last_cases input last a x (inr (defect, inl is, w)) = written_at_other input last a (refused defect) x is w
last_cases input last a x (inr (defect, inr (m, bad), w)) = inr (m, inl (w ∙ ap defect_text bad))

-- An input with a whole frame is at no end.
pub whole_has_no_last : (input last : List ℕ) (f : Frame) → IsFraming input (whole f) → IsLast input last → ⊥
whole_has_no_last input last f x l =
    elim (last_cases input last (whole f) x l) [
      | inl none ↦ none
      | inr (m, w) ↦
          let other = whole_only input f (without_head (window input)) x (by_wait m.none (inr m.overlooked) refl) in
          subst (λ (o : Outcome). IsWrittenAt o (waiting_text (window input))) other (waits_with (window input))
    ]

-- An input, one of whose outcomes is known, has a whole frame or is at an end.
pub frame_or_last : (input : List ℕ) (o : Outcome) → IsFraming input o
    → ((f : Frame) × IsFraming input (whole f)) ⊎ ((last : List ℕ) × IsLast input last)
frame_or_last input (whole f) is = inl (f, is)
frame_or_last input empty is = inr ([], inl (inl is, refl))
frame_or_last input (refused defect) is = inr (defect_text defect, inr (defect, inl is, refl))
frame_or_last input cut is = inr ([], inl (inr is, refl))
