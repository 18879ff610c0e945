-- Laws of what the first bytes of an input announce: how it comes of their head, and that it is the only answer.
use Rattle.std.proofs.Common.{◌≡◌, ℕ, zero, suc, ◌+◌, ◌<◌, ◌≤◌, List, [], ◌∷◌, ◌++◌, length, refl, sym, ap, ◌∙◌, subst, arith, append-nil}
use Rattle.std.specs.Prelude.{Ok}
use Rattle.std.proofs.lemmas.Bool.{cond-false, lt-leb}
use Rattle.std.proofs.lemmas.List.{length-append, length-take}
use Rattle.httparse.specs.Grammar.{RequestHead}
use Rattle.am_frames.specs.declared.announced.Announced.{Announced}
use Rattle.am_frames.specs.declared.announced.Announced.TheVariants.{Unknown, Known, Refused}
use Rattle.am_frames.specs.declared.frame.Defect.{Defect}
use Rattle.am_frames.specs.Fields.{body_length}
use Rattle.am_frames.specs.Head.{Frame, Outcome, Head, whole, refused, cut, head_of, frame_of, after_length, after_head}
use Rattle.am_frames.specs.Framing.{window, BeginsWithHead, MayOverlook, without_head, IsFraming, by_head, by_wait}
use Rattle.am_frames.specs.Announced.{HasLength, IsRefused, IsInHead, IsAnnounced}
use Rattle.am_frames.proofs.FramingLemmas.{begins_stays, whole-from_length, without_head-cases, refused_stays, whole_only, outcome_only}

-- ---- what a head announces

-- a body that isn't there whole is cut off
cut-from_length : (bytes : List ℕ) (head : Head) (n : ℕ) → body_length head.method head.headers ≡ Ok n
    → length bytes < head.size + n → cut ≡ after_head bytes head
unfolding after_head
cut-from_length bytes head n is short =
    sym (ap (after_length bytes head) is ∙ cond-false _ _ _ (lt-leb (head.size + n) (length bytes) short))

-- the length of a frame is that of its head, with the body that this states
frame_of-length : (bytes : List ℕ) (head : Head) (n : ℕ) → (frame_of bytes head n).length ≡ head.size + n
unfolding frame_of
frame_of-length bytes head n = refl

pub HasLength-from_head : (bytes : List ℕ) (h : RequestHead) (n : ℕ) → BeginsWithHead (window bytes) h
    → body_length (head_of h).method (head_of h).headers ≡ Ok n → HasLength bytes ((head_of h).size + n)
HasLength-from_head bytes h n b is = record {
  head = (h, b);
  once_there = λ more enough. (
    frame_of (bytes ++ more) (head_of h) n,
    frame_of-length (bytes ++ more) (head_of h) n,
    by_head h (begins_stays bytes more h b) (whole-from_length (bytes ++ more) (head_of h) n is enough),
  );
  until_then = λ more short. by_head h (begins_stays bytes more h b)
      (cut-from_length (bytes ++ more) (head_of h) n is short);
}

-- bytes that are refused stay so
pub IsRefused-from_framing : (bytes : List ℕ) (defect : Defect) → IsFraming bytes (refused defect) → IsRefused bytes
IsRefused-from_framing bytes defect framing = (defect, λ more. refused_stays bytes more defect framing)

-- ---- the only answer

-- some bytes, so many of them
filling : ℕ → List ℕ
filling zero = []
filling (suc n) = 0 ∷ filling n

length-filling : (n : ℕ) → length (filling n) ≡ n
unfolding filling
length-filling zero = refl
length-filling (suc n) = ap suc (length-filling n)

length_only : (bytes : List ℕ) (m n : ℕ) → HasLength bytes m → HasLength bytes n → m ≡ n
length_only bytes m n a b =
    let more = filling (m + n) in
    let long : m + n ≤ length (bytes ++ more) = omega (arith, length-append bytes more, length-filling (m + n)) in
    let one = a.once_there more (omega arith) in
    let other = b.once_there more (omega arith) in
    let same : other.0 ≡ one.0 =
    let e : whole other.0 ≡ whole one.0 = whole_only (bytes ++ more) one.0 (whole other.0) one.2 other.2 in
    cc in
    sym one.1 ∙ sym (ap (λ (f : Frame). f.length) same) ∙ other.1

not_refused : (bytes : List ℕ) (n : ℕ) → HasLength bytes n → IsRefused bytes → ⊥
not_refused bytes n a b =
    let more = filling n in
    let long : n ≤ length (bytes ++ more) = omega (arith, length-append bytes more, length-filling n) in
    let one = a.once_there more long in
    let e : refused b.0 ≡ whole one.0 = whole_only (bytes ++ more) one.0 (refused b.0) one.2 (b.1 more) in
    absurd cc

not_in_head : (bytes : List ℕ) → ¬ (MayOverlook (window bytes)) → IsInHead bytes → IsRefused bytes → ⊥
not_in_head bytes seen a b =
    let framing : IsFraming bytes (refused b.0) =
    subst (λ (t : List ℕ). IsFraming t (refused b.0)) (append-nil bytes) (b.1 []) in
    without_head-cases (window bytes) (λ o. refused b.0 ≡ o → ⊥)
    (λ full e. absurd (omega (arith, length-take 8192 bytes, full, a.2))) (λ none e. cc) (λ other some e. cc)
    (outcome_only bytes (refused b.0) (without_head (window bytes)) seen framing (by_wait a.0 a.1 refl))

-- There is one answer, except for a dead window in which a reader may overlook that.
pub announced_only : (bytes : List ℕ) (a b : Announced) → ¬ (MayOverlook (window bytes)) → IsAnnounced bytes a
    → IsAnnounced bytes b
    → a ≡ b
announced_only bytes Unknown Unknown seen a b = refl
announced_only bytes Unknown (Known n) seen a b = absurd (a.0 b.head.0 b.head.1)
announced_only bytes Unknown Refused seen a b = absurd (not_in_head bytes seen a b)
announced_only bytes (Known m) Unknown seen a b = absurd (b.0 a.head.0 a.head.1)
announced_only bytes (Known m) (Known n) seen a b = ap Known (length_only bytes m n a b)
announced_only bytes (Known m) Refused seen a b = absurd (not_refused bytes m a b)
announced_only bytes Refused Unknown seen a b = absurd (not_in_head bytes seen b a)
announced_only bytes Refused (Known n) seen a b = absurd (not_refused bytes n b a)
announced_only bytes Refused Refused seen a b = refl
