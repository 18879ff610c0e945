-- Laws of the first step over an input: what more bytes leave as it is, how long a frame is, and that it is the only
-- one.
use Rattle.std.proofs.Common.{◌≡◌, ◌≢◌, ℕ, ◌+◌, ◌-◌, ◌<◌, ◌≤◌, Bool, true, false, cond, List, [], ◌∷◌, ◌++◌, length, take, drop, slice_range, refl, sym, ap, ◌∙◌, subst, arith, append_assoc, append-nil, inl, inr}
use Rattle.std.specs.Prelude.{Result, Ok, Err, codes, bytes_eq, nat_le, nat_lt, IsUtf8}
use Rattle.std.specs.Str.{is_utf8}
use Rattle.std.specs.Str.Parse.{digits_value}
use Rattle.std.proofs.lemmas.Bool.{cases_lt, cases_eq, cond-true, cond-false, le-leb, eq-eqb, ne_eqb, leb-true, leb-false, ltb-false}
use Rattle.std.proofs.lemmas.List.{length-append, length-take, length-drop, take-append-drop, take-append-le, drop-append-le, take_all, nil_from_length}
use Rattle.std.proofs.lemmas.Str.{IsUtf8-nil, IsUtf8-from_is_utf8}
use Rattle.std.proofs.Math.Seq.{take-append-add}
use Rattle.httparse.specs.Grammar.{RequestHead, print_request, ReadsRequest}
use Rattle.httparse.proofs.GrammarLemmas.{request_unique, ReadsRequest-append}
use Rattle.am_types.specs.Bounds.{longest_body}
use Rattle.am_frames.specs.declared.frame.Defect.{Defect}
use Rattle.am_frames.specs.declared.frame.Defect.TheVariants.{BadHead, HeadTooLarge, LengthRequired, BodyTooLarge}
use Rattle.am_frames.specs.Fields.{Header, values_of, is_length, stated_length, length_by, length_without, body_length, first_text, key_of}
use Rattle.am_frames.specs.Head.{Frame, Outcome, whole, empty, refused, cut, Head, head_of, frame_of, after_length, after_head}
use Rattle.am_frames.specs.Framing.{longest_frame, window, BeginsWithHead, HasNoHead, IsDead, MayOverlook, MayWait, without_head, IsFraming, by_head, by_dead, by_wait}
use Rattle.am_frames.proofs.WaitLemmas.{length-print_request}

-- ---- the window over more bytes

take_front : (n : ℕ) (a b : List ℕ) → take n (a ++ b) ≡ take n a ++ take (n - length a) b
take_front n a b =
    elim (cases_lt n (length a)) [
      | inl short ↦
          let none : n - length a ≡ 0 = omega arith in
          take-append-le n a b (omega arith) ∙ sym (append-nil _)
          ∙ ap (λ (m : ℕ). take n a ++ take m b) (sym none)
      | inr long ↦
          let split : length a + (n - length a) ≡ n = omega arith in
          ap (λ (m : ℕ). take m (a ++ b)) (sym split) ∙ take-append-add a b (n - length a)
          ∙ ap (λ (t : List ℕ). t ++ take (n - length a) b) (sym (take_all n a long))
    ]

window-append : (bytes more : List ℕ) → window (bytes ++ more) ≡ window bytes ++ take (8192 - length bytes) more
window-append bytes more = take_front 8192 bytes more

pub begins_stays : (bytes more : List ℕ) (h : RequestHead) → BeginsWithHead (window bytes) h
    → BeginsWithHead (window (bytes ++ more)) h
begins_stays bytes more h b = (
  b.0 ++ take (8192 - length bytes) more,
  subst (λ (t : List ℕ). ReadsRequest t h (b.0 ++ take (8192 - length bytes) more)) (sym (window-append bytes more))
      (ReadsRequest-append (window bytes) h b.0 (take (8192 - length bytes) more) b.1),
  b.2,
)

dead_stays : (bytes more : List ℕ) → IsDead (window bytes) → IsDead (window (bytes ++ more))
dead_stays bytes more dead later h rest reads =
    let x = take (8192 - length bytes) more in
    dead (x ++ later) h rest
    (subst (λ (t : List ℕ). ReadsRequest t h rest)
    (ap (λ (t : List ℕ). t ++ later) (window-append bytes more) ∙ append_assoc (window bytes) x later) reads)

full_window_stays : (bytes more : List ℕ) → length (window bytes) ≡ 8192 → window bytes ≡ window (bytes ++ more)
full_window_stays bytes more full =
    let none : 8192 - length bytes ≡ 0 = omega (arith, length-take 8192 bytes) in
    sym (append-nil _) ∙ ap (λ (m : ℕ). window bytes ++ take m more) (sym none) ∙ sym (window-append bytes more)

-- ---- what follows from a head

-- the length that a whole head gives is at most the most that a body may have
stated_length-le : (value : List ℕ) (n : ℕ) → stated_length value ≡ Ok n → n ≤ longest_body
stated_length-le value n e = by_tests (is_length value) (nat_lt longest_body (digits_value 10 value)) refl e
  where
    by_tests : (a b : Bool) → nat_lt longest_body (digits_value 10 value) ≡ b
        → cond a (cond b (Err BodyTooLarge) (Ok (digits_value 10 value))) (Err BadHead) ≡ Ok n → n ≤ longest_body
    by_tests true true is e = absurd cc
    by_tests true false is e =
        let same : digits_value 10 value ≡ n = cc in
        omega (arith, ltb-false longest_body (digits_value 10 value) is)
    by_tests false b is e = absurd cc

length_by-le : (method : List ℕ) (lengths : List (List ℕ)) (n : ℕ) → length_by method lengths ≡ Ok n → n ≤ longest_body
length_by-le method [] n e = by_test (bytes_eq method (codes "POST")) e
  where
    by_test : (b : Bool) → cond b (Err LengthRequired) (Ok 0) ≡ Ok n → n ≤ longest_body
    by_test true e = absurd cc
    by_test false e =
        let none : 0 ≡ n = cc in
        omega arith
length_by-le method (value ∷ []) n e = stated_length-le value n e
length_by-le method (value ∷ other ∷ more) n e = absurd cc

length_without-le : (codings : List (List ℕ)) (method : List ℕ) (lengths : List (List ℕ)) (n : ℕ)
    → length_without codings method lengths ≡ Ok n → n ≤ longest_body
length_without-le [] method lengths n e = length_by-le method lengths n e
length_without-le (coding ∷ codings) method lengths n e = absurd cc

pub body_length-le : (method : List ℕ) (headers : List Header) (n : ℕ) → body_length method headers ≡ Ok n
    → n ≤ longest_body
unfolding body_length
body_length-le method headers n e =
    length_without-le (values_of (codes "Transfer-Encoding") headers) method
    (values_of (codes "Content-Length") headers) n e

-- a frame is whole where its body has come
record IsWholeBy (bytes : List ℕ) (head : Head) (f : Frame) : Type 0 where
  n : ℕ
  announced : body_length head.method head.headers ≡ Ok n
  fits : head.size + n ≤ length bytes
  frame : f ≡ frame_of bytes head n

after_length-whole : (bytes : List ℕ) (head : Head) (f : Frame) (r : Result ℕ Defect)
    → body_length head.method head.headers ≡ r
    → whole f ≡ after_length bytes head r → IsWholeBy bytes head f
after_length-whole bytes head f (Err d) is e = absurd cc
after_length-whole bytes head f (Ok n) is e = by_test (nat_le (head.size + n) (length bytes)) refl e
  where
    by_test : (b : Bool) → nat_le (head.size + n) (length bytes) ≡ b → whole f
        ≡ cond b (whole (frame_of bytes head n)) cut
        → IsWholeBy bytes head f
    by_test true fits e = record {
      n = n;
      announced = is;
      fits = leb-true (head.size + n) (length bytes) fits;
      frame = cc;
    }
    by_test false fits e = absurd cc

after_head-whole : (bytes : List ℕ) (head : Head) (f : Frame) → whole f ≡ after_head bytes head → IsWholeBy bytes head f
unfolding after_head
after_head-whole bytes head f e = after_length-whole bytes head f (body_length head.method head.headers) refl e

-- the same head gives that frame in each input that has its bytes
pub whole-from_length : (bytes : List ℕ) (head : Head) (n : ℕ) → body_length head.method head.headers ≡ Ok n
    → head.size + n ≤ length bytes → whole (frame_of bytes head n) ≡ after_head bytes head
unfolding after_head
whole-from_length bytes head n is fits =
    sym (ap (after_length bytes head) is ∙ cond-true _ _ _ (le-leb (head.size + n) (length bytes) fits))

frame_of-append : (bytes more : List ℕ) (head : Head) (n : ℕ) → head.size + n ≤ length bytes
    → frame_of (bytes ++ more) head n ≡ frame_of bytes head n
unfolding frame_of
frame_of-append bytes more head n fits =
    let end = head.size + n in
    let body : slice_range (bytes ++ more) head.size end ≡ slice_range bytes head.size end =
    ap (take (end - head.size)) (drop-append-le head.size bytes more (omega arith))
    ∙ take-append-le (end - head.size) (drop head.size bytes) more (omega (arith, length-drop head.size bytes)) in
    λ i. record {
      method = head.method;
      target = head.target;
      key = key_of head.headers;
      body = body i;
      close = (frame_of bytes head n).close;
      length = end;
    }

-- the outcome by a head is never that of an empty input
after_head-not_empty : (bytes : List ℕ) (head : Head) → empty ≡ after_head bytes head → ⊥
unfolding after_head
after_head-not_empty bytes head e = by_length (body_length head.method head.headers) e
  where
    by_length : (r : Result ℕ Defect) → empty ≡ after_length bytes head r → ⊥
    by_length (Err d) e = cc
    by_length (Ok n) e = by_test (nat_le (head.size + n) (length bytes)) e
      where
        by_test : (b : Bool) → empty ≡ cond b (whole (frame_of bytes head n)) cut → ⊥
        by_test true e = cc
        by_test false e = cc

-- a body that is cut off ends past the input
after_head-cut : (bytes : List ℕ) (head : Head) → cut ≡ after_head bytes head → length bytes < head.size + longest_body
unfolding after_head
after_head-cut bytes head e = by_length (body_length head.method head.headers) refl e
  where
    by_length : (r : Result ℕ Defect) → body_length head.method head.headers ≡ r → cut ≡ after_length bytes head r
        → length bytes < head.size + longest_body
    by_length (Err d) is e = absurd cc
    by_length (Ok n) is e = by_test (nat_le (head.size + n) (length bytes)) refl e
      where
        by_test : (b : Bool) → nat_le (head.size + n) (length bytes) ≡ b → cut
            ≡ cond b (whole (frame_of bytes head n)) cut
            → length bytes < head.size + longest_body
        by_test true more e = absurd cc
        by_test false more e =
            omega (arith, leb-false (head.size + n) (length bytes) more, body_length-le head.method head.headers n is)

-- a defect of the head stays, whatever follows
after_head-refused : (bytes more : List ℕ) (head : Head) (d : Defect) → refused d ≡ after_head bytes head
    → refused d ≡ after_head (bytes ++ more) head
unfolding after_head
after_head-refused bytes more head d e = by_length (body_length head.method head.headers) e
  where
    by_length : (r : Result ℕ Defect) → refused d ≡ after_length bytes head r → refused d
        ≡ after_length (bytes ++ more) head r
    by_length (Err other) e = e
    by_length (Ok n) e = by_test (nat_le (head.size + n) (length bytes)) e
      where
        by_test : (b : Bool) → refused d ≡ cond b (whole (frame_of bytes head n)) cut
            → refused d ≡ after_length (bytes ++ more) head (Ok n)
        by_test true e = absurd cc
        by_test false e = absurd cc

-- ---- where there is no head

pub without_head-cases : (text : List ℕ) (P : Outcome → Type 0) → (length text ≡ 8192 → P (refused HeadTooLarge))
    → (length text ≡ 0 → P empty) → (length text ≢ 8192 → 0 < length text → P cut) → P (without_head text)
without_head-cases text P large none else =
    elim (cases_eq (length text) 8192) [
      | inl full ↦ subst P (sym (cond-true _ _ _ (eq-eqb (length text) 8192 full))) (large full)
      | inr other ↦
          subst P (sym (cond-false _ _ _ (ne_eqb (length text) 8192 other)))
          (elim (cases_eq (length text) 0) [
            | inl zero ↦ subst P (sym (cond-true _ _ _ (eq-eqb (length text) 0 zero))) (none zero)
            | inr some ↦ subst P (sym (cond-false _ _ _ (ne_eqb (length text) 0 some))) (else other (omega arith))
          ])
    ]

without_head-not_whole : (text : List ℕ) (f : Frame) → whole f ≡ without_head text → ⊥
without_head-not_whole text f e =
    without_head-cases text (λ o. whole f ≡ o → ⊥) (λ full g. cc) (λ zero g. cc) (λ other some g. cc) e

-- ---- a frame by itself

-- the head lies in the window
head_fits : (bytes : List ℕ) (h : RequestHead) → BeginsWithHead (window bytes) h
    → (length (print_request h) ≤ 8192) × (length (print_request h) ≤ length bytes)
head_fits bytes h b =
    let e = ap length b.1.1 in
    let whole_length = length-append (print_request h) b.0 in
    let short = length-take 8192 bytes in
    (omega arith, omega arith)

-- the head is in the first n bytes, if these are enough for it
begins_alone : (bytes : List ℕ) (n : ℕ) (h : RequestHead) → BeginsWithHead (window bytes) h
    → length (print_request h) ≤ n → BeginsWithHead (window (take n bytes)) h
begins_alone bytes n h b enough =
    let head = print_request h in
    let size = length head in
    let rest = b.0 ++ drop 8192 bytes in
    let input : bytes ≡ head ++ rest =
    sym (take-append-drop 8192 bytes) ∙ ap (λ (t : List ℕ). t ++ drop 8192 bytes) b.1.1
    ∙ append_assoc head b.0 (drop 8192 bytes) in
    let own : take n bytes ≡ head ++ take (n - size) rest =
    ap (take n) input ∙ take_front n head rest ∙ ap (λ (t : List ℕ). t ++ take (n - size) rest) (take_all n head enough)
    in
    let fits = (head_fits bytes h b).0 in
    let front : window (take n bytes) ≡ head ++ take (8192 - size) (take (n - size) rest) =
    ap (take 8192) own ∙ take_front 8192 head (take (n - size) rest)
    ∙ ap (λ (t : List ℕ). t ++ take (8192 - size) (take (n - size) rest)) (take_all 8192 head fits) in
    (take (8192 - size) (take (n - size) rest), (b.1.0, front), b.2)

first_text-IsUtf8 : (values : List (List ℕ)) → IsUtf8 (first_text values)
first_text-IsUtf8 [] = IsUtf8-nil
first_text-IsUtf8 (value ∷ more) = by_test (is_utf8 value) refl
  where
    by_test : (t : Bool) → is_utf8 value ≡ t → IsUtf8 (first_text (value ∷ more))
    by_test true text = subst IsUtf8 (sym (cond-true _ _ _ text)) (IsUtf8-from_is_utf8 value text)
    by_test false other = subst IsUtf8 (sym (cond-false _ _ _ other)) IsUtf8-nil

-- ---- the laws

-- The empty outcome comes of the empty input alone.
pub empty_only : (bytes : List ℕ) → IsFraming bytes empty → bytes ≡ []
empty_only bytes (by_head h b e) = absurd (after_head-not_empty bytes (head_of h) e)
empty_only bytes (by_dead dead e) = absurd cc
empty_only bytes (by_wait none may e) =
    without_head-cases (window bytes) (λ o. empty ≡ o → bytes ≡ []) (λ full f. absurd cc)
    (λ zero f. nil_from_length bytes (omega (arith, length-take 8192 bytes))) (λ other some f. absurd cc) e

-- A whole frame stays the first one when more bytes come.
pub whole_stays : (bytes more : List ℕ) (f : Frame) → IsFraming bytes (whole f) → IsFraming (bytes ++ more) (whole f)
whole_stays bytes more f (by_head h b e) =
    let w = after_head-whole bytes (head_of h) f e in
    let room : length bytes ≤ length (bytes ++ more) = omega (arith, length-append bytes more) in
    let fits = w.fits in
    by_head h (begins_stays bytes more h b)
    (ap whole (w.frame ∙ sym (frame_of-append bytes more (head_of h) w.n w.fits))
    ∙ whole-from_length (bytes ++ more) (head_of h) w.n w.announced (omega arith))
whole_stays bytes more f (by_dead dead e) = absurd cc
whole_stays bytes more f (by_wait none may e) =
    absurd (without_head-not_whole (window bytes) f e)

-- A defect stays when more bytes come.
pub refused_stays : (bytes more : List ℕ) (d : Defect) → IsFraming bytes (refused d)
    → IsFraming (bytes ++ more) (refused d)
refused_stays bytes more d (by_head h b e) =
    by_head h (begins_stays bytes more h b) (after_head-refused bytes more (head_of h) d e)
refused_stays bytes more d (by_dead dead e) = by_dead (dead_stays bytes more dead) e
refused_stays bytes more d (by_wait none may e) =
    let full : length (window bytes) ≡ 8192 =
    without_head-cases (window bytes) (λ o. refused d ≡ o → length (window bytes) ≡ 8192) (λ full g. full)
    (λ zero g. absurd cc) (λ other some g. absurd cc) e in
    let same = full_window_stays bytes more full in
    by_wait (subst HasNoHead same none) (subst MayWait same may) (e ∙ ap without_head same)

-- A whole frame has bytes, lies in the input, and has at most 8,192 bytes of head and 65,536 of body.
pub whole_fits : (bytes : List ℕ) (f : Frame) → IsFraming bytes (whole f)
    → (0 < f.length) × (f.length ≤ length bytes) × (f.length ≤ longest_frame)
unfolding frame_of
whole_fits bytes f (by_head h b e) =
    let w = after_head-whole bytes (head_of h) f e in
    let size : f.length ≡ length (print_request h) + w.n = ap (λ (g : Frame). g.length) w.frame in
    let some = length-print_request h in
    let short = (head_fits bytes h b).0 in
    let limit = body_length-le h.method (head_of h).headers w.n w.announced in
    let fits = w.fits in
    (omega arith, omega arith, omega arith)
whole_fits bytes f (by_dead dead e) = absurd cc
whole_fits bytes f (by_wait none may e) =
    absurd (without_head-not_whole (window bytes) f e)

-- An input that ends inside its first frame is shorter than the longest frame.
pub cut_fits : (bytes : List ℕ) → IsFraming bytes cut → length bytes < longest_frame
cut_fits bytes (by_head h b e) =
    omega (arith, after_head-cut bytes (head_of h) e, (head_fits bytes h b).0)
cut_fits bytes (by_dead dead e) = absurd cc
cut_fits bytes (by_wait none may e) =
    without_head-cases (window bytes) (λ o. cut ≡ o → length bytes < longest_frame) (λ full g. absurd cc)
    (λ zero g. absurd cc) (λ other some g. omega (arith, length-take 8192 bytes)) e

not_dead : (bytes : List ℕ) (h : RequestHead) → BeginsWithHead (window bytes) h → ¬ (IsDead (window bytes))
not_dead bytes h b dead =
    let reads = subst (λ (t : List ℕ). ReadsRequest t h b.0) (sym (append-nil (window bytes))) b.1 in
    absurd (omega (arith, dead [] h b.0 reads, b.2))

-- Where there is a whole frame, it is the only outcome.
pub whole_only : (bytes : List ℕ) (f : Frame) (outcome : Outcome) → IsFraming bytes (whole f) → IsFraming bytes outcome
    → outcome ≡ whole f
whole_only bytes f outcome (by_head h b e) (by_head k c g) =
    let same = (request_unique (window bytes) k h c.0 b.0 c.1 b.1).0 in
    g ∙ ap (λ (r : RequestHead). after_head bytes (head_of r)) same ∙ sym e
whole_only bytes f outcome (by_head h b e) (by_dead dead g) = absurd (not_dead bytes h b dead)
whole_only bytes f outcome (by_head h b e) (by_wait none may g) = absurd (none h b)
whole_only bytes f outcome (by_dead dead e) other = absurd cc
whole_only bytes f outcome (by_wait none may e) other =
    absurd (without_head-not_whole (window bytes) f e)

-- There is one outcome, but for a dead window in which a reader may overlook that.
pub outcome_only : (bytes : List ℕ) (a b : Outcome) → ¬ (MayOverlook (window bytes)) → IsFraming bytes a
    → IsFraming bytes b
    → a ≡ b
outcome_only bytes a b seen (by_head h x e) (by_head k y g) =
    let same = (request_unique (window bytes) h k x.0 y.0 x.1 y.1).0 in
    e ∙ ap (λ (r : RequestHead). after_head bytes (head_of r)) same ∙ sym g
outcome_only bytes a b seen (by_head h x e) (by_dead dead g) = absurd (not_dead bytes h x dead)
outcome_only bytes a b seen (by_head h x e) (by_wait none may g) = absurd (none h x)
outcome_only bytes a b seen (by_dead dead e) (by_head k y g) = absurd (not_dead bytes k y dead)
outcome_only bytes a b seen (by_dead dead e) (by_dead other g) = e ∙ sym g
outcome_only bytes a b seen (by_dead dead e) (by_wait none (inl alive) g) = absurd (alive dead)
outcome_only bytes a b seen (by_dead dead e) (by_wait none (inr overlook) g) = absurd (seen overlook)
outcome_only bytes a b seen (by_wait none may e) (by_head k y g) = absurd (none k y)
outcome_only bytes a b seen (by_wait none (inl alive) e) (by_dead dead g) = absurd (alive dead)
outcome_only bytes a b seen (by_wait none (inr overlook) e) (by_dead dead g) = absurd (seen overlook)
outcome_only bytes a b seen (by_wait none may e) (by_wait other more g) = e ∙ sym g

-- A frame depends on its own bytes alone.
pub whole_alone : (bytes : List ℕ) (f : Frame) → IsFraming bytes (whole f) → IsFraming (take f.length bytes) (whole f)
unfolding frame_of
whole_alone bytes f (by_head h b e) =
    let w = after_head-whole bytes (head_of h) f e in
    let size : f.length ≡ length (print_request h) + w.n = ap (λ (g : Frame). g.length) w.frame in
    let fits = w.fits in
    let own = take f.length bytes in
    let split : bytes ≡ own ++ drop f.length bytes = sym (take-append-drop f.length bytes) in
    let long : (head_of h).size + w.n ≤ length own = omega (arith, length-take f.length bytes) in
    let frame : f ≡ frame_of own (head_of h) w.n =
    w.frame ∙ ap (λ (t : List ℕ). frame_of t (head_of h) w.n) split
    ∙ frame_of-append own (drop f.length bytes) (head_of h) w.n long in
    by_head h (begins_alone bytes f.length h b (omega arith))
    (ap whole frame ∙ whole-from_length own (head_of h) w.n w.announced long)
whole_alone bytes f (by_dead dead e) = absurd cc
whole_alone bytes f (by_wait none may e) =
    absurd (without_head-not_whole (window bytes) f e)

-- The key of a frame is text.
pub whole_key : (bytes : List ℕ) (f : Frame) → IsFraming bytes (whole f) → IsUtf8 f.key
unfolding frame_of key_of
whole_key bytes f (by_head h b e) =
    let w = after_head-whole bytes (head_of h) f e in
    subst IsUtf8 (sym (ap (λ (g : Frame). g.key) w.frame)) (first_text-IsUtf8
    (values_of (codes "AM-Key") (head_of h).headers))
whole_key bytes f (by_dead dead e) = absurd cc
whole_key bytes f (by_wait none may e) =
    absurd (without_head-not_whole (window bytes) f e)

-- So is its target.
pub whole_target : (bytes : List ℕ) (f : Frame) → IsFraming bytes (whole f) → IsUtf8 f.target
unfolding frame_of
whole_target bytes f (by_head h b e) =
    let w = after_head-whole bytes (head_of h) f e in
    subst IsUtf8 (sym (ap (λ (g : Frame). g.target) w.frame)) b.1.0.target_text
whole_target bytes f (by_dead dead e) = absurd cc
whole_target bytes f (by_wait none may e) =
    absurd (without_head-not_whole (window bytes) f e)

-- Its body has at most 65,536 bytes.
pub whole_body : (bytes : List ℕ) (f : Frame) → IsFraming bytes (whole f) → length f.body ≤ longest_body
unfolding frame_of
whole_body bytes f (by_head h b e) =
    let w = after_head-whole bytes (head_of h) f e in
    let size = (head_of h).size in
    let body : length f.body ≡ length (slice_range bytes size (size + w.n)) = ap (λ (g : Frame). length g.body) w.frame
    in
    omega (
      arith,
      length-take (size + w.n - size) (drop size bytes),
      body_length-le h.method (head_of h).headers w.n w.announced,
    )
whole_body bytes f (by_dead dead e) = absurd cc
whole_body bytes f (by_wait none may e) =
    absurd (without_head-not_whole (window bytes) f e)
