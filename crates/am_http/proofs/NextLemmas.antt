-- What is left of the input, as more of it is read.
use Rattle.std.proofs.Common.{◌≡◌, ℕ, ◌+◌, ◌<◌, ◌≤◌, List, [], ◌∷◌, ◌++◌, length, true, false, Option, Some, None, Ok, Err, refl, sym, ap, ◌∙◌, subst, inl, inr, arith, append_assoc, append-nil, length-append}
use Rattle.std.specs.Prelude.{IfSome, OnErr, Result}
use Rattle.std.specs.Io.KnownBytes.{Keeps, Consumes, IsAtEnd, prepend_known}
use Rattle.am_frames.specs.Head.{Frame, Outcome, whole, refused}
use Rattle.am_frames.specs.Framing.{IsFraming}
use Rattle.am_frames.specs.declared.frame.Found.{Found}
use Rattle.am_frames.specs.declared.frame.Found.TheVariants as Spans
use Rattle.am_frames.specs.FrameSpans.{outcome_at, frame_at, IsFoundWithin}
use Rattle.am_http.specs.Sessions.{most_held, IsPartial, GivesAtMost}
use Rattle.am_http.specs.Windows.{Finds, Reads, is_open}
use Rattle.am_frames.proofs.FramingLemmas.{whole_stays, refused_stays, empty_only, cut_fits}

pub keeps_refl : (a : Option (List ℕ)) → Keeps a a
keeps_refl None = tt
keeps_refl (Some a) = refl

pub keeps_trans : (a b c : Option (List ℕ)) → Keeps a b → Keeps b c → Keeps a c
keeps_trans None b c h k = tt
keeps_trans (Some a) None c h k = absurd h
keeps_trans (Some a) (Some b) None h k = absurd k
keeps_trans (Some a) (Some b) (Some c) h k = k ∙ h

-- what the source gives
consumes_more : (a b c : Option (List ℕ)) (got more : List ℕ) → Consumes a b got → Consumes b c more
    → Consumes a c (got ++ more)
consumes_more None b c got more h k = tt
consumes_more (Some a) None c got more h k = absurd h
consumes_more (Some a) (Some b) None got more h k = absurd k
consumes_more (Some a) (Some b) (Some c) got more h k =
    h ∙ ap (λ xs. got ++ xs) k ∙ sym (append_assoc got more c)

pub reads_more : (old mid new : List ℕ) (a b c : Option (List ℕ)) → Reads old mid a b → Reads mid new b c
    → Reads old new a c
reads_more old mid new a b c h k = (
  h.0 ++ k.0,
  k.1 ∙ ap (λ xs. xs ++ k.0) h.1 ∙ append_assoc old h.0 k.0,
  consumes_more a b c h.0 k.0 h.2 k.2,
)

pub gives_window : (old new : List ℕ) (left left' : Option (List ℕ)) → Reads old new left left' → length new ≤ most_held
    → GivesAtMost most_held left left'
gives_window old new left left' reads fits =
    (reads.0, reads.2, omega (arith, ap length reads.1, length-append old reads.0, fits))

-- and what it gives while more is read twice
pub gives_read : (old mid new : List ℕ) (a b c : Option (List ℕ)) → Reads old mid a b → Reads mid new b c
    → length new ≤ most_held
    → GivesAtMost most_held a c
gives_read old mid new a b c first next fits = gives_window old new a c (reads_more old mid new a b c first next) fits

pub gives_none : (left : Option (List ℕ)) → GivesAtMost 0 left left
gives_none None = ([], tt, omega arith)
gives_none (Some left) = ([], refl, omega arith)

pub gives_more : (n m k : ℕ) (a b c : Option (List ℕ)) → n + m ≤ k → GivesAtMost n a b → GivesAtMost m b c
    → GivesAtMost k a c
gives_more n m k a b c fits h g = (
  h.0 ++ g.0,
  consumes_more a b c h.0 g.0 h.1 g.1,
  omega (arith, fits, length-append h.0 g.0, h.2, g.2),
)

-- bytes that go from the source into the window are still left
pub kept_read : (old new got : List ℕ) (left left' : Option (List ℕ)) → new ≡ old ++ got → Consumes left left' got
    → Keeps (prepend_known old left) (prepend_known new left')
kept_read old new got None left' grows consumes = tt
kept_read old new got (Some left) None grows consumes = absurd consumes
kept_read old new got (Some left) (Some left') grows consumes =
    ap (λ xs. xs ++ left') grows ∙ append_assoc old got left' ∙ ap (λ xs. old ++ xs) (sym consumes)

pub kept_failed : (old new : List ℕ) (left left' : Option (List ℕ)) → new ≡ old → Keeps left left'
    → Keeps (prepend_known old left) (prepend_known new left')
kept_failed old new None left' same keeps = tt
kept_failed old new (Some left) None same keeps = absurd keeps
kept_failed old new (Some left) (Some left') same keeps = ap (λ xs. xs ++ left') same ∙ ap (λ xs. old ++ xs) keeps

-- a whole frame of the window is the first of what is left, and so is a defect
pub known_whole : (w : List ℕ) (left : Option (List ℕ)) (f : Frame) → IsFraming w (whole f)
    → IfSome (prepend_known w left) (λ input. IsFraming input (whole f))
known_whole w None f h = tt
known_whole w (Some left) f h = whole_stays w left f h

pub known_refused : (w : List ℕ) (left : Option (List ℕ)) (d : _) → IsFraming w (refused d)
    → IfSome (prepend_known w left) (λ input. IsFraming input (refused d))
known_refused w None d h = tt
known_refused w (Some left) d h = refused_stays w left d h

-- at the end of the source the window is all that is left
pub known_end : (w : List ℕ) (left : Option (List ℕ)) (o : Outcome) → IsFraming w o → IsAtEnd left
    → IfSome (prepend_known w left) (λ input. IsFraming input o)
known_end w None o h end = tt
known_end w (Some left) o h end =
    subst (λ xs. IsFraming xs o) (sym (ap (λ l. w ++ l) end ∙ append-nil w)) h

-- nothing was read
pub none_read : (xs : List ℕ) → length xs ≡ 0 → xs ≡ []
none_read [] h = refl
none_read (x ∷ xs) h = absurd (omega (arith, h))

-- where more bytes are wanted the window holds no whole frame, and has room
pub wanting_partial : (w : List ℕ) (found : Found) → IsFraming w (outcome_at w found) → is_open found ≡ true
    → IsPartial w
wanting_partial w (Spans.Whole s) h wanting = absurd cc
wanting_partial w Spans.Empty h wanting = inl h
wanting_partial w (Spans.Refused d) h wanting = absurd cc
wanting_partial w Spans.Cut h wanting = inr h

pub partial_fits : (w : List ℕ) → IsPartial w → length w < most_held
partial_fits w (inl h) = omega (arith, ap length (empty_only w h))
partial_fits w (inr h) = cut_fits w h

-- where no more are wanted what was found stands, whatever follows
pub closed_known : (w : List ℕ) (left : Option (List ℕ)) (found : Found) → IsFraming w (outcome_at w found)
    → is_open found ≡ false
    → IfSome (prepend_known w left) (λ input. IsFraming input (outcome_at w found))
closed_known w left (Spans.Whole s) h closed = known_whole w left (frame_at w s) h
closed_known w left Spans.Empty h closed = absurd cc
closed_known w left (Spans.Refused d) h closed = known_refused w left d h
closed_known w left Spans.Cut h closed = absurd cc

pub finds_closed : (w : List ℕ) (left : Option (List ℕ)) (found : Found) → IsFraming w (outcome_at w found)
    → IsFoundWithin (length w) found
    → is_open found ≡ false → Finds w left found
finds_closed w left found h within closed =
    record { here = h; told = closed_known w left found h closed; within = within }

-- at the end of the source what was found stands
pub finds_end : (old new got : List ℕ) (left : Option (List ℕ)) (found : Found)
    → new ≡ old ++ got → length got ≡ 0 → IsFraming old (outcome_at old found) → IsFoundWithin (length old) found
    → IsAtEnd left
    → Finds new left found
finds_end old new got left found grows none h within end =
    let same : old ≡ new = sym (grows ∙ ap (λ xs. old ++ xs) (none_read got none) ∙ append-nil old) in
    let P : List ℕ → Type 0 = λ (w : List ℕ). Finds w left found in
    subst P same (record { here = h; told = known_end old left (outcome_at old found) h end; within = within })

-- a fact that holds holds on an error
pub on_err : {A E : Type 0} (r : Result A E) {P : Type 0} → P → OnErr r P
on_err (Ok a) p = tt
on_err (Err e) p = p
