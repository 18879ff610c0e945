-- One step of an audit: where the input has no further whole frame, where no further one is read, and behind a frame
-- that
-- is accepted.
use Rattle.std.proofs.Common.{◌≡◌, ℕ, ◌+◌, ◌<◌, Bool, true, false, cond, List, [], ◌∷◌, ◌++◌, length, drop, sym, ◌∙◌, subst, arith, length-append, inl, inr}
use Rattle.am_frames.specs.Head.{Frame, Outcome, whole}
use Rattle.am_frames.specs.Framing.{IsFraming}
use Rattle.am_http.specs.Sessions.{most_frames}
use Rattle.am_frames.proofs.FramingLemmas.{whole_only}
use Rattle.am_audit_answers.specs.Audits.{Ground}
use Rattle.am_audit_answers.specs.Judging.{Accepts}
use Rattle.am_audit_frames.specs.declared.audit.Verdict.TheVariants.{Whole, UpTo}
use Rattle.am_audit_frames.specs.Streams.{EndsWith, IsLast}
use Rattle.am_audit_frames.specs.Verdicts.{IsVerdict, Transcript}
use Rattle.am_audit_frames.specs.Walks.{Passes, Place, Reaches}
use Rattle.am_audit_frames.proofs.Frames.{frame_or_last}
use Rattle.am_audit_frames.proofs.Reached.{case_behind, reaches_more}
use Rattle.am_audit_frames.proofs.Settled.{settles}
use Rattle.am_audit_frames.proofs.Walks.{close_behind_walk, ends_at_close, ends_at_last, ends_at_limit, last_behind_walk, limit_behind_walk, walked_more}

-- a walk came to a place behind so many first frames, with these bytes left of the input
pub record IsAt (ground : Ground) (t : Transcript) (place : Place) (input : List ℕ) (count : ℕ) : Type 0 where
  pub counted : count ≡ length place.frames
  pub passes : Passes most_frames t.frames place.frames input
  pub reaches : Reaches ground t place

-- the place behind one more frame
abbrev pub place_behind : Place → Frame → ℕ → List ℕ → Place
place_behind place f after left = record { frames = place.frames ++ f ∷ []; floor = after; left = left }

-- Where the input has no further whole frame, the audit is whole exactly if what is left may be written last.
pub settles_at_end : (ground : Ground) (t : Transcript) (place : Place) (input : List ℕ) (count : ℕ) (o : Outcome)
    (is_end : Bool) → IsAt ground t place input count → count < most_frames → IsFraming input o
    → ((f : Frame) → o ≡ whole f → ⊥) → (is_end ≡ true → IsLast input place.left)
    → (IsLast input place.left → is_end ≡ true)
    → IsVerdict ground t (cond is_end (Whole count) (UpTo count))
settles_at_end ground t place input count o is_end at room is not_whole may must =
    let fs = place.frames in
    let below : length fs < most_frames = omega (arith, room, at.counted) in
    let none : (f : Frame) → IsFraming input (whole f) → ⊥ = λ f whole_is. not_whole f
    (whole_only input f o whole_is is) in
    elim (frame_or_last input o is) [
      | inl (f, whole_is) ↦ absurd (none f whole_is)
      | inr (last, is_last) ↦
          settles ground t place last count is_end at.reaches at.counted
          (ends_at_last most_frames t.frames fs input last at.passes below is_last)
          (λ e. ends_at_last most_frames t.frames fs input place.left at.passes below (may e))
          (λ ends. must (last_behind_walk most_frames t.frames fs fs input place.left at.passes below none ends).1)
    ]

-- Where no further frame is read, it is whole exactly if nothing is left.
pub settles_at_limit : (ground : Ground) (t : Transcript) (place : Place) (input : List ℕ) (count : ℕ) (is_end : Bool)
    → IsAt ground t place input count → count ≡ most_frames → (is_end ≡ true → place.left ≡ [])
    → (place.left ≡ [] → is_end ≡ true) → IsVerdict ground t (cond is_end (Whole count) (UpTo count))
settles_at_limit ground t place input count is_end at full may must =
    let fs = place.frames in
    let all : length fs ≡ most_frames = sym at.counted ∙ full in
    let ends = ends_at_limit most_frames t.frames fs input at.passes all in
    settles ground t place [] count is_end at.reaches at.counted ends
    (λ e. subst (EndsWith most_frames t.frames fs) (sym (may e)) ends)
    (λ there. must (limit_behind_walk most_frames t.frames fs fs input place.left at.passes all there).1)

one_more : (fs : List Frame) (f : Frame) (count : ℕ) → count ≡ length fs → count + 1 ≡ length (fs ++ f ∷ [])
one_more fs f count counted = omega (arith, counted, length-append fs (f ∷ []))

-- Behind an accepted frame that asks to close it is so too.
pub settles_at_close : (ground : Ground) (t : Transcript) (place : Place) (input : List ℕ) (count : ℕ) (f : Frame)
    (after : ℕ) (left : List ℕ) (is_end : Bool) → IsAt ground t place input count → count < most_frames
    → IsFraming input (whole f) → f.close ≡ true → Accepts (case_behind ground place f) after left
    → (is_end ≡ true → left ≡ []) → (left ≡ [] → is_end ≡ true)
    → IsVerdict ground t (cond is_end (Whole (count + 1)) (UpTo (count + 1)))
settles_at_close ground t place input count f after left is_end at room is closes accepts may must =
    let fs = place.frames in
    let below : length fs < most_frames = omega (arith, room, at.counted) in
    let ends = ends_at_close most_frames t.frames fs input f at.passes below is closes in
    settles ground t (place_behind place f after left) [] (count + 1) is_end
    (reaches_more ground t place f after left at.reaches accepts) (one_more fs f count at.counted) ends
    (λ e. subst (EndsWith most_frames t.frames (fs ++ f ∷ [])) (sym (may e)) ends)
    (λ there. must (close_behind_walk most_frames t.frames fs (fs ++ f ∷ []) input left f at.passes below is closes
    there).1)

-- Behind one that doesn't, the walk has come one frame further.
pub goes_further : (ground : Ground) (t : Transcript) (place : Place) (input : List ℕ) (count : ℕ) (f : Frame)
    (after : ℕ) (left : List ℕ) → IsAt ground t place input count → count < most_frames
    → IsFraming input (whole f)
    → f.close ≡ false → Accepts (case_behind ground place f) after left
    → IsAt ground t (place_behind place f after left) (drop f.length input) (count + 1)
goes_further ground t place input count f after left at room is stays accepts =
    let fs = place.frames in
    let below : length fs < most_frames = omega (arith, room, at.counted) in
    record {
      counted = one_more fs f count at.counted;
      passes = walked_more most_frames t.frames fs input f at.passes below is stays;
      reaches = reaches_more ground t place f after left at.reaches accepts;
    }
