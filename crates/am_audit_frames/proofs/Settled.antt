-- What an audit comes to where no further frame follows, or the next one is refused.
use Rattle.std.proofs.Common.{◌≡◌, ℕ, ◌-◌, ◌<◌, Bool, true, false, cond, List, [], ◌∷◌, ◌++◌, length, refl, ap, ◌∙◌, subst, arith, length-append}
use Rattle.std.proofs.lemmas.Bool.{false≢true}
use Rattle.am_frames.specs.Head.{Frame, whole}
use Rattle.am_frames.specs.Framing.{IsFraming}
use Rattle.am_http.specs.Exchanges.{bytes_of}
use Rattle.am_http.specs.Sessions.{most_frames}
use Rattle.am_audit_answers.specs.Audits.{BeginsAudited, Ground}
use Rattle.am_audit_answers.specs.Judging.{Refuses}
use Rattle.am_audit_frames.specs.declared.audit.Verdict.TheVariants.{Whole, UpTo}
use Rattle.am_audit_frames.specs.Streams.{AreFirst, Behind, EndsWith}
use Rattle.am_audit_frames.specs.Verdicts.{IsAuditedUpTo, IsAuditedWhole, IsVerdict, Transcript}
use Rattle.am_audit_frames.specs.Walks.{Passes, Place, Reaches}
use Rattle.am_audit_frames.proofs.Frames.{frame_only}
use Rattle.am_audit_frames.proofs.Reached.{begins_to, case_behind, refused_there, responses_to, same_left, splits_at}
use Rattle.am_audit_frames.proofs.Walks.{all_are_first, all_frames_only, first_begin_with_walked, first_behind_walk, first_from_walk, first_within_all, walked_are_first}

-- ---- where no further frame follows

-- the responses are those to the frames before a place, and what is left there may be written last
whole_there : (ground : Ground) (t : Transcript) (place : Place) (count : ℕ) → Reaches ground t place
    → count ≡ length place.frames → EndsWith most_frames t.frames place.frames place.left
    → IsAuditedWhole ground t count
whole_there ground t place count reaches counted ends = record {
  frames = place.frames;
  bytes = bytes_of reaches.exchanges;
  last = place.left;
  ends = ends;
  audited = responses_to ground t place reaches;
  output = splits_at ground t place reaches;
  counted = counted;
}

-- a whole audit has no other frames than those before a place that are all, and what is left there is written last
ends_there : (ground : Ground) (t : Transcript) (place : Place) (last : List ℕ) (count : ℕ) → Reaches ground t place
    → EndsWith most_frames t.frames place.frames last → IsAuditedWhole ground t count
    → EndsWith most_frames t.frames place.frames place.left
ends_there ground t place last count reaches ends w =
    let same : w.frames ≡ place.frames =
    all_frames_only most_frames t.frames w.frames place.frames w.last last w.ends ends in
    let left : w.last ≡ place.left =
    same_left ground t place w.frames w.bytes w.last reaches same w.audited w.output in
    subst (EndsWith most_frames t.frames place.frames) left
    (subst (λ (fs : List Frame). EndsWith most_frames t.frames fs w.last) same w.ends)

-- Where the frames before a place are all, the audit is whole exactly if what is left there may be written last.
pub settles : (ground : Ground) (t : Transcript) (place : Place) (last : List ℕ) (count : ℕ) (is_end : Bool)
    → Reaches ground t place → count ≡ length place.frames → EndsWith most_frames t.frames place.frames last
    → (is_end ≡ true → EndsWith most_frames t.frames place.frames place.left)
    → (EndsWith most_frames t.frames place.frames place.left → is_end ≡ true)
    → IsVerdict ground t (cond is_end (Whole count) (UpTo count))
settles ground t place last count true reaches counted ends may must =
    whole_there ground t place count reaches counted (may refl)
settles ground t place last count false reaches counted ends may must = record {
  frames = place.frames;
  first = all_are_first most_frames t.frames place.frames last ends;
  counted = counted;
  audited = begins_to ground t place reaches;
  greatest = λ more first longer b.
      absurd (omega (arith, counted, longer, first_within_all most_frames t.frames place.frames more last ends first));
  not_whole = λ all w.
      absurd (false≢true (must (ends_there ground t place last all reaches ends w)));
}

-- ---- where the next frame is refused

alone : (close : Bool) → Behind close (◌≡◌ {A = List Frame} [] []) (Unit {0})
alone true = refl
alone false = tt

-- first frames that are more begin with the next one
next_among : (most : ℕ) (rest : List ℕ) (f : Frame) (more : List Frame) → AreFirst most rest more → 0 < length more
    → IsFraming rest (whole f) → (others : List Frame) × (more ≡ f ∷ others)
next_among most rest f [] first some is = absurd (omega (arith, some))
next_among most rest f (g ∷ others) first some is =
    let same : g ≡ f = frame_only rest g f first.1 is in
    (others, ap (λ (x : Frame). x ∷ others) same)

no_more : (ground : Ground) (t : Transcript) (place : Place) (rest : List ℕ) (f : Frame) (more : List Frame)
    → Reaches ground t place → Passes most_frames t.frames place.frames rest → IsFraming rest (whole f)
    → Refuses (case_behind ground place f) → AreFirst most_frames t.frames more → length place.frames < length more
    → BeginsAudited ground more t.responses → ⊥
no_more ground t place rest f more reaches passes is refuses first longer b =
    let fs = place.frames in
    let split = first_begin_with_walked most_frames t.frames fs more rest passes first (omega (arith, longer)) in
    let behind : AreFirst (most_frames - length fs) rest split.0 =
    first_behind_walk most_frames t.frames fs split.0 rest passes
    (subst (AreFirst most_frames t.frames) split.1 first) in
    let some : 0 < length split.0 = omega (arith, longer, ap length split.1, length-append fs split.0) in
    let next = next_among (most_frames - length fs) rest f split.0 behind some is in
    let same : more ≡ fs ++ f ∷ next.0 = split.1 ∙ ap (λ (x : List Frame). fs ++ x) next.1 in
    refused_there ground t place f next.0 reaches refuses
    (subst (λ (x : List Frame). BeginsAudited ground x t.responses) same b)

-- all frames are more than those before the next one
all_are_more : (most : ℕ) (input : List ℕ) (fs all : List Frame) (rest last : List ℕ) (f : Frame)
    → Passes most input fs rest
    → length fs < most → IsFraming rest (whole f) → EndsWith most input all last → length fs < length all
all_are_more most input fs all rest last f passes room is ends =
    let one : AreFirst (most - length fs) rest (f ∷ []) = (omega (arith, room), is, alone f.close) in
    let within =
    first_within_all most input all (fs ++ f ∷ []) last ends (first_from_walk most input fs (f ∷ []) rest passes one) in
    omega (arith, within, length-append fs (f ∷ []))

-- Where the next frame is refused, those before it are the most.
pub settles_refused : (ground : Ground) (t : Transcript) (place : Place) (rest : List ℕ) (count : ℕ) (f : Frame)
    → Reaches ground t place → count ≡ length place.frames → Passes most_frames t.frames place.frames rest
    → count < most_frames → IsFraming rest (whole f) → Refuses (case_behind ground place f)
    → IsAuditedUpTo ground t count
settles_refused ground t place rest count f reaches counted passes room is refuses = record {
  frames = place.frames;
  first = walked_are_first most_frames t.frames place.frames rest passes;
  counted = counted;
  audited = begins_to ground t place reaches;
  greatest = λ more first longer b.
      no_more ground t place rest f more reaches passes is refuses first (omega (arith, counted, longer)) b;
  not_whole = λ all w.
      no_more ground t place rest f w.frames reaches passes is refuses
      (all_are_first most_frames t.frames w.frames w.last w.ends)
      (all_are_more most_frames t.frames place.frames w.frames rest w.last f passes (omega (arith, counted, room)) is
      w.ends)
      (record { first = w.bytes; rest = w.last; splits = w.output; audited = w.audited });
}
