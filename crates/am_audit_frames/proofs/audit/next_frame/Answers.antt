use Rattle.std.proofs.Common.{◌≡◌, ℕ, ◌-◌, ◌==◌, Bool, true, List, [], ◌++◌, ◌∷◌, length, take, drop, refl, sym, ap, ◌∙◌, subst}
use Rattle.std.proofs.lemmas.Bool.{eq-eqb, eqb-true}
use Rattle.std.proofs.lemmas.List.{nil_from_length, take_rest}
use Rattle.am_frames.specs.declared.frame.Framing.{Framing}
use Rattle.am_frames.specs.declared.frame.Framing.TheVariants as found
use Rattle.am_frames.specs.declared.frame.WholeFrame.{WholeFrame}
use Rattle.am_frames.specs.Head.{Frame, whole}
use Rattle.am_frames.specs.FrameSpans.{frame_held, outcome_held}
use Rattle.am_http.specs.Sessions.{most_frames}
use Rattle.am_frames.proofs.FramingLemmas.{whole_body, whole_fits, whole_key}
use Rattle.am_audit_answers.specs.Audits.{Ground}
use Rattle.am_audit_answers.specs.Judged.{IsAccepted, Judges}
use Rattle.am_audit_frames.specs.declared.audit.Walk.{Walk}
use Rattle.am_audit_frames.specs.Verdicts.{IsVerdict, Transcript}
use Rattle.am_audit_frames.specs.Walks.{Passes, Place, Reaches, Walked, ground_at}
use Rattle.am_audit_frames.proofs.Reached.{case_behind}
use Rattle.am_audit_frames.proofs.Settled.{settles_refused}
use Rattle.am_audit_frames.proofs.Steps.{IsAt, goes_further, settles_at_close, settles_at_end}
use Rattle.am_audit_frames.proofs.audit.next_frame.Goals as goal

-- the place to which a walk has come
abbrev place_of : (ground : Ground) (t : Transcript) (walk : Walk) → Walked ground t walk → Place
place_of ground t walk w = record { frames = w.frames; floor = length walk.replayed.history; left = walk.left.now }

at_place : (ground : Ground) (t : Transcript) (walk : Walk) (w : Walked ground t walk)
    → IsAt ground t (place_of ground t walk w) walk.input.now walk.count
at_place ground t walk w = record { counted = w.counted; passes = w.passes; reaches = w.reaches }

-- what isn't found as a whole frame is none
not_whole : (r : Framing) → ((x : WholeFrame) → r ≡ found.Whole x → ⊥) → (f : Frame) → outcome_held r ≡ whole f → ⊥
not_whole (found.Whole x) none f e = none x refl
not_whole found.Empty none f e = cc
not_whole (found.Refused defect) none f e = cc
not_whole found.Cut none f e = cc

-- the length of what is behind a place tells whether it is empty
empty_from : (xs : List ℕ) (at : ℕ) (b : Bool) → b ≡ (length (take (length xs - at) (drop at xs)) == 0) → b ≡ true
    → drop at xs ≡ []
empty_from xs at b tested holds =
    sym (take_rest xs at)
    ∙ nil_from_length (take (length xs - at) (drop at xs)) (eqb-true (length (take (length xs - at) (drop at xs))) 0
    (sym tested ∙ holds))

to_empty : (xs : List ℕ) (at : ℕ) (b : Bool) → b ≡ (length (take (length xs - at) (drop at xs)) == 0) → drop at xs ≡ []
    → b ≡ true
to_empty xs at b tested none =
    tested ∙ eq-eqb (length (take (length xs - at) (drop at xs))) 0 (ap length (take_rest xs at ∙ none))

pub returns-in_default : goal.returns-in_default
returns-in_default c = λ t w.
    let ground = ground_at c.args.history.now c.args.walk in
    subst (IsVerdict ground t) (sym c.ended.ensures)
    (settles_at_end ground t (place_of ground t c.args.walk w) c.args.walk.input.now c.args.walk.count
    (outcome_held c.frame.result) c.may_end.result (at_place ground t c.args.walk w) c.requires.room
    c.frame.ensures.framing (not_whole c.frame.result c.in_default.not-Whole) c.may_end.ensures.0 c.may_end.ensures.1)

pub judge-requires-clause-key : goal.judge-requires-clause-key
judge-requires-clause-key c =
    whole_key c.args.walk.input.now (frame_held c.in-Whole.frame) c.in-Whole.ensures.framing

pub judge-requires-clause-body : goal.judge-requires-clause-body
judge-requires-clause-body c =
    whole_body c.args.walk.input.now (frame_held c.in-Whole.frame) c.in-Whole.ensures.framing

pub slice_bounds-input-start : goal.slice_bounds-input-start
slice_bounds-input-start c =
    (whole_fits c.args.walk.input.now (frame_held c.in-Whole.frame) c.in-Whole.ensures.framing).1

pub slice_bounds-input-count : goal.slice_bounds-input-count
slice_bounds-input-count c =
    (whole_fits c.args.walk.input.now (frame_held c.in-Whole.frame) c.in-Whole.ensures.framing).1

pub returns-in_default-2 : goal.returns-in_default-2
returns-in_default-2 c = λ t w.
    let ground = ground_at c.args.history.now c.args.walk in
    let place = place_of ground t c.args.walk w in
    let f = frame_held c.in-Whole.frame in
    settles_refused ground t place c.args.walk.input.now c.args.walk.count f w.reaches w.counted w.passes
    c.requires.room
    c.in-Whole.ensures.framing (subst (Judges (case_behind ground place f)) c.in_default-2.is c.in_ok-accepted.ensures)

pub returns-then-frame : goal.returns-then-frame
returns-then-frame c = λ t w.
    let walk = c.args.walk in
    let ground = ground_at c.args.history.now walk in
    let place = place_of ground t walk w in
    let f = frame_held c.in-Whole.frame in
    let accepted = c.in-Some.accepted in
    let tested = c.is_empty.ensures in
    subst (IsVerdict ground t) (sym c.ended-then-frame.ensures)
    (settles_at_close ground t place walk.input.now walk.count f (length accepted.replayed.history)
    (drop accepted.taken walk.left.now) c.is_empty.result (at_place ground t walk w) c.requires.room
    c.in-Whole.ensures.framing c.if-frame.true
    (subst (Judges (case_behind ground place f)) c.in-Some.is c.in_ok-accepted.ensures).accepts
    (empty_from walk.left.now accepted.taken c.is_empty.result tested)
    (to_empty walk.left.now accepted.taken c.is_empty.result tested))

pub returns : goal.returns
returns c = λ t w.
    let walk = c.args.walk in
    let ground = ground_at c.args.history.now walk in
    let place = place_of ground t walk w in
    let f = frame_held c.in-Whole.frame in
    let accepted = c.in-Some.accepted in
    let judged : IsAccepted (case_behind ground place f) accepted =
    subst (Judges (case_behind ground place f)) c.in-Some.is c.in_ok-accepted.ensures in
    let left = drop accepted.taken walk.left.now in
    let at =
    goes_further ground t place walk.input.now walk.count f (length accepted.replayed.history) left (at_place ground t walk w)
    c.requires.room c.in-Whole.ensures.framing c.if-frame.false judged.accepts in (
      record {
        frames = w.frames ++ f ∷ [];
        counted = at.counted;
        passes =
            subst (Passes most_frames t.frames (w.frames ++ f ∷ [])) (sym (take_rest walk.input.now f.length))
            at.passes;
        reaches =
            subst
            (λ (x : List ℕ). Reaches ground t
            (record { frames = w.frames ++ f ∷ []; floor = length accepted.replayed.history; left = x }))
            (sym (take_rest walk.left.now accepted.taken)) at.reaches;
        start = judged.start;
        replayed = judged.replayed;
      },
      refl,
    )
