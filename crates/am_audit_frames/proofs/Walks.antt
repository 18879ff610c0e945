-- The frames of an input, one after the other: they are the only ones, and a walk over the first leaves the others.
use Rattle.std.proofs.Common.{◌≡◌, ℕ, ◌-◌, ◌<◌, ◌≤◌, Bool, true, false, List, [], ◌∷◌, ◌++◌, length, take, drop, refl, sym, ap, ◌∙◌, subst, arith, append-nil, take-append-drop, inl, inr}
use Rattle.am_frames.specs.Head.{Frame, whole}
use Rattle.am_frames.specs.Framing.{IsFraming}
use Rattle.am_audit_frames.specs.Streams.{AreFirst, Behind, EndsWith, IsLast}
use Rattle.am_audit_frames.specs.Walks.{Passes}
use Rattle.am_audit_frames.proofs.Frames.{frame_only, whole_has_no_last}

-- ---- behind a frame

behind_both : (close : Bool) (A B C D T : Type 0) → (A → C → T) → (B → D → T) → Behind close A B → Behind close C D → T
behind_both true A B C D T ends goes_on x y = ends x y
behind_both false A B C D T ends goes_on x y = goes_on x y

behind_map : (close : Bool) (A B C D : Type 0) → (A → C) → (B → D) → Behind close A B → Behind close C D
behind_map true A B C D ends goes_on x = ends x
behind_map false A B C D ends goes_on x = goes_on x

behind_open : (close : Bool) (A B : Type 0) → close ≡ false → Behind close A B → B
behind_open true A B stays x = absurd cc
behind_open false A B stays x = x

behind_closed : (close : Bool) (A B : Type 0) → close ≡ true → Behind close A B → A
behind_closed true A B closes x = x
behind_closed false A B closes x = absurd cc

closed_behind : (close : Bool) (A B : Type 0) → close ≡ true → A → Behind close A B
closed_behind true A B closes x = x
closed_behind false A B closes x = absurd cc

open_behind : (close : Bool) (A B : Type 0) → close ≡ false → B → Behind close A B
open_behind true A B stays x = absurd cc
open_behind false A B stays x = x

-- what comes behind the first of all frames, and of the first ones
abbrev AfterAll : ℕ → List ℕ → List Frame → List ℕ → Frame → Type 0
AfterAll most input others last f =
    Behind f.close ((others ≡ []) × (last ≡ [])) (EndsWith (most - 1) (drop f.length input) others last)

abbrev AfterFirst : ℕ → List ℕ → List Frame → Frame → Type 0
AfterFirst most input others f = Behind f.close (others ≡ []) (AreFirst (most - 1) (drop f.length input) others)

-- where no frame follows, no further one is at the front
no_further : (most : ℕ) (input last : List ℕ) (f : Frame) → EndsWith most input [] last → 0 < most
    → IsFraming input (whole f) → ⊥
no_further most input last f (inl (none, empty)) some is = absurd (omega arith)
no_further most input last f (inr (room, end)) some is = whole_has_no_last input last f is end

-- ---- all frames, and the first ones

-- There is one list of all frames of an input.
pub all_frames_only : (most : ℕ) (input : List ℕ) (fs gs : List Frame) (a b : List ℕ) → EndsWith most input fs a
    → EndsWith most input gs b → fs ≡ gs
all_frames_only most input [] [] a b x y = refl
all_frames_only most input [] (g ∷ gs) a b x y = absurd (no_further most input a g x y.0 y.1)
all_frames_only most input (f ∷ fs) [] a b x y = absurd (no_further most input b f y x.0 x.1)
all_frames_only most input (f ∷ fs) (g ∷ gs) a b x y =
    let same = frame_only input f g x.1 y.1 in
    let others : fs ≡ gs =
    behind_both f.close ((fs ≡ []) × (a ≡ [])) (EndsWith (most - 1) (drop f.length input) fs a) ((gs ≡ []) × (b ≡ []))
    (EndsWith (most - 1) (drop f.length input) gs b) (fs ≡ gs) (λ p q. p.0 ∙ sym q.0)
    (λ p q. all_frames_only (most - 1) (drop f.length input) fs gs a b p q) x.2
    (subst (AfterAll most input gs b) (sym same) y.2) in
    λ i. same i ∷ others i

-- Of two lists of first frames the shorter begins the longer.
pub first_frames_begin : (most : ℕ) (input : List ℕ) (fs gs : List Frame) → AreFirst most input fs
    → AreFirst most input gs
    → length fs ≤ length gs → fs ≡ take (length fs) gs
first_frames_begin most input [] gs x y short = refl
first_frames_begin most input (f ∷ fs) [] x y short = absurd (omega arith)
first_frames_begin most input (f ∷ fs) (g ∷ gs) x y short =
    let same = frame_only input f g x.1 y.1 in
    let others : fs ≡ take (length fs) gs =
    behind_both f.close (fs ≡ []) (AreFirst (most - 1) (drop f.length input) fs) (gs ≡ [])
    (AreFirst (most - 1) (drop f.length input) gs) (fs ≡ take (length fs) gs)
    (λ p q. p ∙ ap (λ (t : List Frame). take (length t) gs) (sym p))
    (λ p q. first_frames_begin (most - 1) (drop f.length input) fs gs p q (omega arith)) x.2
    (subst (AfterFirst most input gs) (sym same) y.2) in
    λ i. same i ∷ others i

-- All frames are first frames.
pub all_are_first : (most : ℕ) (input : List ℕ) (fs : List Frame) (last : List ℕ) → EndsWith most input fs last
    → AreFirst most input fs
all_are_first most input [] last x = tt
all_are_first most input (f ∷ fs) last x = (
  x.0,
  x.1,
  behind_map f.close ((fs ≡ []) × (last ≡ [])) (EndsWith (most - 1) (drop f.length input) fs last) (fs ≡ [])
      (AreFirst (most - 1) (drop f.length input) fs) (λ p. p.0)
      (λ p. all_are_first (most - 1) (drop f.length input) fs last p) x.2,
)

-- There are no more first frames than frames.
pub first_within_all : (most : ℕ) (input : List ℕ) (fs gs : List Frame) (last : List ℕ) → EndsWith most input fs last
    → AreFirst most input gs → length gs ≤ length fs
first_within_all most input fs [] last x y = omega arith
first_within_all most input [] (g ∷ gs) last x y = absurd (no_further most input last g x y.0 y.1)
first_within_all most input (f ∷ fs) (g ∷ gs) last x y =
    let same = frame_only input f g x.1 y.1 in
    let others : length gs ≤ length fs =
    behind_both f.close ((fs ≡ []) × (last ≡ [])) (EndsWith (most - 1) (drop f.length input) fs last) (gs ≡ [])
    (AreFirst (most - 1) (drop f.length input) gs) (length gs ≤ length fs)
    (λ p q. omega (arith, ap length q))
    (λ p q. first_within_all (most - 1) (drop f.length input) fs gs last p q) x.2
    (subst (AfterFirst most input gs) (sym same) y.2) in
    omega arith

-- ---- a walk

pub walked_more : (most : ℕ) (input : List ℕ) (fs : List Frame) (rest : List ℕ) (f : Frame) → Passes most input fs rest
    → length fs < most → IsFraming rest (whole f) → f.close ≡ false
    → Passes most input (fs ++ f ∷ []) (drop f.length rest)
walked_more most input [] rest f w room is stays =
    (room, subst (λ (t : List ℕ). IsFraming t (whole f)) w is, stays, ap (drop f.length) w)
walked_more most input (g ∷ fs) rest f w room is stays =
    (w.0, w.1, w.2, walked_more (most - 1) (drop g.length input) fs rest f w.3 (omega arith) is stays)

-- all frames are those that were walked over and all of what is left
pub ends_from_walk : (most : ℕ) (input : List ℕ) (fs more : List Frame) (rest last : List ℕ) → Passes most input fs rest
    → EndsWith (most - length fs) rest more last → EndsWith most input (fs ++ more) last
ends_from_walk most input [] more rest last w x =
    let all : most - length {A = Frame} [] ≡ most = omega arith in
    subst (λ (t : List ℕ). EndsWith most t more last) w (subst (λ (n : ℕ). EndsWith n rest more last) all x)
ends_from_walk most input (f ∷ fs) more rest last w x =
    let fewer : most - length (f ∷ fs) ≡ most - 1 - length fs = omega arith in (
      w.0,
      w.1,
      open_behind f.close ((fs ++ more ≡ []) × (last ≡ [])) (EndsWith (most - 1) (drop f.length input) (fs ++ more)
          last) w.2
          (ends_from_walk (most - 1) (drop f.length input) fs more rest last w.3
          (subst (λ (n : ℕ). EndsWith n rest more last) fewer x)),
    )

pub ends_behind_walk : (most : ℕ) (input : List ℕ) (fs more : List Frame) (rest last : List ℕ)
    → Passes most input fs rest
    → EndsWith most input (fs ++ more) last → EndsWith (most - length fs) rest more last
ends_behind_walk most input [] more rest last w x =
    let all : most ≡ most - length {A = Frame} [] = omega arith in
    subst (λ (n : ℕ). EndsWith n rest more last) all (subst (λ (t : List ℕ). EndsWith most t more last) (sym w) x)
ends_behind_walk most input (f ∷ fs) more rest last w x =
    let fewer : most - 1 - length fs ≡ most - length (f ∷ fs) = omega arith in
    subst (λ (n : ℕ). EndsWith n rest more last) fewer
    (ends_behind_walk (most - 1) (drop f.length input) fs more rest last w.3
    (behind_open f.close ((fs ++ more ≡ []) × (last ≡ [])) (EndsWith (most - 1) (drop f.length input) (fs ++ more) last)
    w.2
    x.2))

pub first_from_walk : (most : ℕ) (input : List ℕ) (fs more : List Frame) (rest : List ℕ) → Passes most input fs rest
    → AreFirst (most - length fs) rest more → AreFirst most input (fs ++ more)
first_from_walk most input [] more rest w x =
    let all : most - length {A = Frame} [] ≡ most = omega arith in
    subst (λ (t : List ℕ). AreFirst most t more) w (subst (λ (n : ℕ). AreFirst n rest more) all x)
first_from_walk most input (f ∷ fs) more rest w x =
    let fewer : most - length (f ∷ fs) ≡ most - 1 - length fs = omega arith in (
      w.0,
      w.1,
      open_behind f.close (fs ++ more ≡ []) (AreFirst (most - 1) (drop f.length input) (fs ++ more)) w.2
          (first_from_walk (most - 1) (drop f.length input) fs more rest w.3
          (subst (λ (n : ℕ). AreFirst n rest more) fewer x)),
    )

pub first_behind_walk : (most : ℕ) (input : List ℕ) (fs more : List Frame) (rest : List ℕ) → Passes most input fs rest
    → AreFirst most input (fs ++ more) → AreFirst (most - length fs) rest more
first_behind_walk most input [] more rest w x =
    let all : most ≡ most - length {A = Frame} [] = omega arith in
    subst (λ (n : ℕ). AreFirst n rest more) all (subst (λ (t : List ℕ). AreFirst most t more) (sym w) x)
first_behind_walk most input (f ∷ fs) more rest w x =
    let fewer : most - 1 - length fs ≡ most - length (f ∷ fs) = omega arith in
    subst (λ (n : ℕ). AreFirst n rest more) fewer
    (first_behind_walk (most - 1) (drop f.length input) fs more rest w.3
    (behind_open f.close (fs ++ more ≡ []) (AreFirst (most - 1) (drop f.length input) (fs ++ more)) w.2 x.2))

-- All frames begin with those that were walked over.
pub all_begin_with_walked : (most : ℕ) (input : List ℕ) (fs all : List Frame) (rest last : List ℕ)
    → Passes most input fs rest
    → EndsWith most input all last → (more : List Frame) × (all ≡ fs ++ more)
all_begin_with_walked most input [] all rest last w x = (all, refl)
all_begin_with_walked most input (f ∷ fs) [] rest last w x = absurd (no_further most input last f x w.0 w.1)
all_begin_with_walked most input (f ∷ fs) (g ∷ gs) rest last w x =
    let same = frame_only input g f x.1 w.1 in
    let next =
    behind_open f.close ((gs ≡ []) × (last ≡ [])) (EndsWith (most - 1) (drop f.length input) gs last) w.2
    (subst (AfterAll most input gs last) same x.2) in
    let others = all_begin_with_walked (most - 1) (drop f.length input) fs gs rest last w.3 next in
    (others.0, λ i. same i ∷ others.1 i)

-- The frames that were walked over are first frames.
pub walked_are_first : (most : ℕ) (input : List ℕ) (fs : List Frame) (rest : List ℕ) → Passes most input fs rest
    → AreFirst most input fs
walked_are_first most input fs rest w =
    subst (AreFirst most input) (append-nil fs) (first_from_walk most input fs [] rest w tt)

-- First frames that are no fewer begin with those that were walked over.
pub first_begin_with_walked : (most : ℕ) (input : List ℕ) (fs gs : List Frame) (rest : List ℕ)
    → Passes most input fs rest
    → AreFirst most input gs → length fs ≤ length gs → (more : List Frame) × (gs ≡ fs ++ more)
first_begin_with_walked most input fs gs rest w y short =
    let same = first_frames_begin most input fs gs (walked_are_first most input fs rest w) y short in (
      drop (length fs) gs,
      sym (take-append-drop (length fs) gs) ∙ ap (λ (t : List Frame). t ++ drop (length fs) gs) (sym same),
    )

-- ---- where a walk ends

-- Where what is left is at an end, the frames that were walked over are all.
pub ends_at_last : (most : ℕ) (input : List ℕ) (fs : List Frame) (rest last : List ℕ) → Passes most input fs rest
    → length fs < most → IsLast rest last → EndsWith most input fs last
ends_at_last most input fs rest last w room end =
    let below : 0 < most - length fs = omega arith in
    subst (λ (t : List Frame). EndsWith most input t last) (append-nil fs)
    (ends_from_walk most input fs [] rest last w (inr (below, end)))

-- So they are where no further frame is read.
pub ends_at_limit : (most : ℕ) (input : List ℕ) (fs : List Frame) (rest : List ℕ) → Passes most input fs rest
    → length fs ≡ most → EndsWith most input fs []
ends_at_limit most input fs rest w full =
    let none : most - length fs ≡ 0 = omega arith in
    subst (λ (t : List Frame). EndsWith most input t []) (append-nil fs)
    (ends_from_walk most input fs [] rest [] w (inl (none, refl)))

-- With one more that asks to close they are all.
pub ends_at_close : (most : ℕ) (input : List ℕ) (fs : List Frame) (rest : List ℕ) (f : Frame)
    → Passes most input fs rest
    → length fs < most → IsFraming rest (whole f) → f.close ≡ true → EndsWith most input (fs ++ f ∷ []) []
ends_at_close most input fs rest f w room is closes =
    let below : 0 < most - length fs = omega arith in
    ends_from_walk most input fs (f ∷ []) rest [] w (
      below,
      is,
      closed_behind f.close (◌≡◌ {A = List Frame} [] [] × ◌≡◌ {A = List ℕ} [] [])
          (EndsWith (most - length fs - 1) (drop f.length rest) [] []) closes (refl, refl),
    )

-- what comes behind the frames that were walked over
record IsSplit (most : ℕ) (rest : List ℕ) (fs all : List Frame) (last : List ℕ) : Type 0 where
  more : List Frame
  same : all ≡ fs ++ more
  ends : EndsWith (most - length fs) rest more last

split_all : (most : ℕ) (input : List ℕ) (fs all : List Frame) (rest last : List ℕ) → Passes most input fs rest
    → EndsWith most input all last → IsSplit most rest fs all last
split_all most input fs all rest last w x =
    let begin = all_begin_with_walked most input fs all rest last w x in
    record {
      more = begin.0;
      same = begin.1;
      ends =
          ends_behind_walk most input fs begin.0 rest last w
          (subst (λ (t : List Frame). EndsWith most input t last) begin.1 x);
    }

-- Where what is left has no whole frame, there are no other frames, and it is at an end.
pub last_behind_walk : (most : ℕ) (input : List ℕ) (fs all : List Frame) (rest last : List ℕ)
    → Passes most input fs rest
    → length fs < most → ((f : Frame) → IsFraming rest (whole f) → ⊥) → EndsWith most input all last
    → (all ≡ fs) × IsLast rest last
last_behind_walk most input fs all rest last w room none x =
    let split = split_all most input fs all rest last w x in
    by_more split.more split.same split.ends
  where
    by_more : (more : List Frame) → all ≡ fs ++ more → EndsWith (most - length fs) rest more last → (all ≡ fs)
        × IsLast rest last
    by_more [] same (inl (full, empty)) = absurd (omega arith)
    by_more [] same (inr (below, end)) = (same ∙ append-nil fs, end)
    by_more (f ∷ more) same y = absurd (none f y.1)

-- Where no further frame is read, there are no other frames, and nothing is written last.
pub limit_behind_walk : (most : ℕ) (input : List ℕ) (fs all : List Frame) (rest last : List ℕ)
    → Passes most input fs rest
    → length fs ≡ most → EndsWith most input all last → (all ≡ fs) × (last ≡ [])
limit_behind_walk most input fs all rest last w full x =
    let split = split_all most input fs all rest last w x in
    by_more split.more split.same split.ends
  where
    by_more : (more : List Frame) → all ≡ fs ++ more → EndsWith (most - length fs) rest more last → (all ≡ fs)
        × (last ≡ [])
    by_more [] same (inl (none, empty)) = (same ∙ append-nil fs, empty)
    by_more [] same (inr (below, end)) = absurd (omega arith)
    by_more (f ∷ more) same y = absurd (omega (arith, y.0))

-- Where one follows that asks to close, it is the last one, and nothing is written behind it.
pub close_behind_walk : (most : ℕ) (input : List ℕ) (fs all : List Frame) (rest last : List ℕ) (f : Frame)
    → Passes most input fs rest → length fs < most → IsFraming rest (whole f) → f.close ≡ true
    → EndsWith most input all last
    → (all ≡ fs ++ f ∷ []) × (last ≡ [])
close_behind_walk most input fs all rest last f w room is closes x =
    let split = split_all most input fs all rest last w x in
    by_more split.more split.same split.ends
  where
    by_more : (more : List Frame) → all ≡ fs ++ more → EndsWith (most - length fs) rest more last
        → (all ≡ fs ++ f ∷ []) × (last ≡ [])
    by_more [] same y = absurd (no_further (most - length fs) rest last f y (omega arith) is)
    by_more (g ∷ more) same y =
        let one = frame_only rest g f y.1 is in
        let behind =
        behind_closed f.close ((more ≡ []) × (last ≡ []))
        (EndsWith (most - length fs - 1) (drop f.length rest) more last) closes
        (subst (AfterAll (most - length fs) rest more last) one y.2) in
        (same ∙ (λ i. fs ++ one i ∷ behind.0 i), behind.1)
