-- The exchanges with which the responses begin: what one more frame adds to them, and what they show.
use Rattle.std.proofs.Common.{◌≡◌, ℕ, List, [], ◌∷◌, ◌++◌, refl, sym, ap, ◌∙◌, subst, append_assoc, append-nil}
use Rattle.std.specs.List.{AllByRecursion}
use Rattle.std.proofs.lemmas.Grind.{flat_map-append}
use Rattle.am_frames.specs.Head.{Frame}
use Rattle.am_http.specs.Exchanges.{Exchange, IsAbove, AreInOrder, floor_after, floor_of, frames_of, bytes_of}
use Rattle.am_http.proofs.ExchangeLemmas.{all_more}
use Rattle.am_audit_answers.specs.Audits.{AreAudited, AreResponses, BeginsAudited, Ground, IsAudited}
use Rattle.am_audit_answers.specs.Judging.{Accepts, Answers, Case, Refuses}
use Rattle.am_audit_frames.specs.Verdicts.{Transcript}
use Rattle.am_audit_frames.specs.Walks.{Begin, Place, Reaches}

-- ---- exchanges one after the other

each_apart : (P : Exchange → Type 0) (es gs : List Exchange) → AllByRecursion P (es ++ gs)
    → AllByRecursion P es × AllByRecursion P gs
each_apart P [] gs all = (tt, all)
each_apart P (e ∷ es) gs all =
    let both = each_apart P es gs all.1 in
    ((all.0, both.0), both.1)

order_apart : (floor : ℕ) (es gs : List Exchange) → AreInOrder floor (es ++ gs)
    → AreInOrder floor es × AreInOrder (floor_of floor es) gs
order_apart floor [] gs order = (tt, order)
order_apart floor (e ∷ es) gs order =
    let both = order_apart (floor_after floor e.point) es gs order.1 in
    ((order.0, both.0), both.1)

order_more : (floor : ℕ) (es : List Exchange) (e : Exchange) → AreInOrder floor es → IsAbove (floor_of floor es) e.point
    → AreInOrder floor (es ++ e ∷ [])
order_more floor [] e order above = (above, tt)
order_more floor (first ∷ others) e order above =
    (order.0, order_more (floor_after floor first.point) others e order.1 above)

floor_more : (floor : ℕ) (es : List Exchange) (e : Exchange)
    → floor_of floor (es ++ e ∷ []) ≡ floor_after (floor_of floor es) e.point
floor_more floor [] e = refl
floor_more floor (first ∷ others) e = floor_more (floor_after floor first.point) others e

frames_more : (es : List Exchange) (e : Exchange) → frames_of (es ++ e ∷ []) ≡ frames_of es ++ e.frame ∷ []
frames_more [] e = refl
frames_more (first ∷ others) e = ap (λ (fs : List Frame). first.frame ∷ fs) (frames_more others e)

no_exchange : (es : List Exchange) → frames_of es ≡ [] → es ≡ []
no_exchange [] none = refl
no_exchange (e ∷ es) none = absurd cc

-- ---- the exchange of one frame among others

record Parts (fs : List Frame) (f : Frame) (others : List Frame) (es : List Exchange) : Type 0 where
  before : List Exchange
  one : Exchange
  later : List Exchange
  same : es ≡ before ++ one ∷ later
  frames : frames_of before ≡ fs
  frame : one.frame ≡ f
  more : frames_of later ≡ others

part : (fs : List Frame) (f : Frame) (others : List Frame) (es : List Exchange) → frames_of es ≡ fs ++ f ∷ others
    → Parts fs f others es
part [] f others [] asked = absurd cc
part [] f others (e ∷ es) asked =
    record { before = []; one = e; later = es; same = refl; frames = refl; frame = cc; more = cc }
part (g ∷ fs) f others [] asked = absurd cc
part (g ∷ fs) f others (e ∷ es) asked =
    let first : e.frame ≡ g = cc in
    let behind : frames_of es ≡ fs ++ f ∷ others = cc in
    let parts = part fs f others es behind in
    record {
      before = e ∷ parts.before;
      one = parts.one;
      later = parts.later;
      same = λ i. e ∷ parts.same i;
      frames = λ i. first i ∷ parts.frames i;
      frame = parts.frame;
      more = parts.more;
    }

-- the frame behind a place is judged
abbrev pub case_behind : Ground → Place → Frame → Case
case_behind ground place f = record { ground = ground; floor = place.floor; frame = f; left = place.left }

-- the exchange of the frame behind a place, among exchanges of that and further frames
record Following (ground : Ground) (place : Place) (f : Frame) (others : List Frame) (es : List Exchange)
    (rest : List ℕ) : Type 0 where
  parts : Parts place.frames f others es
  floor : floor_of 0 parts.before ≡ place.floor
  answers : Answers (case_behind ground place f) parts.one (bytes_of parts.later ++ rest)

following : (ground : Ground) (t : Transcript) (place : Place) (f : Frame) (others : List Frame) (es : List Exchange)
    (rest : List ℕ) → Reaches ground t place → frames_of es ≡ place.frames ++ f ∷ others → Begin ground t es rest
    → Following ground place f others es rest
following ground t place f others es rest reaches asked begin =
    let parts = part place.frames f others es asked in
    let before = parts.before in
    let one = parts.one in
    let later = parts.later in
    let audited : AreAudited ground (before ++ one ∷ later) = subst (AreAudited ground) parts.same begin.audited in
    let each = each_apart (IsAudited ground) before (one ∷ later) audited.each in
    let order = order_apart 0 before (one ∷ later) audited.order in
    let rest_of_one = bytes_of later ++ rest in
    let splits : t.responses ≡ bytes_of before ++ (one.bytes ++ rest_of_one) =
    begin.splits ∙ ap (λ (x : List Exchange). bytes_of x ++ rest) parts.same
    ∙ ap (λ (x : List ℕ). x ++ rest) (flat_map-append (λ (x : Exchange). x.bytes) before (one ∷ later))
    ∙ append_assoc (bytes_of before) (one.bytes ++ bytes_of later) rest
    ∙ ap (λ (x : List ℕ). bytes_of before ++ x) (append_assoc one.bytes (bytes_of later) rest) in
    let first : Begin ground t before (one.bytes ++ rest_of_one) =
    record { audited = record { each = each.0; order = order.0 }; splits = splits } in
    let leads = reaches.only before (one.bytes ++ rest_of_one) parts.frames first in
    record {
      parts = parts;
      floor = leads.1;
      answers = record {
        frame = parts.frame;
        audited = each.1.0;
        above = subst (λ (n : ℕ). IsAbove n one.point) leads.1 order.1.0;
        bytes = sym leads.0;
      };
    }

-- ---- one more frame

-- Where a frame is accepted, the exchanges with its own lead to the place behind it.
pub reaches_more : (ground : Ground) (t : Transcript) (place : Place) (f : Frame) (after : ℕ) (left : List ℕ)
    → Reaches ground t place → Accepts (case_behind ground place f) after left
    → Reaches ground t (record { frames = place.frames ++ f ∷ []; floor = after; left = left })
reaches_more ground t place f after left reaches accepts =
    let es = reaches.exchanges in
    let e = accepts.exchange in
    let a = accepts.answers in
    let b = reaches.begin in
    record {
      exchanges = es ++ e ∷ [];
      asked = frames_more es e ∙ (λ i. reaches.asked i ++ a.frame i ∷ []);
      begin = record {
        audited = record {
          each = all_more (IsAudited ground) es e b.audited.each a.audited;
          order =
              order_more 0 es e b.audited.order (subst (λ (n : ℕ). IsAbove n e.point) (sym reaches.floor) a.above);
        };
        splits = b.splits ∙ ap (λ (x : List ℕ). bytes_of es ++ x) a.bytes
            ∙ sym (append_assoc (bytes_of es) e.bytes left)
            ∙ ap (λ (x : List ℕ). (bytes_of es ++ x) ++ left) (sym (append-nil e.bytes))
            ∙ ap (λ (x : List ℕ). x ++ left) (sym (flat_map-append (λ (x : Exchange). x.bytes) es (e ∷ [])));
      };
      floor = floor_more 0 es e ∙ ap (λ (n : ℕ). floor_after n e.point) reaches.floor ∙ accepts.floor;
      only = λ gs rest asked begin. leads gs rest asked begin;
    }
  where
    leads : (gs : List Exchange) (rest : List ℕ) → frames_of gs ≡ place.frames ++ f ∷ [] → Begin ground t gs rest
        → (rest ≡ left) × (floor_of 0 gs ≡ after)
    leads gs rest asked begin =
        let follows = following ground t place f [] gs rest reaches asked begin in
        let parts = follows.parts in
        let none = no_exchange parts.later parts.more in
        let one = parts.one in
        let answers : Answers (case_behind ground place f) one rest =
        subst (λ (x : List Exchange). Answers (case_behind ground place f) one (bytes_of x ++ rest)) none
        follows.answers in
        let lead = accepts.only one rest answers in (
          lead.0,
          ap (floor_of 0) (parts.same ∙ ap (λ (x : List Exchange). parts.before ++ one ∷ x) none)
              ∙ floor_more 0 parts.before one ∙ ap (λ (n : ℕ). floor_after n one.point) follows.floor ∙ lead.1,
        )

-- Where a connection begins, no frame was passed.
pub reaches_none : (ground : Ground) (t : Transcript)
    → Reaches ground t (record { frames = []; floor = 0; left = t.responses })
reaches_none ground t = record {
  exchanges = [];
  asked = refl;
  begin = record { audited = record { each = tt; order = tt }; splits = refl };
  floor = refl;
  only = λ es rest asked begin.
      let none = no_exchange es asked in
      (sym (begin.splits ∙ ap (λ (x : List Exchange). bytes_of x ++ rest) none), ap (floor_of 0) none);
}

-- ---- what the exchanges show

-- The exchanges are responses to the frames before the place.
pub responses_to : (ground : Ground) (t : Transcript) (place : Place) (reaches : Reaches ground t place)
    → AreResponses ground place.frames (bytes_of reaches.exchanges)
responses_to ground t place reaches = record {
  exchanges = reaches.exchanges;
  asked = reaches.asked;
  audited = reaches.begin.audited;
  output = refl;
}

pub splits_at : (ground : Ground) (t : Transcript) (place : Place) (reaches : Reaches ground t place)
    → t.responses ≡ bytes_of reaches.exchanges ++ place.left
splits_at ground t place reaches = reaches.begin.splits

-- So some first bytes are responses to them.
pub begins_to : (ground : Ground) (t : Transcript) (place : Place) → Reaches ground t place
    → BeginsAudited ground place.frames t.responses
begins_to ground t place reaches = record {
  first = bytes_of reaches.exchanges;
  rest = place.left;
  splits = splits_at ground t place reaches;
  audited = responses_to ground t place reaches;
}

begin_from : (ground : Ground) (t : Transcript) (fs : List Frame) (bytes rest : List ℕ)
    (r : AreResponses ground fs bytes)
    → t.responses ≡ bytes ++ rest → Begin ground t r.exchanges rest
begin_from ground t fs bytes rest r splits =
    record { audited = r.audited; splits = splits ∙ ap (λ (x : List ℕ). x ++ rest) (sym r.output) }

-- Behind responses to the same frames as many bytes remain.
pub same_left : (ground : Ground) (t : Transcript) (place : Place) (fs : List Frame) (bytes rest : List ℕ)
    → Reaches ground t place → fs ≡ place.frames → AreResponses ground fs bytes → t.responses ≡ bytes ++ rest
    → rest ≡ place.left
same_left ground t place fs bytes rest reaches same r splits =
    (reaches.only r.exchanges rest (r.asked ∙ same) (begin_from ground t fs bytes rest r splits)).0

-- Where a frame is refused, no first bytes are responses to the frames with it.
pub refused_there : (ground : Ground) (t : Transcript) (place : Place) (f : Frame) (others : List Frame)
    → Reaches ground t place → Refuses (case_behind ground place f)
    → BeginsAudited ground (place.frames ++ f ∷ others) t.responses → ⊥
refused_there ground t place f others reaches refuses b =
    let r = b.audited in
    let begin = begin_from ground t (place.frames ++ f ∷ others) b.first b.rest r b.splits in
    let follows = following ground t place f others r.exchanges b.rest reaches r.asked begin in
    refuses follows.parts.one (bytes_of follows.parts.later ++ b.rest) follows.answers
