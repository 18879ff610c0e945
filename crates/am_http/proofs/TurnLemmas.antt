-- One turn of a connection.
use Rattle.std.proofs.Common.{◌≡◌, ℕ, suc, ◌+◌, ◌≤◌, ◌<◌, ◌&&◌, Bool, true, false, IsTrue, List, [], ◌++◌, length, drop, Option, Some, None, refl, sym, ap, ◌∙◌, subst, inl, inr, arith, append-nil}
use Rattle.std.specs.Prelude.{IfSome, Result, Ok, Err, is_err, is_some, nat_le, nat_lt}
use Rattle.std.specs.Io.KnownBytes.{Appends, Keeps, prepend_known}
use Rattle.std.proofs.lemmas.Bool.{ltb-true}
use Rattle.std.proofs.lemmas.List.{drop-append-le}
use Rattle.am_outside.specs.declared.failure.Failed.{Failed}
use Rattle.am_outside.specs.Clock.{IsTold}
use Rattle.am_types.specs.declared.history.Shown.{Shown}
use Rattle.am_types.specs.declared.history.Entry.{Entry}
use Rattle.am_history.specs.State.{State, uid_of}
use Rattle.am_history.specs.Steps.{Call}
use Rattle.am_history.specs.Desks.{ShowsAt}
use Rattle.am_history.specs.History.{entries_of, has_room, may_change, replay, weight_of}
use Rattle.am_frames.specs.declared.frame.Defect.{Defect}
use Rattle.am_frames.specs.declared.frame.FrameSpans.{FrameSpans}
use Rattle.am_frames.specs.declared.frame.Found.{Found}
use Rattle.am_frames.specs.declared.frame.Found.TheVariants as Spans
use Rattle.am_http.specs.declared.answer.Answer.{Answer}
use Rattle.am_http.specs.declared.answer.Answer.TheVariants.{Refused, Reply, NoMemory as RanOut}
use Rattle.am_http.specs.Answering.{AnswersAt, AnswersFrame, HasNext, Says, point_of}
use Rattle.am_http.specs.Exchanges.{Answered, Exchange, Raises, ShowsIn, refused_at_once, replied, wanted, ran_out_late}
use Rattle.am_frames.specs.FrameSpans.{outcome_at, frame_at}
use Rattle.am_http.specs.Frames.{Drops}
use Rattle.am_frames.specs.Framing.{IsFraming}
use Rattle.am_frames.specs.Head.{Frame, empty, whole, refused, cut}
use Rattle.am_http.specs.Sending.{WritesPart, Sends}
use Rattle.am_http.specs.Links.{Midway, Server, rest_of}
use Rattle.am_http.specs.Sessions.{most_held, Serves, Replies, FailsAtAnswer, GivesAtMost, HasDefect}
use Rattle.am_http.specs.Windows.{Finds}
use Rattle.am_frames.proofs.FramingLemmas.{empty_only, whole_stays, whole_fits}

-- what holds of the told rest now held of it before
pub keeps_if : (a b : Option (List ℕ)) (P : List ℕ → Type 0) → Keeps a b → IfSome b P → IfSome a P
keeps_if None b P keeps h = tt
keeps_if (Some a) None P keeps h = absurd keeps
keeps_if (Some a) (Some b) P keeps h = subst P keeps h

map_if : (a : Option (List ℕ)) (P Q : List ℕ → Type 0) → ((xs : List ℕ) → P xs → Q xs) → IfSome a P → IfSome a Q
map_if None P Q f h = tt
map_if (Some a) P Q f h = f a h

-- what was found is the first step over the told rest
told_as : (w : List ℕ) (left : Option (List ℕ)) (found seen : Found) → Finds w left found → found ≡ seen
    → IfSome (prepend_known w left) (λ input. IsFraming input (outcome_at w seen))
told_as w left found seen finds is =
    subst (λ (f : Found). IfSome (prepend_known w left) (λ input. IsFraming input (outcome_at w f))) is finds.told

pub ends_input : (rest : Option (List ℕ)) (w : List ℕ) (left : Option (List ℕ)) (found : Found)
    → Keeps rest (prepend_known w left)
    → Finds w left found → found ≡ Spans.Empty → IfSome rest (λ bytes. bytes ≡ [])
ends_input rest w left found keeps finds is =
    keeps_if rest (prepend_known w left) (λ bytes. bytes ≡ []) keeps
    (map_if (prepend_known w left) (λ input. IsFraming input empty) (λ bytes. bytes ≡ []) empty_only
    (told_as w left found Spans.Empty finds is))

pub ends_cut : (rest : Option (List ℕ)) (w : List ℕ) (left : Option (List ℕ)) (found : Found)
    → Keeps rest (prepend_known w left)
    → Finds w left found → found ≡ Spans.Cut → IfSome rest (λ bytes. IsFraming bytes cut)
ends_cut rest w left found keeps finds is =
    keeps_if rest (prepend_known w left) (λ input. IsFraming input cut) keeps (told_as w left found Spans.Cut finds is)

pub ends_refused : (rest : Option (List ℕ)) (w : List ℕ) (left : Option (List ℕ)) (found : Found) (defect : Defect)
    → Keeps rest (prepend_known w left)
    → Finds w left found → found ≡ Spans.Refused defect → HasDefect rest defect
ends_refused rest w left found defect keeps finds is =
    keeps_if rest (prepend_known w left) (λ input. IsFraming input (refused defect)) keeps
    (told_as w left found (Spans.Refused defect) finds is)

-- the frame that was found
pub found_frame : (w : List ℕ) (left : Option (List ℕ)) (found : Found) (spans : FrameSpans) → Finds w left found
    → found ≡ Spans.Whole spans
    → IsFraming w (whole (frame_at w spans))
found_frame w left found spans finds is =
    subst (λ (f : Found). IsFraming w (outcome_at w f)) is finds.here

-- what the source gave of a rest that still stands in the window
pub gave_window : (rest : Option (List ℕ)) (w : List ℕ) (left : Option (List ℕ)) → Keeps rest (prepend_known w left)
    → length w ≤ most_held → GivesAtMost most_held rest left
gave_window None w left keeps fits = ([], tt, omega arith)
gave_window (Some input) w None keeps fits = absurd keeps
gave_window (Some input) w (Some left) keeps fits = (w, sym keeps, fits)

-- behind a frame of the window the rest goes on
drops_of : (rest : Option (List ℕ)) (w : List ℕ) (left : Option (List ℕ)) (f : Frame)
    → Keeps rest (prepend_known w left)
    → IsFraming w (whole f) → Drops rest f (prepend_known (drop f.length w) left)
drops_of None w left f keeps framed = tt
drops_of (Some input) w None f keeps framed = absurd keeps
drops_of (Some input) w (Some left) f keeps framed = (
  subst (λ (xs : List ℕ). IsFraming xs (whole f)) keeps (whole_stays w left f framed),
  sym (drop-append-le f.length w left (whole_fits w f framed).1) ∙ ap (drop f.length) keeps,
)

told_frame : (rest : Option (List ℕ)) (w : List ℕ) (left : Option (List ℕ)) (f : Frame)
    → Keeps rest (prepend_known w left)
    → IsFraming w (whole f) → IfSome rest (λ input. IsFraming input (whole f))
told_frame None w left f keeps framed = tt
told_frame (Some input) w None f keeps framed = absurd keeps
told_frame (Some input) w (Some left) f keeps framed =
    subst (λ (xs : List ℕ). IsFraming xs (whole f)) keeps (whole_stays w left f framed)

-- the answer to a call at the moment that the clock gave
pub answered_at : (old new : Server) (f : Frame) (now : ℕ) (answer : Answer) → AnswersAt old.desk new.desk f now answer
    → IsTold (old.clock 0) now → ((calls : ℕ) → new.clock calls ≡ old.clock (suc calls)) → AnswersFrame old new f answer
answered_at old new f now (Refused refusal) answers told next = absurd answers
answered_at old new f now (Reply shown) answers told next = (now, answers.0, answers.1, answers.2, (told, next))
answered_at old new f now RanOut answers told next = (answers, (Some now, (told, next)))

-- the last of three tests that all hold
last_of : (a b c : Bool) → (a && b && c) ≡ true → c ≡ true
last_of true true c all = all
last_of true false c all = absurd (let e = all in cc)
last_of false b c all = absurd (let e = all in cc)

first_of : (a b : Bool) → (a && b) ≡ true → a ≡ true
first_of true b all = refl
first_of false b all = absurd (let e = all in cc)

-- a call is stored only while the history has room for further entries
stored_below : (start : State) (before after : List Entry) (call : Call) (shown : Shown)
    → ShowsAt start before after call shown → shown.stored ≡ true → shown.at < 18446744073709551615
stored_below start before after call shown shows stored =
    let state = replay start before in
    let room : has_room before call.weight ≡ true =
    last_of (is_some (uid_of state call.key)) (may_change state call.now call.request) (has_room before call.weight)
    (sym shows.stored ∙ stored) in
    let below : length before < 1048576 =
    ltb-true (length before) 1048576
    (first_of (nat_lt (length before) 1048576) (nat_le (weight_of before + call.weight) 536870912) room) in
    let at = shows.at in
    omega (arith, below, at)

-- so a place follows that of a stored call
pub next_of : (old new : Server) (f : Frame) (answer : Answer) → AnswersFrame old new f answer
    → HasNext (point_of answer)
next_of old new f (Refused refusal) answers = tt
next_of old new f (Reply shown) answers = stored_below _ _ _ _ shown answers.3.2
next_of old new f RanOut answers = tt

-- a call that was shown is an exchange, whichever text says so
shown_exchange : (old new : Server) (f : Frame) (shown : Shown) (bytes : List ℕ) → AnswersFrame old new f (Reply shown)
    → ((e : Exchange) → ShowsIn old.desk new.desk e shown → e.bytes ≡ bytes → Answered old.desk new.desk e)
    → (e : Exchange) × Serves old new e × (e.frame ≡ f) × (e.bytes ≡ bytes) × (e.point ≡ point_of (Reply shown))
shown_exchange old new f shown bytes answers says = (
  record {
    frame = f;
    now = Some answers.0;
    point = Some (record { at = shown.at; stored = shown.stored });
    bytes =
        bytes;
  },
  record {
    answer = says
        (record {
          frame = f;
          now = Some answers.0;
          point = Some (record { at = shown.at; stored = shown.stored });
          bytes
              = bytes;
        })
        (record {
          request = answers.1;
          asks = answers.2;
          now = answers.0;
          asked = refl;
          placed = refl;
          shows = answers.3;
        }) refl;
    moment = answers.4;
  },
  refl,
  refl,
  refl,
)

-- an answer with its text is an exchange
exchange_of : (old new : Server) (f : Frame) (answer : Answer) (bytes : List ℕ) → AnswersFrame old new f answer
    → Says answer bytes
    → (e : Exchange) × Serves old new e × (e.frame ≡ f) × (e.bytes ≡ bytes) × (e.point ≡ point_of answer)
exchange_of old new f (Refused refusal) bytes answers (inl said) = (
  record { frame = f; now = None; point = None; bytes = bytes },
  record { answer = refused_at_once refusal answers.0 refl refl said answers.1; moment = answers.2 },
  refl,
  refl,
  refl,
)
exchange_of old new f (Refused refusal) bytes answers (inr said) = (
  record { frame = f; now = None; point = None; bytes = bytes },
  record {
    answer = wanted
        (record {
          grows = ([], answers.1 ∙ sym (append-nil old.desk.seen));
          others = ap (entries_of old.desk.number) answers.1;
          alone = λ one. answers.1;
        })
        refl said;
    moment = answers.2;
  },
  refl,
  refl,
  refl,
)
exchange_of old new f (Reply shown) bytes answers (inl said) =
    shown_exchange old new f shown bytes answers (λ e shows same. replied shown shows (same ∙ said))
exchange_of old new f (Reply shown) bytes answers (inr said) =
    shown_exchange old new f shown bytes answers (λ e shows same. ran_out_late shown shows (same ∙ said))
exchange_of old new f RanOut bytes answers said = (
  record { frame = f; now = answers.1.0; point = None; bytes = bytes },
  record { answer = wanted answers.0 refl said; moment = answers.1.1 },
  refl,
  refl,
  refl,
)

-- the rest of an input behind the frame that was found, and what the window then holds
behind_frame : (rest : Option (List ℕ)) (w used : List ℕ) (left : Option (List ℕ)) (f : Frame)
    → Keeps rest (prepend_known w left)
    → IsFraming w (whole f) → drop f.length w ≡ used → Drops rest f (prepend_known used left)
behind_frame rest w used left f keeps framed is =
    subst (λ (xs : List ℕ). Drops rest f (prepend_known xs left)) is (drops_of rest w left f keeps framed)

-- the frame was answered, and its response written
pub turn_replied : (waits close : Bool) (old new : Midway) (w : List ℕ) (f : Frame) (answer : Answer) (bytes : List ℕ)
    → Keeps (rest_of old) (prepend_known w new.link.source.left) → IsFraming w (whole f) → drop f.length w ≡ new.window
    → AnswersFrame old.link.server new.link.server f answer → Says answer bytes
    → Raises waits old.least new.least (point_of answer)
    → Appends old.link.sink.taken new.link.sink.taken bytes → f.close ≡ close → Replies waits close old new
turn_replied waits close old new w f answer bytes keeps framed used answers said raised sent closes =
    let made = exchange_of old.link.server new.link.server f answer bytes answers said in
    record {
      exchange = made.0;
      served = made.1;
      raises = subst (Raises waits old.least new.least) (sym made.4) raised;
      frame = subst (λ (x : Frame). Drops (rest_of old) x (rest_of new)) (sym made.2)
          (behind_frame (rest_of old) w new.window new.link.source.left f keeps framed used);
      closes = ap (λ (x : Frame). x.close) made.2 ∙ closes;
      output = subst (λ (bs : List ℕ). Appends old.link.sink.taken new.link.sink.taken bs) (sym made.3) sent;
    }

-- the response wasn't written whole
pub turn_failed : (waits : Bool) (old new : Midway) (f : Frame) (answer : Answer) (bytes : List ℕ)
    → Keeps (rest_of old) (rest_of new) → IsFraming new.window (whole f) → length new.window ≤ most_held
    → AnswersFrame old.link.server new.link.server f answer → Says answer bytes
    → Raises waits old.least new.least (point_of answer)
    → WritesPart old.link.sink.taken new.link.sink.taken bytes → FailsAtAnswer waits old new
turn_failed waits old new f answer bytes keeps framed fits answers said raised part =
    let made = exchange_of old.link.server new.link.server f answer bytes answers said in
    record {
      exchange = made.0;
      served = made.1;
      raises = subst (Raises waits old.least new.least) (sym made.4) raised;
      frame = subst (λ (x : Frame). IfSome (rest_of old) (λ input. IsFraming input (whole x))) (sym made.2)
          (told_frame (rest_of old) new.window new.link.source.left f keeps framed);
      kept = keeps;
      here = subst (λ (x : Frame). IsFraming new.window (whole x)) (sym made.2) framed;
      fits = fits;
      output = subst (λ (bs : List ℕ). WritesPart old.link.sink.taken new.link.sink.taken bs) (sym made.3) part;
    }

-- the frame that slices of the window hold
pub held_frame : (w bytes : List ℕ) (left : Option (List ℕ)) (found : Found) (spans : FrameSpans) (f : Frame)
    → Finds w left found → found ≡ Spans.Whole spans → bytes ≡ w → f ≡ frame_at bytes spans → IsFraming w (whole f)
held_frame w bytes left found spans f finds is same held =
    subst (λ (x : Frame). IsFraming w (whole x))
    (ap (λ (xs : List ℕ). frame_at xs spans) (sym same) ∙ sym held) (found_frame w left found spans finds is)

-- how a write went
pub sends_err : (old new : Option (List ℕ)) (text : List ℕ) (r : Result (Unit {0}) Failed) → true ≡ is_err r
    → Sends old new text r → WritesPart old new text
sends_err old new text (Ok done) failed sent = absurd cc
sends_err old new text (Err e) failed sent = sent

pub sends_ok : (old new : Option (List ℕ)) (text : List ℕ) (r : Result (Unit {0}) Failed) → false ≡ is_err r
    → Sends old new text r → Appends old new text
sends_ok old new text (Ok done) fine sent = sent
sends_ok old new text (Err e) fine sent = absurd cc

-- the frame that slices of the window hold was answered, its response written, and the window used up to behind it
pub turn_held : {waits close : Bool} {old new : Midway} {w bytes : List ℕ} {found : Found} {spans : FrameSpans} {f : Frame}
    (answer : Answer) (text : List ℕ) (r : Result (Unit {0}) Failed)
    → Keeps (rest_of old) (prepend_known w new.link.source.left) → Finds w new.link.source.left found → found
    ≡ Spans.Whole spans → bytes ≡ w → f ≡ frame_at bytes spans
    → new.window ≡ drop spans.length w → AnswersFrame old.link.server new.link.server f answer → Says answer text
    → Raises waits old.least new.least (point_of answer)
    → false ≡ is_err r → Sends old.link.sink.taken new.link.sink.taken text r → spans.close ≡ close
    → Replies waits close old new
turn_held {waits} {close} {old} {new} {w} {bytes} {found} {spans} {f} answer text r keeps finds is same held used
    answers said raised fine sent closes =
    turn_replied waits close old new w f answer text keeps (held_frame w bytes new.link.source.left found spans f finds is
    same held)
    (ap (λ n. drop n w) (ap (λ (x : Frame). x.length) held) ∙ sym used) answers said raised
    (sends_ok old.link.sink.taken new.link.sink.taken text r fine sent) (ap (λ (x : Frame). x.close) held ∙ closes)

-- an empty window leaves what the source tells
pub nothing_before : (w : List ℕ) (left : Option (List ℕ)) → w ≡ [] → left ≡ prepend_known w left
nothing_before w None empty_now = refl
nothing_before w (Some left) empty_now = ap Some (ap (λ xs. xs ++ left) (sym empty_now))
