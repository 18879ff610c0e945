-- The course of an ordered broadcast, step by step: what is due passes its receiver over, and a request answers it,
-- strikes
-- receivers, or does nothing to it.
use Rattle.std.proofs.Common.{◌≡◌, ℕ, ◌+◌, Bool, true, false, not, ◌&&◌, cond, eqb, List, [], ◌∷◌, ◌++◌, refl, sym, ap, ◌∙◌, subst, append_assoc}
use Rattle.std.specs.Prelude.{Option, Some, None, filter, ◌==◌, nat_le}
use Rattle.std.specs.List.{AllZip}
use Rattle.am_types.specs.declared.intent.Intent.{Intent}
use Rattle.am_types.specs.declared.broadcast.Spot.{Spot}
use Rattle.am_types.specs.declared.broadcast.Answer.{Answer}
use Rattle.am_types.specs.declared.broadcast.Outcome.{Outcome}
use Rattle.am_types.specs.declared.history.Entry.{Entry}
use Rattle.am_types.specs.declared.request.Request.{Request}
use Rattle.am_types.specs.declared.request.Request.TheVariants as asks
use Rattle.am_model.specs.Broadcasts.{Broadcasts, InTurn, Past, Delivery, Current, Doing, Answered, Late, Gone, turned, turn, is_late}
use Rattle.am_model.specs.Sending.{is_current, strike_rest, strike_from, strike, unwanted}
use Rattle.am_history.specs.State.{State}
use Rattle.am_history.specs.Steps.{after_due, moment_after, step}
use Rattle.am_history.specs.History.{replay}
use Rattle.am_laws.specs.Access.{Once}
use Rattle.am_laws_courses.specs.Course.{Course, course_of, passed_from, passed, delivery_to, delivery_of, passed_late, passed_answered, without_struck, passed_struck, requested, is_done, after_entry, course_after, is_finish_of, finishes, finishing}
use Rattle.am_laws_courses.specs.Fold.{with_answer, answers_of, IsAnswerBy, IsSentInOrder, lasting, IsInCourse}
use Rattle.am_laws.proofs.Histories.{once_before}
use Rattle.am_laws_courses.proofs.Order.{turning}
use Rattle.am_laws_courses.proofs.Found.{IsFound}

-- one more that is past
more_silent : (spot : Spot) (past : List Past) (doing : Doing) → with_answer spot doing [] ≡ []
    → answers_of (past ++ record { spot = spot; doing = doing } ∷ []) ≡ answers_of past
more_silent spot [] doing silent = silent
more_silent spot (p ∷ others) doing silent = ap (λ l. with_answer p.spot p.doing l)
    (more_silent spot others doing silent)

more_answered : (spot : Spot) (past : List Past) (answer : Answer)
    → answers_of (past ++ record { spot = spot; doing = Answered answer } ∷ []) ≡ answers_of past ++ (spot, answer) ∷ []
more_answered spot [] answer = refl
more_answered spot (p ∷ others) answer = ap (λ l. with_answer p.spot p.doing l) (more_answered spot others answer)
    ∙ by p.doing
  where
    by : (doing : Doing) → with_answer p.spot doing (answers_of others ++ (spot, answer) ∷ [])
        ≡ with_answer p.spot doing (answers_of others) ++ (spot, answer) ∷ []
    by (Answered other) = refl
    by Late = refl
    by Gone = refl

-- one more answer and its entry
zip_more : (given : List (Spot × Answer)) (entries : List Entry) (one : Spot × Answer) (at : Entry)
    → AllZip IsAnswerBy given entries → IsAnswerBy one at
    → AllZip IsAnswerBy (given ++ one ∷ []) (entries ++ at ∷ [])
zip_more [] [] one at all is = (is, tt)
zip_more [] (other ∷ entries) one at all is = absurd all
zip_more (first ∷ given) [] one at all is = absurd all
zip_more (first ∷ given) (other ∷ entries) one at all is = (all.0, zip_more given entries one at all.1 is)

-- a course after one more entry
course_more : (opening : State) (number : ℕ) (before later : List Entry) (entry : Entry) (course : Course)
    → course_after opening number before (later ++ entry ∷ []) course
    ≡ after_entry (replay opening (before ++ later)) (before ++ later) entry number
    (course_after opening number before later course)
course_more opening number before [] entry course =
    ap (λ (h : List Entry). after_entry (replay opening h) h entry number course) (sym (nothing before))
  where
    nothing : (h : List Entry) → h ++ [] ≡ h
    nothing [] = refl
    nothing (e ∷ h) = ap (λ (l : List Entry). e ∷ l) (nothing h)
course_more opening number before (first ∷ later) entry course =
    let after = after_entry (replay opening before) before first number course in
    course_more opening number (before ++ first ∷ []) later entry after
    ∙ ap (λ (h : List Entry). after_entry (replay opening h) h entry number
    (course_after opening number (before ++ first ∷ []) later after)) (append_assoc before (first ∷ []) later)

-- and the entries that finished its deliveries
pub finishing_more : (opening : State) (number : ℕ) (before later : List Entry) (entry : Entry)
    → finishing opening number before (later ++ entry ∷ [])
    ≡ finishing opening number before later ++ cond (finishes (replay opening (before ++ later)) (before ++ later) entry
    number) (entry ∷ []) []
finishing_more opening number before [] entry =
    nothing (cond (finishes (replay opening before) before entry number) (entry ∷ []) [])
    ∙ ap (λ (h : List Entry). cond (finishes (replay opening h) h entry number) (entry ∷ []) []) (sym (nothing before))
  where
    nothing : (h : List Entry) → h ++ [] ≡ h
    nothing [] = refl
    nothing (e ∷ h) = ap (λ (l : List Entry). e ∷ l) (nothing h)
finishing_more opening number before (first ∷ later) entry =
    ap (λ (l : List Entry). one ++ l) (finishing_more opening number (before ++ first ∷ []) later entry
    ∙ ap (λ (h : List Entry). finishing opening number (before ++ first ∷ []) later
    ++ cond (finishes (replay opening h) h entry number) (entry ∷ []) []) (append_assoc before (first ∷ []) later))
    ∙ sym (append_assoc one (finishing opening number (before ++ first ∷ []) later)
    (cond (finishes (replay opening (before ++ first ∷ later)) (before ++ first ∷ later) entry number) (entry ∷ [])
    []))
  where
    one : List Entry
    one = cond (finishes (replay opening before) before first number) (first ∷ []) []

-- a turn is a doing of the course
turned_course : (doing : Doing) (b : InTurn) (rest : List Spot) → b.rest ≡ rest → course_of (turned doing b rest)
    ≡ passed doing (course_of b)
turned_course doing b rest is = by rest ∙ ap (passed_from doing (course_of b)) (sym is)
  where
    by : (rest : List Spot) → course_of (turned doing b rest) ≡ passed_from doing (course_of b) rest
    by [] = refl
    by (spot ∷ rest) = refl

-- a turn keeps what stays, and whether a result is wanted
turned_stays : (doing : Doing) (b : InTurn) (rest : List Spot) → (lasting (turned doing b rest) ≡ lasting b)
    × ((turned doing b rest).wanted ≡ b.wanted)
turned_stays doing b [] = (refl, refl)
turned_stays doing b (spot ∷ rest) = (refl, refl)

module _ (opening : State) (h : List Entry) where
  -- a broadcast whose course since the last entry goes on so
  pub record Runs (more : ℕ → Course → Course) (b : InTurn) : Type 0 where
    pub begun : InTurn
    pub sent : Once opening h (IsSentInOrder begun)
    pub stays : lasting b ≡ lasting begun
    pub wanted : b.wanted ≡ true → begun.wanted ≡ true
    pub course : course_of b ≡ more begun.number (course_after opening begun.number (sent.before ++ sent.at ∷ [])
        sent.after (course_of begun))
    pub answers : AllZip IsAnswerBy (answers_of b.past) (finishing opening begun.number [] h)

  -- it may be given a delivery, and its sender may want no result any more
  runs_with : (more : ℕ → Course → Course) (b : InTurn) (current : Option Current) (wanted : Bool)
      → (wanted ≡ true → b.wanted ≡ true) → Runs more b
      → Runs more (record b { current = current; wanted = wanted })
  runs_with more b current wanted wants one = record {
    begun = one.begun;
    sent = one.sent;
    stays = one.stays;
    wanted = λ still. one.wanted (wants still);
    course = one.course;
    answers = one.answers;
  }

  pub runs_given : (more : ℕ → Course → Course) (b : InTurn) (current : Option Current) → Runs more b
      → Runs more (record b { current = current })
  runs_given more b current = runs_with more b current b.wanted (λ still. still)

  pub runs_unwanted : (more : ℕ → Course → Course) (uid : ℕ) (b : InTurn) → Runs more b → Runs more (unwanted uid b)
  runs_unwanted more uid b one = by (b.sender == uid)
    where
      by : (same : Bool) → Runs more (cond same (record b { wanted = false }) b)
      by true = runs_with more b b.current false (λ still. absurd cc) one
      by false = one

  pub course_given : (b : InTurn) (current : Option Current) → IsInCourse opening h b
      → IsInCourse opening h (record b { current = current })
  course_given b current one = record {
    begun = one.begun;
    sent = one.sent;
    stays = one.stays;
    wanted = one.wanted;
    course = one.course;
    answers = one.answers;
  }

-- the number by which its delivery is found
same_delivery : (all : Broadcasts) (b begun : InTurn) → lasting b ≡ lasting begun → delivery_of all begun.number
    ≡ delivery_of all b.number
same_delivery all b begun stays = ap (λ (t : ℕ × ℕ × Intent × Bool × Outcome). delivery_of all t.0) (sym stays)

-- a turn where a test passes
turning_stays : (test : Option Current → Bool) (doing : Doing) (b : InTurn)
    → (lasting (turning test doing b) ≡ lasting b) × ((turning test doing b).wanted ≡ b.wanted)
turning_stays test doing b = by (test b.current)
  where
    by : (passes : Bool) → (lasting (cond passes (turn doing b) b) ≡ lasting b)
        × ((cond passes (turn doing b) b).wanted ≡ b.wanted)
    by true = turned_stays doing b b.rest
    by false = (refl, refl)

-- without a receiver that is left a turn leaves the course
none_turned : (b : InTurn) (passes : Bool) → course_of (cond passes (record b { current = None }) b) ≡ course_of b
none_turned b true = refl
none_turned b false = refl

-- with one, that one is passed over where the test passes
one_turned : (doing : Doing) (b : InTurn) (spot : Spot) (rest : List Spot) → b.rest ≡ spot ∷ rest → (passes : Bool)
    → course_of (cond passes (turned doing b (spot ∷ rest)) b) ≡ cond passes (passed doing (course_of b)) (course_of b)
one_turned doing b spot rest is true = turned_course doing b (spot ∷ rest) is
one_turned doing b spot rest is false = refl

late_course : (now : ℕ) (b : InTurn) → course_of (turning (is_late now) Late b)
    ≡ passed_late now (delivery_to b.current b.rest) (course_of b)
late_course now b = by b.current b.rest refl
  where
    by : (current : Option Current) (rest : List Spot) → b.rest ≡ rest
        → course_of (cond (is_late now current) (turned Late b rest) b)
        ≡ passed_late now (delivery_to current rest) (course_of b)
    by None rest is = refl
    by (Some current) [] is = none_turned b (nat_le current.deadline now)
    by (Some current) (spot ∷ rest) is = one_turned Late b spot rest is (nat_le current.deadline now)

answered_course : (number : ℕ) (answer : Answer) (b : InTurn)
    → course_of (turning (is_current number) (Answered answer) b) ≡ passed_answered number answer
    (delivery_to b.current b.rest) (course_of b)
answered_course number answer b = by b.current b.rest refl
  where
    by : (current : Option Current) (rest : List Spot) → b.rest ≡ rest
        → course_of (cond (is_current number current) (turned (Answered answer) b rest) b)
        ≡ passed_answered number answer (delivery_to current rest) (course_of b)
    by None rest is = refl
    by (Some current) [] is = none_turned b (eqb current.number number)
    by (Some current) (spot ∷ rest) is = one_turned (Answered answer) b spot rest is (eqb current.number number)

-- receivers that are struck
struck_course : (struck : Spot → Bool) (b : InTurn) → course_of (strike struck b)
    ≡ passed_struck struck (delivery_to b.current b.rest) (course_of b)
struck_course struck b = by b.current b.rest refl
  where
    by : (current : Option Current) (rest : List Spot) → b.rest ≡ rest → course_of (strike_from struck b rest current)
        ≡ passed_struck struck (delivery_to current rest) (course_of b)
    by None rest is = refl
    by (Some current) [] is = ap (λ (l : List Spot). record { past = b.past; rest = l })
        (is ∙ ap (λ (l : List Spot). filter (λ (s : Spot). not (struck s)) l) (sym is))
    by (Some current) (spot ∷ rest) is = test (struck spot)
      where
        test : (gone : Bool) → course_of (cond gone (strike_rest struck (turn Gone b)) (strike_rest struck b))
            ≡ without_struck struck (cond gone (passed Gone (course_of b)) (course_of b))
        test true = ap (without_struck struck) (turned_course Gone b b.rest refl)
        test false = refl

struck_stays : (struck : Spot → Bool) (b : InTurn)
    → (lasting (strike struck b) ≡ lasting b) × ((strike struck b).wanted ≡ b.wanted)
    × (answers_of (strike struck b).past ≡ answers_of b.past)
struck_stays struck b = by b.rest b.current
  where
    gone : (rest : List Spot) → (lasting (strike_rest struck (turned Gone b rest)) ≡ lasting b)
        × ((strike_rest struck (turned Gone b rest)).wanted ≡ b.wanted)
        × (answers_of (strike_rest struck (turned Gone b rest)).past ≡ answers_of b.past)
    gone [] = (refl, refl, refl)
    gone (spot ∷ rest) = (refl, refl, more_silent spot b.past Gone refl)

    by : (rest : List Spot) (current : Option Current)
        → (lasting (strike_from struck b rest current) ≡ lasting b)
        × ((strike_from struck b rest current).wanted ≡ b.wanted)
        × (answers_of (strike_from struck b rest current).past ≡ answers_of b.past)
    by rest None = (refl, refl, refl)
    by [] (Some current) = (refl, refl, refl)
    by (spot ∷ rest) (Some current) = test (struck spot)
      where
        test : (struck_first : Bool) → (lasting (cond struck_first (strike_rest struck (turn Gone b))
            (strike_rest struck b)) ≡ lasting b)
            × ((cond struck_first (strike_rest struck (turn Gone b)) (strike_rest struck b)).wanted ≡ b.wanted)
            × (answers_of (cond struck_first (strike_rest struck (turn Gone b)) (strike_rest struck b)).past
            ≡ answers_of b.past)
        test true = gone b.rest
        test false = (refl, refl, refl)

-- what was late answered nothing
late_answers : (now : ℕ) (b : InTurn) → answers_of (turning (is_late now) Late b).past ≡ answers_of b.past
late_answers now b = by (is_late now b.current)
  where
    late : (rest : List Spot) → answers_of (turned Late b rest).past ≡ answers_of b.past
    late [] = refl
    late (spot ∷ rest) = more_silent spot b.past Late refl

    by : (due : Bool) → answers_of (cond due (turn Late b) b).past ≡ answers_of b.past
    by true = late b.rest
    by false = refl

module _ (opening : State) (h : List Entry) (entry : Entry) where
  -- the state before the entry, and after what was due
  abbrev pub earlier : State
  earlier = replay opening h

  abbrev pub due : State
  due = after_due earlier entry.now

  -- what was due did to courses
  abbrev pub by_then : ℕ → Course → Course
  by_then number course = passed_late (moment_after earlier entry.now) (delivery_of earlier.broadcasts number) course

  pub late_runs : (b : InTurn) → IsFound earlier.broadcasts b → IsInCourse opening h b
      → Runs opening h by_then (turning (is_late (moment_after earlier entry.now)) Late b)
  late_runs b found one = record {
    begun = one.begun;
    sent = one.sent;
    stays = (turning_stays (is_late now) Late b).0 ∙ one.stays;
    wanted = λ wants. one.wanted (sym (turning_stays (is_late now) Late b).1 ∙ wants);
    course = late_course now b ∙ ap (λ (d : Option Delivery). passed_late now d (course_of b))
        (sym (same_delivery earlier.broadcasts b one.begun one.stays ∙ found))
        ∙ ap (λ (c : Course). by_then one.begun.number c) one.course;
    answers = subst (λ (l : List (Spot × Answer)). AllZip IsAnswerBy l (finishing opening one.begun.number [] h))
        (sym (late_answers now b)) one.answers;
  }
    where
      now : ℕ
      now = moment_after earlier entry.now

  -- one that ended wasn't late
  pub late_left : (b : InTurn) → delivery_of earlier.broadcasts b.number ≡ None → IsInCourse opening h b
      → Runs opening h by_then b
  late_left b lost one = record {
    begun = one.begun;
    sent = one.sent;
    stays = one.stays;
    wanted = one.wanted;
    course = one.course ∙ sym (ap (λ (d : Option Delivery). passed_late (moment_after earlier entry.now) d then)
        (same_delivery earlier.broadcasts b one.begun one.stays ∙ lost));
    answers = one.answers;
  }
    where
      then : Course
      then = course_after opening one.begun.number (one.sent.before ++ one.sent.at ∷ []) one.sent.after
          (course_of one.begun)

  -- so it is in its course after the entry, if this did to it what its request does
  entered : (done : Bool) (b left : InTurn) (delivery : Option Delivery) → is_done (step earlier h entry).0 ≡ done
      → Runs opening h by_then b
      → lasting left ≡ lasting b → (left.wanted ≡ true → b.wanted ≡ true) → delivery_of due.broadcasts b.number
      ≡ delivery
      → course_of left ≡ cond done (requested due entry.request delivery (course_of b)) (course_of b)
      → ((entries : List Entry) → AllZip IsAnswerBy (answers_of b.past) entries
      → AllZip IsAnswerBy (answers_of left.past) (entries ++ cond (done && is_finish_of entry.request delivery)
      (entry ∷ []) []))
      → IsInCourse opening (h ++ entry ∷ []) left
  entered done b left delivery is one stays wants found course answers = record {
    begun = one.begun;
    sent = once_before opening h (IsSentInOrder one.begun) entry one.sent;
    stays = stays ∙ one.stays;
    wanted = λ w. one.wanted (wants w);
    course = course
        ∙ ap (λ (d : Option Delivery). cond done (requested due entry.request d (course_of b)) (course_of b)) (sym same)
        ∙ ap (λ (c : Course). cond done (requested due entry.request (delivery_of due.broadcasts number) c) c)
        one.course
        ∙ ap (λ (t : Bool). cond t (requested due entry.request (delivery_of due.broadcasts number) then) then) (sym is)
        ∙ ap (λ (l : List Entry). after_entry (replay opening l) l entry number
        (course_after opening number front one.sent.after (course_of one.begun))) (sym whole)
        ∙ sym (course_more opening number front one.sent.after entry (course_of one.begun));
    answers = subst (λ (l : List Entry). AllZip IsAnswerBy (answers_of left.past) l)
        (ap (λ (d : Option Delivery). old ++ cond (done && is_finish_of entry.request d) (entry ∷ []) []) (sym same)
        ∙ ap (λ (t : Bool). old ++ cond (t && is_finish_of entry.request (delivery_of due.broadcasts number))
        (entry ∷ []) []) (sym is)
        ∙ sym (finishing_more opening number [] h entry))
        (answers old one.answers);
  }
    where
      number : ℕ
      number = one.begun.number

      front : List Entry
      front = one.sent.before ++ one.sent.at ∷ []

      whole : front ++ one.sent.after ≡ h
      whole = append_assoc one.sent.before (one.sent.at ∷ []) one.sent.after ∙ sym one.sent.splits

      then : Course
      then = by_then number (course_after opening number front one.sent.after (course_of one.begun))

      old : List Entry
      old = finishing opening number [] h

      same : delivery_of due.broadcasts number ≡ delivery
      same = same_delivery due.broadcasts b one.begun one.stays ∙ found

  nothing : (l : List Entry) → l ++ [] ≡ l
  nothing [] = refl
  nothing (e ∷ l) = ap (λ (r : List Entry). e ∷ r) (nothing l)

  -- no more entries answered
  no_more : (given : List (Spot × Answer)) (test : Bool) → test ≡ false → (entries : List Entry)
      → AllZip IsAnswerBy given entries
      → AllZip IsAnswerBy given (entries ++ cond test (entry ∷ []) [])
  no_more given test fails entries all =
      subst (λ (l : List Entry). AllZip IsAnswerBy given l) (sym (ap (λ (t : Bool). entries ++ cond t (entry ∷ []) [])
      fails ∙ nothing entries)) all

  -- the request did nothing to it
  pub untouched : (done : Bool) (b : InTurn) (delivery : Option Delivery) → is_done (step earlier h entry).0 ≡ done
      → delivery_of due.broadcasts b.number ≡ delivery
      → cond done (requested due entry.request delivery (course_of b)) (course_of b) ≡ course_of b
      → done && is_finish_of entry.request delivery ≡ false
      → Runs opening h by_then b → IsInCourse opening (h ++ entry ∷ []) b
  untouched done b delivery is found course finish one =
      entered done b b delivery is one refl (λ w. w) found (sym course)
      (no_more (answers_of b.past) (done && is_finish_of entry.request delivery) finish)

  -- the request answered it, if that was its delivery
  pub answered : (number : ℕ) (answer : Answer) (b : InTurn) → is_done (step earlier h entry).0 ≡ true → entry.kept
      ≡ true → entry.request ≡ asks.Finish number answer
      → ((spot : Spot) (rest : List Spot) → b.rest ≡ spot ∷ rest → is_current number b.current ≡ true → entry.uid
      ≡ spot.uid)
      → IsFound due.broadcasts b → Runs opening h by_then b → IsInCourse opening (h ++ entry ∷ [])
      (turning (is_current number) (Answered answer) b)
  answered number answer b is kept asked own found one =
      entered true b (turning (is_current number) (Answered answer) b) (delivery_to b.current b.rest) is one
      (turning_stays (is_current number) (Answered answer) b).0
      (λ w. sym (turning_stays (is_current number) (Answered answer) b).1 ∙ w) found
      (answered_course number answer b ∙ ap (λ (r : Request). requested due r (delivery_to b.current b.rest)
      (course_of b)) (sym asked))
      (λ entries all. subst (λ (r : Request). AllZip IsAnswerBy (answers_of
      (turning (is_current number) (Answered answer) b).past) (entries
      ++ cond (is_finish_of r (delivery_to b.current b.rest)) (entry ∷ []) []))
      (sym asked) (by entries all b.current b.rest refl refl))
    where
      by : (entries : List Entry) → AllZip IsAnswerBy (answers_of b.past) entries
          → (current : Option Current) (rest : List Spot) → b.current ≡ current → b.rest ≡ rest
          → AllZip IsAnswerBy (answers_of (cond (is_current number current) (turned (Answered answer) b rest) b).past)
          (entries ++ cond (is_finish_of (asks.Finish number answer) (delivery_to current rest)) (entry ∷ []) [])
      by entries all None rest has left = no_more (answers_of b.past) false refl entries all
      by entries all (Some current) [] has left = test (eqb current.number number)
        where
          test : (mine : Bool) → AllZip IsAnswerBy (answers_of (cond mine (record b { current = None }) b).past)
              (entries ++ [])
          test true = no_more (answers_of b.past) false refl entries all
          test false = no_more (answers_of b.past) false refl entries all
      by entries all (Some current) (spot ∷ rest) has left = test (eqb current.number number) refl
        where
          test : (mine : Bool) → eqb current.number number ≡ mine
              → AllZip IsAnswerBy (answers_of (cond mine (turned (Answered answer) b (spot ∷ rest)) b).past)
              (entries ++ cond mine (entry ∷ []) [])
          test true mine =
              subst (λ (l : List (Spot × Answer)). AllZip IsAnswerBy l (entries ++ entry ∷ []))
              (sym (more_answered spot b.past answer))
              (zip_more (answers_of b.past) entries (spot, answer) entry all (record {
                kept = kept;
                uid = own spot rest left (ap (is_current number) has ∙ mine);
                delivery = number;
                request = asked;
              }))
          test false mine = no_more (answers_of b.past) false refl entries all

  -- the request moved the moment, and the receiver that had its delivery may have been late by then
  pub late_by : (more : ℕ) (b : InTurn) → is_done (step earlier h entry).0 ≡ true → entry.request ≡ asks.Advance more
      → IsFound due.broadcasts b → Runs opening h by_then b → IsInCourse opening (h ++ entry ∷ [])
      (turning (is_late (due.moment + more)) Late b)
  late_by more b is asked found one =
      entered true b (turning (is_late moment) Late b) (delivery_to b.current b.rest) is one
      (turning_stays (is_late moment) Late b).0
      (λ w. sym (turning_stays (is_late moment) Late b).1 ∙ w) found
      (late_course moment b ∙ ap (λ (r : Request). requested due r (delivery_to b.current b.rest) (course_of b))
      (sym asked))
      (λ entries all. subst (λ (l : List (Spot × Answer)). AllZip IsAnswerBy l
      (entries ++ cond (is_finish_of entry.request (delivery_to b.current b.rest)) (entry ∷ []) []))
      (sym (late_answers moment b))
      (no_more (answers_of b.past) (is_finish_of entry.request (delivery_to b.current b.rest))
      (finish (delivery_to b.current b.rest)) entries all))
    where
      moment : ℕ
      moment = due.moment + more

      none : (delivery : Option Delivery) → is_finish_of (asks.Advance more) delivery ≡ false
      none None = refl
      none (Some delivery) = refl

      finish : (delivery : Option Delivery) → is_finish_of entry.request delivery ≡ false
      finish delivery = ap (λ (r : Request). is_finish_of r delivery) asked ∙ none delivery

  -- the request struck some of its receivers
  pub struck_runs : (struck : Spot → Bool) (b : InTurn) → is_done (step earlier h entry).0 ≡ true
      → ((delivery : Option Delivery) (course : Course) → requested due entry.request delivery course
      ≡ passed_struck struck delivery course)
      → ((delivery : Option Delivery) → is_finish_of entry.request delivery ≡ false)
      → IsFound due.broadcasts b → Runs opening h by_then b → IsInCourse opening (h ++ entry ∷ []) (strike struck b)
  struck_runs struck b is strikes finish found one =
      let stays = struck_stays struck b in
      entered true b (strike struck b) (delivery_to b.current b.rest) is one stays.0 (λ w. sym stays.1 ∙ w) found
      (struck_course struck b ∙ sym (strikes (delivery_to b.current b.rest) (course_of b)))
      (λ entries all. subst (λ (l : List (Spot × Answer)). AllZip IsAnswerBy l
      (entries ++ cond (is_finish_of entry.request (delivery_to b.current b.rest)) (entry ∷ []) [])) (sym stays.2)
      (no_more (answers_of b.past) (is_finish_of entry.request (delivery_to b.current b.rest))
      (finish (delivery_to b.current b.rest)) entries all))

  -- or of those that were left when it ended
  pub struck_left : (struck : Spot → Bool) (b : InTurn) → is_done (step earlier h entry).0 ≡ true
      → ((delivery : Option Delivery) (course : Course) → requested due entry.request delivery course
      ≡ passed_struck struck delivery course)
      → ((delivery : Option Delivery) → is_finish_of entry.request delivery ≡ false)
      → delivery_of due.broadcasts b.number ≡ None → Runs opening h by_then b
      → IsInCourse opening (h ++ entry ∷ []) (strike_rest struck b)
  struck_left struck b is strikes finish lost one =
      entered true b (strike_rest struck b) None is one refl (λ w. w) lost (sym (strikes None (course_of b)))
      (no_more (answers_of b.past) (is_finish_of entry.request None) (finish None))
