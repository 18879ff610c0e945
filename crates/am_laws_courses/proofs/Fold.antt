-- Each ordered broadcast is in its course after every history, and each result is what the answers made of it.
use Rattle.std.proofs.Common.{◌≡◌, ℕ, ◌+◌, ◌≤◌, Bool, true, false, not, ◌&&◌, cond, List, [], ◌∷◌, ◌++◌, refl, sym, ap, ◌∙◌, subst, arith}
use Rattle.std.specs.Prelude.{Option, Some, None, ◌==◌}
use Rattle.std.specs.List.{AllZip}
use Rattle.std.proofs.lemmas.List.Elements.{All-nil, All-weaker}
use Rattle.am_types.specs.declared.intent.Intent.{Intent}
use Rattle.am_types.specs.declared.device.Package.{Package}
use Rattle.am_types.specs.declared.broadcast.Spot.{Spot}
use Rattle.am_types.specs.declared.broadcast.Ordered.{Ordered}
use Rattle.am_types.specs.declared.history.Entry.{Entry}
use Rattle.am_types.specs.declared.request.Request.{Request}
use Rattle.am_types.specs.declared.request.Request.TheVariants as asks
use Rattle.am_types.specs.declared.reply.Reply.{Reply}
use Rattle.am_types.specs.declared.reply.Reply.TheVariants as replies
use Rattle.am_types.specs.declared.rule.Rule.TheVariants as rules
use Rattle.am_model.specs.Boards.{package_named}
use Rattle.am_model.specs.Gates.{is_privileged}
use Rattle.am_model.specs.Receivers.{is_protected, receivers}
use Rattle.am_model.specs.Broadcasts.{Broadcasts, InTurn, Delivery, Result, expired}
use Rattle.am_model.specs.Sending as sending
use Rattle.am_model.specs.Sending.{in_turn, with_sent, finished, is_current, is_registered, strike, unwanted, Held, held}
use Rattle.am_history.specs.State.{State}
use Rattle.am_history.specs.BroadcastCalls.{sending_of}
use Rattle.am_history.specs.Steps.{act, moment_after, step}
use Rattle.am_history.specs.History.{replay}
use Rattle.am_history.specs.Desks.{Origin, opening_of}
use Rattle.am_laws.specs.Access.{Sends, deed_of}
use Rattle.am_laws.proofs.Histories.{by_history, once_now}
use Rattle.am_laws.proofs.Openings.{opening_leaves}
use Rattle.am_laws_courses.specs.Course.{Course, course_of, delivery_of, passed_struck, requested, is_done, is_of_package, is_finish, is_finish_of, finishes, finishing}
use Rattle.am_laws_courses.specs.Fold.{IsAnswerBy, IsSentInOrder, IsInCourse, IsOutcome, OfCourses}
use Rattle.am_laws_courses.proofs.Holders.{HasHolders, TurnFor, CurrentFor, none_held}
use Rattle.am_laws_courses.proofs.HolderSteps.{expired_held, finished_held, forget_held, forget_uid_held, sent_held}
use Rattle.am_laws_courses.proofs.Held.{held_is, current_is}
use Rattle.am_laws_courses.proofs.Order.{AreInOrder, none_in_order, expired_order, finished_order, forget_order, forget_uid_order, sent_order}
use Rattle.am_laws.proofs.NextBroadcasts.{expired_keeps, sent_gives_one}
use Rattle.am_laws_courses.proofs.Numbers.{none_delivered}
use Rattle.am_laws_courses.proofs.Found.{IsFound, IsLost, foreground_found, background_found, results_lost}
use Rattle.am_laws_courses.proofs.Courses.{courses_follow, expired_courses, finished_courses, forget_courses, forget_uid_courses, sent_courses}
use Rattle.am_laws_courses.proofs.CourseSteps.{finishing_more, Runs, runs_given, runs_unwanted, course_given, earlier, due, by_then, late_runs, late_by, late_left, untouched, answered, struck_runs, struck_left}
use Rattle.am_laws_courses.proofs.Outcomes.{OutcomeBy, settling, outcome_follows, outcome_struck}
use Rattle.am_laws_courses.proofs.Acts.{is_apart, Acts, acts_do}

-- ordered broadcasts are in their courses, each number is for one uid, the queues are in order, and no delivery of a
-- broadcast that wasn't sent was finished
record RunsOn (opening : State) (h : List Entry) (all : Broadcasts) : Type 0 where
  pub courses : OfCourses (IsInCourse opening h) (OutcomeBy (IsInCourse opening h)) all
  pub holders : HasHolders all
  pub order : AreInOrder all
  pub unsent : (number : ℕ) → all.next_broadcast ≤ number → finishing opening number [] h ≡ []

-- a request that is apart does nothing to a course
apart_course : (state : State) (request : Request) (delivery : Option Delivery) (course : Course) → is_apart request
    ≡ true → requested state request delivery course ≡ course
apart_course state (asks.Finish number answer) delivery course is = absurd cc
apart_course state (asks.Unregister number) delivery course is = absurd cc
apart_course state (asks.Uninstall name) delivery course is = absurd cc
apart_course state (asks.ForceStop name) delivery course is = absurd cc
apart_course state (asks.Advance more) delivery course is = absurd cc
apart_course state _ delivery course is = refl

-- a request that finishes no delivery
no_finish : (request : Request) → ((number : ℕ) → is_finish request number ≡ false) → (delivery : Option Delivery)
    → is_finish_of request delivery ≡ false
no_finish request none None = refl
no_finish request none (Some delivery) = none delivery.number

apart_finish : (request : Request) (number : ℕ) → is_apart request ≡ true → is_finish request number ≡ false
apart_finish (asks.Finish number answer) other is = absurd cc
apart_finish _ other is = refl

module _ (opening : State) (before : List Entry) (entry : Entry) where
  abbrev longer : List Entry
  longer = before ++ entry ∷ []

  -- the state before the entry, and when it is made
  abbrev was : State
  was = earlier opening before entry

  abbrev now : State
  now = due opening before entry

  -- what holds of a broadcast before the entry, after what was due, and after the entry
  abbrev C : InTurn → Type 0
  C b = IsInCourse opening before b

  abbrev M : InTurn → Type 0
  M b = Runs opening before (by_then opening before entry) b

  abbrev D : InTurn → Type 0
  D b = IsInCourse opening longer b

  -- the entry's request was done or not
  abbrev Done : Bool → Type 0
  Done done = is_done (step was before entry).0 ≡ done

  -- after what was due
  passed : RunsOn opening before was.broadcasts → OfCourses M (OutcomeBy M) now.broadcasts
  passed here = expired_courses (λ (b : InTurn). C b × IsFound was.broadcasts b) M (OutcomeBy M)
      (settling M (runs_given opening before (by_then opening before entry)))
      was.broadcasts (moment_after was entry.now) here.order (λ b one. late_runs opening before entry b one.1 one.0)
      (record {
        foreground = λ k d below. (
          here.courses.foreground k d below,
          foreground_found was.broadcasts here.order k d
              below,
        );
        background = λ k d below. (
          here.courses.background k d below,
          background_found was.broadcasts here.order k d
              below,
        );
        results = λ k d below. left _ (results_lost was.broadcasts here.order k d below)
            (here.courses.results k d below);
      })
    where
      left : (r : Result) → IsLost was.broadcasts r → OutcomeBy C r → OutcomeBy M r
      left r lost one = outcome_follows C M r (λ b same course. late_left opening before entry b
          (ap (delivery_of was.broadcasts) same ∙ lost) course) one

  -- no entry finished a delivery of a broadcast that isn't sent
  none_finished : (done : Bool) → Done done → (number : ℕ) → finishing opening number [] before ≡ []
      → done && is_finish_of entry.request (delivery_of now.broadcasts number) ≡ false
      → finishing opening number [] longer ≡ []
  none_finished done is number none finish =
      finishing_more opening number [] before entry
      ∙ ap (λ (l : List Entry). l ++ cond (finishes was before entry number) (entry ∷ []) []) none
      ∙ ap (λ (d : Bool). cond (d && is_finish_of entry.request (delivery_of now.broadcasts number)) (entry ∷ []) []) is
      ∙ ap (λ (t : Bool). cond t (entry ∷ []) []) finish

  module _ (runs : OfCourses M (OutcomeBy M) now.broadcasts) (has : HasHolders now.broadcasts)
      (order : AreInOrder now.broadcasts)
      (unsent : (number : ℕ) → now.broadcasts.next_broadcast ≤ number → finishing opening number [] before ≡ []) where
    -- and still isn't
    still_unsent : (done : Bool) → Done done → (number : ℕ) → now.broadcasts.next_broadcast ≤ number
        → finishing opening number [] longer ≡ []
    still_unsent done is number free =
        none_finished done is number (unsent number free) (ap (λ (d : Option Delivery). done && is_finish_of
        entry.request d) (none_delivered now.broadcasts number order free) ∙ by done)
      where
        by : (b : Bool) → b && false ≡ false
        by true = refl
        by false = refl

    still_more : (done : Bool) → Done done → (next : ℕ) → next ≡ now.broadcasts.next_broadcast + 1 → (number : ℕ)
        → next ≤ number → finishing opening number [] longer ≡ []
    still_more done is next more number free = still_unsent done is number (omega arith)

    -- each broadcast, its delivery found by its number, for whom that is
    abbrev F : InTurn → Type 0
    F b = M b × IsFound now.broadcasts b × TurnFor has.holder now.broadcasts.next_delivery b

    abbrev L : Result → Type 0
    L r = OutcomeBy M r × IsLost now.broadcasts r

    known : OfCourses F L now.broadcasts
    known = record {
      foreground = λ k d below. (
        runs.foreground k d below,
        foreground_found now.broadcasts order k d below,
        has.held.foreground k d below,
      );
      background = λ k d below. (
        runs.background k d below,
        background_found now.broadcasts order k d below,
        has.held.background k d below,
      );
      results = λ k d below. (runs.results k d below, results_lost now.broadcasts order k d below);
    }

    -- the results stay, if the request does nothing to a broadcast without a delivery
    results_stay : (done : Bool) → Done done
        → ((course : Course) → cond done (requested now entry.request None course) course ≡ course) → (r : Result) → L r
        → OutcomeBy D r
    results_stay done is same r one = outcome_follows M D r
        (λ b named course. untouched opening before entry done b None is (ap (delivery_of now.broadcasts) named ∙ one.1)
        (same (course_of b)) (no_answer done) course) one.0
      where
        no_answer : (b : Bool) → b && false ≡ false
        no_answer true = refl
        no_answer false = refl

    with_results : ((r : Result) → L r → OutcomeBy D r) → OfCourses F (OutcomeBy D) now.broadcasts
    with_results follows = record {
      foreground = known.foreground;
      background = known.background;
      results = All-weaker L
          (OutcomeBy D) follows now.broadcasts.results known.results;
    }

    -- a request that wasn't done, or is apart
    quiet : (done : Bool) → Done done → ((delivery : Option Delivery) (course : Course)
        → cond done (requested now entry.request delivery course) course ≡ course)
        → ((delivery : Option Delivery) → done && is_finish_of entry.request delivery ≡ false)
        → OfCourses D (OutcomeBy D) now.broadcasts
    quiet done is same finish = courses_follow F D L (OutcomeBy D) now.broadcasts
        (λ b one. untouched opening before entry done b (delivery_of now.broadcasts b.number) is refl
        (same (delivery_of now.broadcasts b.number) (course_of b))
        (finish (delivery_of now.broadcasts b.number)) one.0)
        (results_stay done is (same None)) known

    quiet_if : (done : Bool) → is_apart entry.request ≡ true → Done done → OfCourses D (OutcomeBy D) now.broadcasts
    quiet_if true apart is = quiet true is (λ delivery course. apart_course now entry.request delivery course apart)
        (no_finish entry.request (λ number. apart_finish entry.request number apart))
    quiet_if false apart is = quiet false is (λ delivery course. refl) (λ delivery. refl)

    -- receivers that are struck
    module _ (struck : Spot → Bool) (is : Done true)
        (strikes : (delivery : Option Delivery) (course : Course) → requested now entry.request delivery course
        ≡ passed_struck struck delivery course)
        (finish : (delivery : Option Delivery) → is_finish_of entry.request delivery ≡ false) where
      strikes_turn : (b : InTurn) → F b → D (strike struck b)
      strikes_turn b one = struck_runs opening before entry struck b is strikes finish one.1 one.0

      strikes_left : OfCourses F (OutcomeBy D) now.broadcasts
      strikes_left = with_results (λ r one. outcome_struck M D r struck
          (λ b named course. struck_left opening before entry struck b is strikes finish
          (ap (delivery_of now.broadcasts) named ∙ one.1) course) one.0)

    -- a sender that wants no result any more
    unwants : (uid : ℕ) (b : InTurn) → F b → F (unwanted uid b)
    unwants uid b one =
        let same = by (b.sender == uid) in (
          runs_unwanted opening before (by_then opening before entry) uid b one.0,
          same.0,
          same.1,
        )
      where
        by : (same : Bool) → IsFound now.broadcasts (cond same (record b { wanted = false }) b)
            × TurnFor has.holder now.broadcasts.next_delivery (cond same (record b { wanted = false }) b)
        by true = (one.1, one.2)
        by false = (one.1, one.2)

    -- what is known after the entry, whether it was done and whatever it did to broadcasts
    abbrev Leaves : Bool → Broadcasts → Type 0
    Leaves done all = Done done → RunsOn opening longer all

    gives : (b : InTurn) (current : Option _) → D b → D (record b { current = current })
    gives b current one = course_given opening longer b current one

    -- an ordered broadcast that the entry sends
    begun : (done : Bool) → Done done → is_apart entry.request ≡ true
        → (sender : ℕ) (intent : Intent) (permission : Option (List ℕ)) (ordered : Option Ordered) → entry.kept ≡ true
        → deed_of now entry.uid entry.request ≡ Some (Sends sender intent permission ordered)
        → is_protected now.board.protected intent.action && not (is_privileged sender) ≡ false
        → (o : Ordered) → ordered ≡ Some o
        → D (in_turn now.broadcasts.next_broadcast (sending_of now sender intent ordered
        (receivers now.board intent sender permission)) o)
    begun done was_done apart sender intent permission ordered kept did unprotected o is = record {
      begun = b;
      sent = once_now opening before (IsSentInOrder b) entry (Sends sender intent permission ordered) kept did (record {
        permission = permission;
        ordered = o;
        is = ap (λ (x : Option Ordered). Sends sender intent permission x) is;
        unprotected = unprotected;
        begins = ap (λ (x : Option Ordered). in_turn now.broadcasts.next_broadcast
            (sending_of now sender intent x (receivers now.board intent sender permission)) o) is;
      });
      stays = refl;
      wanted = λ wants. wants;
      course = refl;
      answers = subst (λ (l : List Entry). AllZip IsAnswerBy [] l)
          (sym (none_finished done was_done b.number (unsent b.number (omega arith))
          (by done (no_finish entry.request (λ number. apart_finish entry.request number apart)
          (delivery_of now.broadcasts b.number))))) tt;
    }
      where
        b : InTurn
        b = in_turn now.broadcasts.next_broadcast (sending_of now sender intent ordered
            (receivers now.board intent sender permission)) o

        by : (d : Bool) {t : Bool} → t ≡ false → d && t ≡ false
        by true fails = fails
        by false fails = refl

    -- a package of which nothing goes on
    forgotten : (name : List ℕ) (owner : Package) → package_named now.board.packages name ≡ Some owner
        → ((delivery : Option Delivery) (course : Course)
        → requested now entry.request delivery course ≡ passed_struck
        (is_of_package (package_named now.board.packages name)) delivery course)
        → ((delivery : Option Delivery) → is_finish_of entry.request delivery ≡ false)
        → Leaves true (sending.forget_uid now.broadcasts owner.uid now.moment)
    forgotten name owner is strikes finish done = record {
      courses = forget_uid_courses F D (OutcomeBy D) (settling D gives) now.broadcasts owner.uid now.moment
          (unwants owner.uid)
          (strikes_turn struck done same finish) (strikes_left struck done same finish);
      holders = forget_uid_held now.broadcasts owner.uid now.moment has;
      order = forget_uid_order now.broadcasts owner.uid now.moment order;
      unsent = still_unsent true done;
    }
      where
        struck : Spot → Bool
        struck spot = spot.uid == owner.uid

        same : (delivery : Option Delivery) (course : Course) → requested now entry.request delivery course
            ≡ passed_struck struck delivery course
        same delivery course = strikes delivery course ∙ ap (λ (found : Option Package). passed_struck
            (is_of_package found) delivery course) is

    acts : entry.kept ≡ true → Acts Leaves now entry.uid entry.request
    acts kept = record {
      same = λ is. record {
        courses = quiet false is (λ delivery course. refl) (λ delivery. refl);
        holders = has;
        order
            = order;
        unsent = still_unsent false is;
      };
      apart = λ apart is. record {
        courses = quiet_if true apart is;
        holders = has;
        order = order;
        unsent = still_unsent
            true is;
      };
      sent = λ sender intent permission ordered apart did unprotected done is. record {
        courses = sent_courses D (OutcomeBy D) (settling D gives) now.broadcasts
            (sending_of now sender intent ordered (receivers now.board intent sender permission)) ordered
            (begun done is apart sender intent permission ordered kept did unprotected) (quiet_if done apart is);
        holders = sent_held now.broadcasts (sending_of now sender intent ordered
            (receivers now.board intent sender permission)) ordered has;
        order = sent_order now.broadcasts (sending_of now sender intent ordered
            (receivers now.board intent sender permission)) ordered order;
        unsent = still_more done is _ (sent_gives_one now.broadcasts (sending_of now sender intent ordered
            (receivers now.board intent sender permission)) ordered);
      };
      finished = λ number answer holder asked is same done. record {
        courses = finished_courses F D (OutcomeBy D) (settling D gives) now.broadcasts number answer now.moment order
            (λ b one. answered opening before entry number answer b done kept asked
            (λ spot rest left test. sym (held_is has.holder now.broadcasts number holder has.held is ∙ same)
            ∙ current_is has.holder now.broadcasts.next_delivery number spot rest b.current
            (subst (λ (l : List Spot). CurrentFor has.holder now.broadcasts.next_delivery l b.current) left one.2) test)
            one.1 one.0)
            (with_results (results_stay true done (λ course. ap (λ (r : Request). requested now r None course) asked)));
        holders = finished_held now.broadcasts number answer now.moment has;
        order = finished_order now.broadcasts number answer now.moment order;
        unsent = still_unsent true done;
      };
      taken_back = λ number asked done.
          let strikes : (delivery : Option Delivery) (course : Course) → requested now entry.request delivery course
          ≡ passed_struck (λ (spot : Spot). is_registered number spot.aim) delivery course =
          λ delivery course. ap (λ (r : Request). requested now r delivery course) asked in
          let finish : (delivery : Option Delivery) → is_finish_of entry.request delivery ≡ false =
          no_finish entry.request (λ n. ap (λ (r : Request). is_finish r n) asked) in
          record {
            courses = forget_courses F D (OutcomeBy D) (settling D gives) now.broadcasts
                (λ (spot : Spot). is_registered number spot.aim) now.moment
                (strikes_turn (λ (spot : Spot). is_registered number spot.aim) done strikes finish)
                (strikes_left (λ (spot : Spot). is_registered number spot.aim) done strikes finish);
            holders = forget_held now.broadcasts (λ (spot : Spot). is_registered number spot.aim) now.moment has;
            order = forget_order now.broadcasts (λ (spot : Spot). is_registered number spot.aim) now.moment order;
            unsent = still_unsent true done;
          };
      uninstalled = λ name owner asked is.
          forgotten name owner is (λ delivery course. ap (λ (r : Request). requested now r delivery course) asked)
          (no_finish entry.request (λ n. ap (λ (r : Request). is_finish r n) asked));
      stopped = λ name owner asked is.
          forgotten name owner is (λ delivery course. ap (λ (r : Request). requested now r delivery course) asked)
          (no_finish entry.request (λ n. ap (λ (r : Request). is_finish r n) asked));
      advanced = λ more asked done. record {
        courses = expired_courses F D (OutcomeBy D) (settling D gives) now.broadcasts (now.moment + more) order
            (λ b one. late_by opening before entry more b done asked one.1 one.0)
            (with_results (results_stay true done (λ course. ap (λ (r : Request). requested now r None course) asked)));
        holders = expired_held now.broadcasts (now.moment + more) has;
        order = expired_order now.broadcasts (now.moment + more) order;
        unsent = λ number free.
            let same : (expired now.broadcasts (now.moment + more)).next_broadcast
            ≡ now.broadcasts.next_broadcast = expired_keeps now.broadcasts (now.moment + more) in
            still_unsent true done number (omega arith);
      };
    }

  -- an entry leaves all in their courses
  run_more : RunsOn opening before was.broadcasts → RunsOn opening longer (step was before entry).1.broadcasts
  run_more here = by entry.kept refl
    where
      runs : OfCourses M (OutcomeBy M) now.broadcasts
      runs = passed here

      has : HasHolders now.broadcasts
      has = expired_held was.broadcasts (moment_after was entry.now) here.holders

      order : AreInOrder now.broadcasts
      order = expired_order was.broadcasts (moment_after was entry.now) here.order

      unsent : (number : ℕ) → now.broadcasts.next_broadcast ≤ number → finishing opening number [] before ≡ []
      unsent number free =
          let same : now.broadcasts.next_broadcast ≡ was.broadcasts.next_broadcast = expired_keeps was.broadcasts
          (moment_after was entry.now) in
          here.unsent number (omega arith)

      next : Bool → Reply × State
      next kept = cond kept (act now before entry.uid entry.request) (replies.Refused rules.KeeperFault, now)

      by : (kept : Bool) → entry.kept ≡ kept → RunsOn opening longer (next kept).1.broadcasts
      by true kept = acts_do (Leaves runs has order unsent) now entry.uid before entry.request
          (acts runs has order unsent kept) (ap (λ (k : Bool). is_done (next k).0) kept)
      by false kept = record {
        courses = quiet runs has order unsent false (ap (λ (k : Bool). is_done (next k).0) kept)
            (λ delivery course. refl) (λ delivery. refl);
        holders = has;
        order = order;
        unsent = still_unsent runs has order unsent false (ap (λ (k : Bool). is_done (next k).0) kept);
      }

-- after every history
pub courses_are_kept : (origin : Origin) (history : List Entry)
    → OfCourses (IsInCourse (opening_of origin) history) (IsOutcome (opening_of origin) history)
    (replay (opening_of origin) history).broadcasts
courses_are_kept origin history = courses_follow C C (OutcomeBy C) (IsOutcome opening history)
    (replay opening history).broadcasts (λ b one. one) (λ r one. record {
      of = one.of;
      course = one.course;
      over = one.over;
      wanted = one.wanted;
      number = one.number;
      sender = one.sender;
      outcome = one.outcome;
    }) (by_history opening (λ h state. RunsOn opening h state.broadcasts) begins (run_more opening) history).courses
  where
    opening : State
    opening = opening_of origin

    C : InTurn → Type 0
    C b = IsInCourse opening history b

    begins : RunsOn opening [] opening.broadcasts
    begins = opening_leaves (λ (state : State). RunsOn opening [] state.broadcasts) (λ state board uid same run. run)
        origin (record {
          courses = record {
            foreground = All-nil (IsInCourse opening []);
            background = All-nil (IsInCourse opening []);
            results = All-nil (OutcomeBy (IsInCourse opening []));
          };
          holders = none_held;
          order = none_in_order;
          unsent = λ number free. refl;
        })
