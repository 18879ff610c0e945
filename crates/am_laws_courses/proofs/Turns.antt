-- The deliveries of an ordered broadcast go to its receivers in turn, after every history.
use Rattle.std.proofs.Common.{◌≡◌, ℕ, ◌+◌, ◌≤◌, Bool, true, false, not, cond, List, [], ◌∷◌, ◌++◌, map, refl, sym, ap, ◌∙◌, subst, append_assoc, append-nil, arith, ◌⊎◌, inl, inr}
use Rattle.std.specs.Prelude.{Option, Some, None, filter, ◌==◌}
use Rattle.std.proofs.lemmas.List.{map-append}
use Rattle.std.proofs.lemmas.List.Elements.{All-nil, All-weaker}
use Rattle.am_types.specs.declared.broadcast.Spot.{Spot}
use Rattle.am_types.specs.declared.broadcast.Answer.{Answer}
use Rattle.am_types.specs.declared.broadcast.Ordered.{Ordered}
use Rattle.am_types.specs.declared.broadcast.Sending.{Sending}
use Rattle.am_types.specs.declared.history.Entry.{Entry}
use Rattle.am_types.specs.declared.reply.Reply.TheVariants as replies
use Rattle.am_types.specs.declared.rule.Rule.TheVariants as rules
use Rattle.am_model.specs.Receivers.{receivers}
use Rattle.am_model.specs.Broadcasts.{Broadcasts, InTurn, Past, Current, Result, Doing, Answered, Late, Gone, no_broadcasts, turned, turn, is_late, expired}
use Rattle.am_model.specs.Sending as sending
use Rattle.am_model.specs.Sending.{in_turn, with_sent, finished, is_current, is_registered, strike_rest, strike_from, strike, unwanted}
use Rattle.am_history.specs.State.{State}
use Rattle.am_history.specs.BroadcastCalls.{sending_of}
use Rattle.am_history.specs.Steps.{act, after_due, moment_after, step}
use Rattle.am_history.specs.History.{replay}
use Rattle.am_history.specs.Desks.{Origin, opening_of}
use Rattle.am_history.proofs.Places.{replay_more}
use Rattle.am_laws.proofs.Histories.{by_history}
use Rattle.am_laws.proofs.Openings.{opening_leaves}
use Rattle.am_laws_courses.specs.Course.{turn_of}
use Rattle.am_laws_courses.specs.Fold.{OfCourses}
use Rattle.am_laws_courses.specs.Turns.{holder_of, reached, BeginWith, GoesInTurn, IsInTurn, OfTurns}
use Rattle.am_laws_courses.proofs.Order.{AreInOrder, none_in_order, expired_order, finished_order, forget_order, forget_uid_order, sent_order, turning}
use Rattle.am_laws_courses.proofs.Found.{foreground_turns, background_turns}
use Rattle.am_laws.proofs.NextBroadcasts.{expired_keeps, sent_gives_one}
use Rattle.am_laws_courses.proofs.Numbers.{none_has}
use Rattle.am_laws_courses.proofs.Acts.{Acts, acts_do}
use Rattle.am_laws_courses.proofs.Courses.{Settling, expired_courses, finished_courses, forget_courses, forget_uid_courses, sent_courses}

-- lists that begin alike
begin_same : (earlier later : List Spot) → later ≡ earlier → BeginWith earlier later
begin_same earlier later is = ([], is ∙ sym (append-nil earlier))

begin_through : (first second third : List Spot) → BeginWith first second → BeginWith second third
    → BeginWith first third
begin_through first second third one two =
    (one.0 ++ two.0, two.1 ∙ ap (λ (l : List Spot). l ++ two.0) one.1 ∙ append_assoc first one.0 two.0)

-- the receivers that are past
abbrev spots_past : List Past → List Spot
spots_past past = map (λ (p : Past). p.spot) past

-- the first that has the delivery is past
passed_reached : (past : List Past) (spot : Spot) (doing : Doing) → spots_past
    (past ++ record { spot = spot; doing = doing } ∷ []) ++ [] ≡ spots_past past ++ spot ∷ []
passed_reached past spot doing = append-nil _ ∙ map-append (λ (p : Past). p.spot) past
    (record { spot = spot; doing = doing } ∷ [])

-- a turn reaches whom the delivery reached
turning_reaches : (test : Option Current → Bool) (doing : Doing) → test None ≡ false → (b : InTurn)
    → reached (turning test doing b) ≡ reached b
turning_reaches test doing fails b =
    by b.current b.rest ∙ refl
  where
    with_current : Option Current → List Spot → List Spot
    with_current current rest = spots_past b.past ++ holder_of current rest

    by : (current : Option Current) (rest : List Spot) → reached (cond (test current) (turned doing b rest)
        (record b { current = current; rest = rest })) ≡ with_current current rest
    by None rest = ap (λ (passes : Bool). reached (cond passes (turned doing b rest)
        (record b { current = None; rest = rest }))) fails
    by (Some current) [] = choose (test (Some current))
      where
        choose : (passes : Bool) → reached (cond passes (record b { current = None })
            (record b { current = Some current; rest = [] })) ≡ spots_past b.past ++ []
        choose true = refl
        choose false = refl
    by (Some current) (spot ∷ rest) = choose (test (Some current))
      where
        choose : (passes : Bool) → reached (cond passes (turned doing b (spot ∷ rest))
            (record b { current = Some current; rest = spot ∷ rest })) ≡ spots_past b.past ++ spot ∷ []
        choose true = passed_reached b.past spot doing
        choose false = refl

-- striking reaches nobody new
strike_reaches : (struck : Spot → Bool) (b : InTurn) → reached (strike struck b) ≡ reached b
strike_reaches struck b = by b.current b.rest refl refl
  where
    by : (current : Option Current) (rest : List Spot) → b.current ≡ current → b.rest ≡ rest
        → reached (strike_from struck b rest current) ≡ spots_past b.past ++ holder_of current rest
    by None rest has left = ap (λ (o : Option Current). spots_past b.past
        ++ holder_of o (filter (λ (s : Spot). not (struck s)) b.rest)) has
    by (Some current) [] has left = ap (λ (o : Option Current). spots_past b.past ++ holder_of o b.rest) has
        ∙ ap (λ (l : List Spot). spots_past b.past ++ holder_of (Some current) l) left
    by (Some current) (spot ∷ rest) has left = choose (struck spot) refl
      where
        choose : (gone : Bool) → struck spot ≡ gone → reached (cond gone (strike_rest struck (turn Gone b))
            (strike_rest struck b)) ≡ spots_past b.past ++ spot ∷ []
        choose true test = ap (λ (l : List Spot). reached (strike_rest struck (turned Gone b l))) left
            ∙ passed_reached b.past spot Gone
        choose false test =
            ap (λ (o : Option Current). spots_past b.past ++ holder_of o (filter (λ (s : Spot). not (struck s)) b.rest))
            has
            ∙ ap (λ (l : List Spot). spots_past b.past ++ holder_of (Some current)
            (filter (λ (s : Spot). not (struck s)) l)) left
            ∙ ap (λ (t : Bool). spots_past b.past ++ holder_of (Some current)
            (cond (not t) (spot ∷ filter (λ (s : Spot). not (struck s)) rest)
            (filter (λ (s : Spot). not (struck s)) rest))) test

-- changes keep the number
turned_number : (doing : Doing) (b : InTurn) (rest : List Spot) → (turned doing b rest).number ≡ b.number
turned_number doing b [] = refl
turned_number doing b (spot ∷ rest) = refl

turning_number : (test : Option Current → Bool) (doing : Doing) (b : InTurn) → (turning test doing b).number ≡ b.number
turning_number test doing b = by (test b.current)
  where
    by : (passes : Bool) → (cond passes (turn doing b) b).number ≡ b.number
    by true = turned_number doing b b.rest
    by false = refl

strike_number : (struck : Spot → Bool) (b : InTurn) → (strike struck b).number ≡ b.number
strike_number struck b = by b.rest b.current
  where
    by : (rest : List Spot) (current : Option Current) → (strike_from struck b rest current).number ≡ b.number
    by rest None = refl
    by [] (Some current) = refl
    by (spot ∷ rest) (Some current) = choose (struck spot)
      where
        choose : (gone : Bool) → (cond gone (strike_rest struck (turn Gone b)) (strike_rest struck b)).number ≡ b.number
        choose true = turned_number Gone b b.rest
        choose false = refl

-- an earlier place of a history with one more entry is one of the history, or the last
last_place : (h earlier later : List Entry) (entry : Entry) → h ++ entry ∷ [] ≡ earlier ++ later
    → (h ++ entry ∷ [] ≡ earlier) ⊎ ((rest : List Entry) × (h ≡ earlier ++ rest))
last_place h [] later entry is = inr (h, refl)
last_place [] (x ∷ []) later entry is = inl (let e : entry ≡ x = cc in ap (λ (y : Entry). y ∷ []) e)
last_place [] (x ∷ y ∷ earlier) later entry is = absurd cc
last_place (z ∷ h) (x ∷ earlier) later entry is = by (last_place h earlier later entry same)
  where
    first : z ≡ x
    first = cc

    same : h ++ entry ∷ [] ≡ earlier ++ later
    same = cc

    by : (h ++ entry ∷ [] ≡ earlier) ⊎ ((rest : List Entry) × (h ≡ earlier ++ rest))
        → (z ∷ (h ++ entry ∷ []) ≡ x ∷ earlier) ⊎ ((rest : List Entry) × (z ∷ h ≡ x ∷ (earlier ++ rest)))
    by (inl whole) = inl (ap (λ (l : List Entry). z ∷ l) whole ∙ ap (λ (y : Entry). y ∷ earlier) first)
    by (inr part) = inr (
      part.0,
      ap (λ (l : List Entry). z ∷ l) part.1
          ∙ ap (λ (y : Entry). y ∷ (earlier ++ part.0)) first,
    )

-- changes of a broadcast that reach more
goes_on : (opening : State) (h : List Entry) (b left : InTurn) → left.number ≡ b.number
    → BeginWith (reached b) (reached left) → GoesInTurn opening h b → GoesInTurn opening h left
goes_on opening h b left same more one earlier later then splits is =
    begin_through (reached then) (reached b) (reached left)
    (one earlier later then splits (ap (λ (n : ℕ). turn_of (replay opening earlier).broadcasts n) (sym same) ∙ is)) more

-- deliveries go in turn, the queues are in order, and each earlier broadcast had a number that was given out
record GoesOn (opening : State) (h : List Entry) (all : Broadcasts) : Type 0 where
  pub turns : OfCourses (GoesInTurn opening h) (λ (r : Result). Unit {0}) all
  pub order : AreInOrder all
  pub fresh : (earlier later : List Entry) (number : ℕ) → h ≡ earlier ++ later → all.next_broadcast ≤ number
      → turn_of (replay opening earlier).broadcasts number ≡ None

module _ (opening : State) (h : List Entry) where
  abbrev G : InTurn → Type 0
  G b = GoesInTurn opening h b

  abbrev U : Result → Type 0
  U r = Unit {0}

  settles : Settling G U
  settles = record {
    gives = λ b current none one. goes_on opening h b (record b { current = Some current }) refl (given b current none)
        one;
    ends = λ b delivery one over wanted. tt;
  }
    where
      given : (b : InTurn) (current : Current) → b.current ≡ None → BeginWith (reached b)
          (reached (record b { current = Some current }))
      given b current none = (
        holder_of (Some current) b.rest,
        ap (λ (l : List Spot). l ++ holder_of (Some current) b.rest)
            (sym (ap (λ (o : Option Current). spots_past b.past ++ holder_of o b.rest) none
            ∙ append-nil (spots_past b.past))),
      )

  turns_on : (test : Option Current → Bool) (doing : Doing) → test None ≡ false → (b : InTurn) → G b
      → G (turning test doing b)
  turns_on test doing fails b one =
      goes_on opening h b (turning test doing b) (turning_number test doing b)
      (begin_same (reached b) (reached (turning test doing b)) (turning_reaches test doing fails b)) one

  strikes_on : (struck : Spot → Bool) (b : InTurn) → G b → G (strike struck b)
  strikes_on struck b one = goes_on opening h b (strike struck b) (strike_number struck b)
      (begin_same (reached b) (reached (strike struck b)) (strike_reaches struck b)) one

  unwanted_on : (uid : ℕ) (b : InTurn) → G b → G (unwanted uid b)
  unwanted_on uid b one = by (b.sender == uid)
    where
      by : (same : Bool) → G (cond same (record b { wanted = false }) b)
      by true = one
      by false = one

  -- each step of broadcasts
  on_sent : (all : Broadcasts) (sent : Sending) (ordered : Option Ordered) → GoesOn opening h all
      → GoesOn opening h (with_sent all sent ordered)
  on_sent all sent ordered on = record {
    turns = sent_courses G U settles all sent ordered (λ o is earlier later then splits found. absurd
        (none_some (sym (on.fresh earlier later all.next_broadcast splits (omega arith)) ∙ found))) on.turns;
    order = sent_order all sent ordered on.order;
    fresh = λ earlier later number splits free.
        let more : (with_sent all sent ordered).next_broadcast ≡ all.next_broadcast + 1 = sent_gives_one all sent ordered in
        on.fresh earlier later number splits (omega arith);
  }
    where
      none_some : {then : InTurn} → None ≡ Some then → ⊥
      none_some is = cc

  on_finished : (all : Broadcasts) (number : ℕ) (answer : Answer) (now : ℕ) → GoesOn opening h all
      → GoesOn opening h (finished all number answer now)
  on_finished all number answer now on = record {
    turns = finished_courses G G U settles all number answer now on.order
        (turns_on (is_current number) (Answered answer) refl) on.turns;
    order = finished_order all number answer now on.order;
    fresh = on.fresh;
  }

  on_forgotten : (all : Broadcasts) (struck : Spot → Bool) (now : ℕ) → GoesOn opening h all
      → GoesOn opening h (sending.forget all struck now)
  on_forgotten all struck now on = record {
    turns = forget_courses G G U settles all struck now (strikes_on struck) on.turns;
    order = forget_order all struck now on.order;
    fresh = on.fresh;
  }

  on_uid_forgotten : (all : Broadcasts) (uid now : ℕ) → GoesOn opening h all
      → GoesOn opening h (sending.forget_uid all uid now)
  on_uid_forgotten all uid now on = record {
    turns = forget_uid_courses G G U settles all uid now (unwanted_on uid)
        (strikes_on (λ (spot : Spot). spot.uid == uid)) on.turns;
    order = forget_uid_order all uid now on.order;
    fresh = on.fresh;
  }

  on_expired : (all : Broadcasts) (now : ℕ) → GoesOn opening h all → GoesOn opening h (expired all now)
  on_expired all now on = record {
    turns = expired_courses G G U settles all now on.order (turns_on (is_late now) Late refl) on.turns;
    order = expired_order all now on.order;
    fresh = λ earlier later number splits free.
        let same : (expired all now).next_broadcast ≡ all.next_broadcast = expired_keeps all now in
        on.fresh earlier later number splits (omega arith);
  }

  -- what was due, and what the entry does
  on_entry : (entry : Entry) → GoesOn opening h (replay opening h).broadcasts
      → GoesOn opening h (step (replay opening h) h entry).1.broadcasts
  on_entry entry on = by entry.kept
    where
      due : State
      due = after_due (replay opening h) entry.now

      passed : GoesOn opening h due.broadcasts
      passed = on_expired (replay opening h).broadcasts (moment_after (replay opening h) entry.now) on

      acts : Acts (λ done all. GoesOn opening h all) due entry.uid entry.request
      acts = record {
        same = passed;
        apart = λ apart. passed;
        sent = λ sender intent permission ordered apart did unprotected done.
            on_sent due.broadcasts (sending_of due sender intent ordered (receivers due.board intent sender permission))
            ordered passed;
        finished = λ number answer holder asked is own. on_finished due.broadcasts number answer due.moment passed;
        taken_back = λ number asked. on_forgotten due.broadcasts (λ (spot : Spot). is_registered number spot.aim)
            due.moment passed;
        uninstalled = λ name owner asked is. on_uid_forgotten due.broadcasts owner.uid due.moment passed;
        stopped = λ name owner asked is. on_uid_forgotten due.broadcasts owner.uid due.moment passed;
        advanced = λ more asked. on_expired due.broadcasts (due.moment + more) passed;
      }

      by : (kept : Bool) → GoesOn opening h (cond kept (act due h entry.uid entry.request)
          (replies.Refused rules.KeeperFault, due)).1.broadcasts
      by true = acts_do (λ done all. GoesOn opening h all) due entry.uid h entry.request acts
      by false = passed

  -- in the longer history
  on_more : (entry : Entry) → GoesOn opening h (replay opening h).broadcasts
      → GoesOn opening (h ++ entry ∷ []) (step (replay opening h) h entry).1.broadcasts
  on_more entry on = record {
    turns = record {
      foreground = λ k d below. longer _ (foreground_turns after after_on.order k d below)
          (after_on.turns.foreground k d below);
      background = λ k d below. longer _ (background_turns after after_on.order k d below)
          (after_on.turns.background k d below);
      results = All-weaker U U (λ r one. one) after.results after_on.turns.results;
    };
    order = after_on.order;
    fresh = λ earlier later number splits free. still earlier number free (last_place h earlier later entry splits);
  }
    where
      after : Broadcasts
      after = (step (replay opening h) h entry).1.broadcasts

      after_on : GoesOn opening h after
      after_on = on_entry entry on

      -- the last place
      last : (earlier : List Entry) → h ++ entry ∷ [] ≡ earlier → (replay opening earlier).broadcasts ≡ after
      last earlier whole = ap (λ (l : List Entry). (replay opening l).broadcasts) (sym whole)
          ∙ ap (λ (s : State). s.broadcasts) (replay_more opening h entry)

      longer : (b : InTurn) → turn_of after b.number ≡ Some b → GoesInTurn opening h b
          → GoesInTurn opening (h ++ entry ∷ []) b
      longer b mine one earlier later then splits found = by (last_place h earlier later entry splits)
        where
          by : (h ++ entry ∷ [] ≡ earlier) ⊎ ((rest : List Entry) × (h ≡ earlier ++ rest))
              → BeginWith (reached then) (reached b)
          by (inl whole) =
              let same : Some b ≡ Some then = sym mine ∙ ap (λ (all : Broadcasts). turn_of all b.number)
              (sym (last earlier whole)) ∙ found in
              let is : b ≡ then = cc in
              begin_same (reached then) (reached b) (ap reached is)
          by (inr part) = one earlier part.0 then part.1 found

      still : (earlier : List Entry) (number : ℕ) → after.next_broadcast ≤ number
          → (h ++ entry ∷ [] ≡ earlier) ⊎ ((rest : List Entry) × (h ≡ earlier ++ rest))
          → turn_of (replay opening earlier).broadcasts number ≡ None
      still earlier number free (inl whole) = ap (λ (all : Broadcasts). turn_of all number) (last earlier whole)
          ∙ none_has after number after_on.order free
      still earlier number free (inr part) = after_on.fresh earlier part.0 number part.1 free

-- after every history
pub deliveries_go_in_turn : (origin : Origin) (history : List Entry)
    → OfTurns (IsInTurn (opening_of origin) history) (replay (opening_of origin) history).broadcasts
deliveries_go_in_turn origin history = record {
  foreground = λ k d below. record {
    own = foreground_turns all on.order k d below;
    since = on.turns.foreground k d
        below;
  };
  background = λ k d below. record {
    own = background_turns all on.order k d below;
    since = on.turns.background k d
        below;
  };
}
  where
    opening : State
    opening = opening_of origin

    none : opening.broadcasts ≡ no_broadcasts
    none = opening_leaves (λ (state : State). state.broadcasts ≡ no_broadcasts) (λ state board uid same is. is) origin
        refl

    empty : (earlier later : List Entry) → [] ≡ earlier ++ later → earlier ≡ []
    empty [] later is = refl
    empty (x ∷ earlier) later is = absurd cc

    begins : GoesOn opening [] opening.broadcasts
    begins = subst (λ (all : Broadcasts). GoesOn opening [] all) (sym none) (record {
      turns = record {
        foreground = All-nil (GoesInTurn opening []);
        background = All-nil (GoesInTurn opening []);
        results = All-nil (λ (r : Result). Unit {0});
      };
      order = none_in_order;
      fresh = λ earlier later number splits free. ap (λ (l : List Entry). turn_of (replay opening l).broadcasts number)
          (empty earlier later splits) ∙ ap (λ (all : Broadcasts). turn_of all number) none;
    })

    all : Broadcasts
    all = (replay opening history).broadcasts

    on : GoesOn opening history all
    on = by_history opening (λ h state. GoesOn opening h state.broadcasts) begins (on_more opening) history
