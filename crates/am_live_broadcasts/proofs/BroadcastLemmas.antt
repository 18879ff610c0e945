-- What sending, registering, taking back and finishing come to, by what was found.
use Rattle.std.proofs.Common.{◌≡◌, ℕ, ◌+◌, ◌<◌, ◌==◌, Bool, true, false, not, ◌&&◌, ◌≤◌, cond, List, [], ◌∷◌, ◌++◌, Option, Some, None, Ok, Err, refl, subst, sym, ap, ◌∙◌, arith}
use Rattle.std.proofs.lemmas.Bool.Decides.{nat_tests}
use Rattle.std.specs.Prelude.{All, filter, nat_le}
use Rattle.std.specs.List.{find}
use Rattle.std.specs.Option.{option_map}
use Rattle.std.specs.Cmp.{nat_eq_equiv, unsigned_Decides}
use Rattle.am_types.specs.declared.broadcast.Answer.{Answer}
use Rattle.am_types.specs.declared.broadcast.FinishFault.{FinishFault}
use Rattle.am_types.specs.declared.broadcast.Ordered.{Ordered}
use Rattle.am_types.specs.declared.broadcast.Receiving.{Receiving}
use Rattle.am_types.specs.declared.broadcast.Sending.{Sending}
use Rattle.am_types.specs.declared.filter.Filter.{Filter}
use Rattle.am_types.specs.declared.intent.Intent.{Intent}
use Rattle.am_types.specs.declared.resolve.Registration.{Registration}
use Rattle.am_types.specs.declared.reply.Reply.{Reply}
use Rattle.am_types.specs.declared.reply.Reply.TheVariants as replies
use Rattle.am_types.specs.declared.rule.Limit.TheVariants as limits
use Rattle.am_types.specs.declared.rule.Rule.{Rule}
use Rattle.am_types.specs.declared.rule.Rule.TheVariants as rules
use Rattle.am_model.specs.Boards.{Board}
use Rattle.am_model.specs.Broadcasts.{Broadcasts, InTurn, expired, expired_queue, is_head_due, late_head, settle, with_queue}
use Rattle.am_model.specs.Gates.{is_privileged}
use Rattle.am_model.specs.Receivers.{is_protected, receivers}
use Rattle.am_model.specs.Sending as model
use Rattle.am_installed.specs.Places.{place_registered}
use Rattle.am_installed.proofs.Placing.{place_last}
use Rattle.am_history.specs.Answers.{done, refused}
use Rattle.am_history.specs.BroadcastCalls.{after_finish, after_send, count_of, finish, finish_rule, register, send, send_to, sending_of, taken_back, unregister, unregister_found, with_registered}
use Rattle.am_history.specs.State.{State}
use Rattle.am_history.specs.Steps.{at_moment}

-- whether two numbers are the same
is_one : (x y : ℕ) → x ≡ y → (x == y) ≡ true
is_one x y e = ap (λ n. n == y) e ∙ nat_eq_equiv.refl y

is_other : (x y : ℕ) → (x ≡ y → ⊥) → (x == y) ≡ false
is_other x y h = by (x == y) refl
  where
    by : (b : Bool) → (x == y) ≡ b → b ≡ false
    by true e = absurd (h ((unsigned_Decides x y).0 e))
    by false e = refl

-- a queue that gets another head and settles gives out no number of a broadcast
queue_numbers : (foreground due : Bool) (now : ℕ) (queue : List InTurn) (all : Broadcasts)
    → (cond due (settle foreground now (with_queue foreground queue all)) all).next_broadcast ≡ all.next_broadcast
queue_numbers true true now queue all = refl
queue_numbers false true now queue all = refl
queue_numbers foreground false now queue all = refl

-- nor do deadlines that are due
expired_numbers : (all : Broadcasts) (now : ℕ) → (expired all now).next_broadcast ≡ all.next_broadcast
expired_numbers all now =
    let passed = expired_queue true now all in
    queue_numbers false (is_head_due now passed.background) now (late_head now passed.background) passed
    ∙ queue_numbers true (is_head_due now all.foreground) now (late_head now all.foreground) all

-- so there are as many left for a copy after its deadlines
pub still_left : (old copy left : Broadcasts) (now most : ℕ) → copy ≡ old → left ≡ expired copy now
    → old.next_broadcast ≤ most → left.next_broadcast ≤ most
still_left old copy left now most copied after few =
    subst (λ (n : ℕ). n ≤ most) (sym (ap (λ (all : Broadcasts). all.next_broadcast) after ∙ expired_numbers copy now
    ∙ ap (λ (all : Broadcasts). all.next_broadcast) copied)) few

-- what is said of a state is said of what it equals
pub in_state : (said : Reply × State) (reply : Reply) (state new : State) → said ≡ (reply, state) → new ≡ state → said
    ≡ (reply, new)
in_state said reply state new is same = is ∙ ap (λ (s : State). (reply, s)) (sym same)

-- whether the action is protected from the caller, by the list that was read
pub withheld_by : (seen protected : List (List ℕ)) (action : Option (List ℕ)) (caller : ℕ) (told answer : Bool) → told
    ≡ is_protected seen action && not (is_privileged caller) → seen ≡ protected → told ≡ answer
    → is_protected protected action && not (is_privileged caller) ≡ answer
withheld_by seen protected action caller told answer is same gives =
    ap (λ (p : List (List ℕ)). is_protected p action && not (is_privileged caller)) (sym same) ∙ sym is ∙ gives

-- a broadcast of a protected action, and one that may be sent
module _ (caller : ℕ) (intent : Intent) (permission : Option (List ℕ)) (ordered : Option Ordered) where
  -- the action is protected from the caller
  abbrev pub is_withheld : State → Bool
  is_withheld state = is_protected state.board.protected intent.action && not (is_privileged caller)

  pub send_refused : (state : State) → is_withheld state ≡ true → send state caller intent permission ordered
      ≡ refused state rules.ProtectedAction
  unfolding send
  send_refused state is =
      ap (λ (b : Bool). cond b (refused state rules.ProtectedAction)
      (send_to state caller intent ordered (receivers state.board intent caller permission))) is

  pub send_goes : (state : State) → is_withheld state ≡ false → send state caller intent permission ordered
      ≡ send_to state caller intent ordered (receivers state.board intent caller permission)
  unfolding send
  send_goes state is =
      ap (λ (b : Bool). cond b (refused state rules.ProtectedAction)
      (send_to state caller intent ordered (receivers state.board intent caller permission))) is

  -- what the sending comes to that was made for the receivers that were found
  pub send_left : (old : State) (moment : ℕ) (offered : List Receiving) (sending : Sending) → is_withheld old ≡ false
      → offered ≡ receivers old.board intent caller permission
      → sending.now ≡ moment → sending ≡ sending_of (at_moment old moment) caller intent ordered offered
      → after_send (at_moment old sending.now) offered (model.send (at_moment old sending.now).broadcasts sending)
      ≡ send (at_moment old moment) caller intent permission ordered
  send_left old moment offered sending open_to found now made =
      ap (λ (m : ℕ). after_send (at_moment old m) offered (model.send (at_moment old m).broadcasts sending)) now
      ∙ ap (λ (s : Sending). after_send (at_moment old moment) offered (model.send (at_moment old moment).broadcasts s))
      made
      ∙ ap (send_to (at_moment old moment) caller intent ordered) found
      ∙ sym (send_goes (at_moment old moment) open_to)

-- whether the uid has as many as it may have
is_full : (count : ℕ) → 64 ≤ count → nat_le 64 count ≡ true
is_full count full = grind (arith, nat_tests)

has_room : (count : ℕ) → count < 64 → nat_le 64 count ≡ false
has_room count room = grind (arith, nat_tests)

-- a receiver that is registered, and one that isn't
module _ (state : State) (caller : ℕ) (filter_of : Filter) (permission : Option (List ℕ)) where
  -- the receiver under the next number
  abbrev pub next_receiver : Registration
  next_receiver = record { number = state.next_registration; uid = caller; filter = filter_of; permission = permission }

  -- what is answered and left with those registered
  abbrev pub left_with : List Registration → Reply × State
  left_with registered = (
    replies.Registered state.next_registration,
    record (with_registered state registered)
        { next_registration = state.next_registration + 1 },
  )

  pub register_refused : (count : ℕ) → count ≡ count_of state.board.registered caller → 64 ≤ count
      → register state caller filter_of permission ≡ refused state (rules.OverLimit limits.Registered)
  unfolding register
  register_refused count counted full =
      ap (λ (b : Bool). cond b (refused state (rules.OverLimit limits.Registered))
      (left_with (state.board.registered ++ next_receiver ∷ [])))
      (ap (nat_le 64) (sym counted) ∙ is_full count full)

  register_goes : (count : ℕ) → count ≡ count_of state.board.registered caller → count < 64
      → All (λ (r : Registration). r.number < state.next_registration) state.board.registered
      → register state caller filter_of permission ≡ left_with (place_registered next_receiver state.board.registered)
  unfolding register
  register_goes count counted room below =
      ap (λ (b : Bool). cond b (refused state (rules.OverLimit limits.Registered))
      (left_with (state.board.registered ++ next_receiver ∷ [])))
      (ap (nat_le 64) (sym counted) ∙ has_room count room)
      ∙ ap left_with (sym (place_last next_receiver state.board.registered below))

-- what is left with one more registered receiver
pub register_left : (state : State) (caller : ℕ) (filter_of : Filter) (permission : Option (List ℕ)) (count : ℕ)
    (made : Registration) (board : Board)
    → count ≡ count_of state.board.registered caller → count < 64 → All
    (λ (r : Registration). r.number < state.next_registration) state.board.registered
    → made ≡ next_receiver state caller filter_of permission → board
    ≡ record (state.board) { registered = place_registered made state.board.registered }
    → register state caller filter_of permission ≡ (
      replies.Registered state.next_registration,
      record state
          { board = board; next_registration = state.next_registration + 1 },
    )
register_left state caller filter_of permission count made board counted room below made_is board_is =
    register_goes state caller filter_of permission count counted room below
    ∙ ap (λ (r : Registration). left_with state caller filter_of permission (place_registered r state.board.registered))
    (sym made_is)
    ∙ ap (λ (b : Board). (
      replies.Registered state.next_registration,
      record state
          { board = b; next_registration = state.next_registration + 1 },
    )) (sym board_is)

-- a delivery that is finished at a moment, and one that isn't
module _ (old before : State) (moment caller delivery : ℕ) (answer passed : Answer)
    (same : before ≡ at_moment old moment) (copied : passed ≡ answer) where
  finish_is : finish (at_moment old moment) caller delivery answer
      ≡ after_finish before (model.finish before.broadcasts delivery caller passed moment)
  unfolding finish
  finish_is =
      ap (λ (a : Answer). after_finish (at_moment old moment) (model.finish (at_moment old moment).broadcasts delivery
      caller a moment)) (sym copied)
      ∙ ap (λ (s : State). after_finish s (model.finish s.broadcasts delivery caller passed moment)) (sym same)

  pub finish_done : (left : Broadcasts) → model.finish before.broadcasts delivery caller passed moment ≡ Ok left
      → finish (at_moment old moment) caller delivery answer ≡ done (record before { broadcasts = left })
  finish_done left is = finish_is ∙ ap (after_finish before) is

  pub finish_refused : (left : Broadcasts) (fault : FinishFault) (rule : Rule)
      → model.finish before.broadcasts delivery caller passed moment ≡ Err fault → left ≡ before.broadcasts
      → rule ≡ finish_rule fault → finish (at_moment old moment) caller delivery answer
      ≡ refused (record before { broadcasts = left }) rule
  finish_refused left fault rule is stays ruled =
      finish_is ∙ ap (after_finish before) is ∙ (λ i. refused (record before { broadcasts = sym stays i })
      (sym ruled i))

-- the registered receiver that is found has the number
found_number : (number : ℕ) (registered : List Registration) (found : Registration)
    → find (λ (r : Registration). r.number == number) registered ≡ Some found → found.number ≡ number
found_number number [] found is = absurd cc
found_number number (first ∷ others) found is = by (first.number == number) refl is (found_number number others found)
  where
    by : (b : Bool) → first.number == number ≡ b → cond b (Some first)
        (find (λ (r : Registration). r.number == number) others) ≡ Some found
        → (find (λ (r : Registration). r.number == number) others ≡ Some found → found.number ≡ number) → found.number
        ≡ number
    by true one is later = let e : first ≡ found = cc in ap (λ (r : Registration). r.number) (sym e)
        ∙ (unsigned_Decides first.number number).0 one
    by false one is later = later is

-- the state without a registered receiver
abbrev pub without_receiver : State → ℕ → State
without_receiver state taken =
    record (with_registered state (filter (λ (r : Registration). not (r.number == taken)) state.board.registered)) {
      broadcasts = model.forget_registered state.broadcasts taken state.moment;
    }

-- a registered receiver that is taken back, and one that isn't
module _ (state : State) (caller number : ℕ) where
  abbrev search_for : Option Registration
  search_for = find (λ (r : Registration). r.number == number) state.board.registered

  abbrev uid_of : Option Registration → Option ℕ
  uid_of found = option_map (λ (r : Registration). r.uid) found

  pub unregister_none : uid_of search_for ≡ None → unregister state caller number ≡ refused state rules.NoReceiver
  unfolding unregister
  unregister_none none = by search_for none
    where
      by : (found : Option Registration) → uid_of found ≡ None → unregister_found state caller found
          ≡ refused state rules.NoReceiver
      by None none = refl
      by (Some found) none = absurd cc

  pub unregister_other : (uid : ℕ) → uid_of search_for ≡ Some uid → (uid ≡ caller → ⊥) → unregister state caller number
      ≡ refused state rules.NotYours
  unfolding unregister
  unregister_other uid is other = by search_for is
    where
      by : (found : Option Registration) → uid_of found ≡ Some uid → unregister_found state caller found
          ≡ refused state rules.NotYours
      by None is = absurd cc
      by (Some found) is =
          let held : found.uid ≡ uid = cc in
          ap (λ (b : Bool). cond b (done (taken_back state found)) (refused state rules.NotYours))
          (is_other found.uid caller (λ e. other (sym held ∙ e)))

  pub unregister_own : (uid : ℕ) → uid_of search_for ≡ Some uid → uid ≡ caller → unregister state caller number
      ≡ done (without_receiver state number)
  unfolding unregister
  unregister_own uid is own = by search_for refl is
    where
      by : (found : Option Registration) → search_for ≡ found → uid_of found ≡ Some uid
          → unregister_found state caller found ≡ done (without_receiver state number)
      by None found is = absurd cc
      by (Some it) found is =
          let held : it.uid ≡ uid = cc in
          ap (λ (b : Bool). cond b (done (taken_back state it)) (refused state rules.NotYours))
          (is_one it.uid caller (held ∙ own))
          ∙ ap (λ (taken : ℕ). done (without_receiver state taken))
          (found_number number state.board.registered it found)

-- what the look-up of a number found, among those that are registered
pub held_among : (number : ℕ) (seen registered : List Registration) (holder found : Option ℕ)
    → holder ≡ option_map (λ (r : Registration). r.uid) (find (λ (r : Registration). r.number == number) seen) → seen
    ≡ registered → holder ≡ found
    → option_map (λ (r : Registration). r.uid) (find (λ (r : Registration). r.number == number) registered) ≡ found
held_among number seen registered holder found is same told =
    ap (λ (rs : List Registration). option_map (λ (r : Registration). r.uid)
    (find (λ (r : Registration). r.number == number) rs)) (sym same) ∙ sym is ∙ told

-- what is left without a registered receiver
pub taken_out : (state before : State) (number : ℕ) (board : Board) (queues : Broadcasts) → before ≡ state
    → board ≡ record (before.board) {
      registered = filter (λ (r : Registration). not (r.number == number))
          before.board.registered;
    }
    → queues ≡ model.forget_registered before.broadcasts number state.moment
    → done (without_receiver state number) ≡ done (record before { board = board; broadcasts = queues })
taken_out state before number board queues same board_is queues_are =
    ap (λ (s : State). done (record (with_registered s (filter (λ (r : Registration). not (r.number == number))
    s.board.registered)) { broadcasts = model.forget_registered s.broadcasts number state.moment })) (sym same)
    ∙ (λ i. done (record before { board = sym board_is i; broadcasts = sym queues_are i }))
