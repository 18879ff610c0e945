-- Whatever an entry adds is a deed of this entry, which was admitted in the state before it.
use Rattle.std.proofs.Common.{◌≡◌, ℕ, Bool, true, false, not, ◌&&◌, cond, List, refl, sym, ap, ◌∙◌, subst, ◌⊎◌, inl, inr}
use Rattle.std.specs.Prelude.{All, Option, Some, None}
use Rattle.std.specs.List.{Contains}
use Rattle.std.proofs.lemmas.Bool.{false≢true}
use Rattle.std.proofs.lemmas.List.Elements.{All-weaker, All-contains, All-contains_itself, Contains-get_or}
use Rattle.am_types.specs.declared.intent.Intent.{Intent}
use Rattle.am_types.specs.declared.broadcast.Spot.{Spot}
use Rattle.am_types.specs.declared.device.Package.{Package}
use Rattle.am_types.specs.declared.resolve.Registration.{Registration}
use Rattle.am_types.specs.declared.broadcast.Ordered.{Ordered}
use Rattle.am_types.specs.declared.task.Landed.{Landed}
use Rattle.am_types.specs.declared.history.Entry.{Entry}
use Rattle.am_types.specs.declared.reply.Reply.{Reply}
use Rattle.am_types.specs.declared.reply.Reply.TheVariants.{Placed, Refused}
use Rattle.am_types.specs.declared.rule.Rule.TheVariants.{KeeperFault}
use Rattle.am_model.specs.Gates.{is_privileged}
use Rattle.am_model.specs.Receivers.{receivers, admitted, is_protected}
use Rattle.am_model.specs.Broadcasts.{Normal, Delivery}
use Rattle.am_model.specs.Pendings.{Pending}
use Rattle.am_model.specs.Tasks.{Instance, Task}
use Rattle.am_history.specs.State.{State, Service}
use Rattle.am_history.specs.BroadcastCalls.{sending_of}
use Rattle.am_history.specs.PendingCalls.{used_up}
use Rattle.am_history.specs.Steps.{act, after_due, moment_after, step}
use Rattle.am_history.specs.History.{replay}
use Rattle.am_history.specs.Desks.{Origin, opening_of}
use Rattle.am_history.proofs.Places.{replay_more}
use Rattle.am_laws.specs.Access.{Sends, deed_of, OfInstances}
use Rattle.am_laws.specs.Laws.{state_after, answer_after}
use Rattle.am_laws.proofs.Outcomes.{is_other, Comes, refuses, lands, tells, ActComes, acts, uses, act_comes}
use Rattle.am_laws.proofs.Requests.{Steps, step_leaves}
use Rattle.am_laws_access.specs.Intents.{IsAmong, HasDone}
use Rattle.am_laws_access.specs.Adds.{Addition, ADelivery, AnInstance, AService, AReceiver, AToken, APackage, IsDeliveryOf, Has, IsSentAtOnce, IsAddedBy, IsLanding, Adds}
use Rattle.am_laws_access.proofs.AccessOfComponents.{all_known}
use Rattle.am_laws_access.proofs.BroadcastSteps.{broadcast_steps}
use Rattle.am_laws_access.proofs.Deliveries.{OfDeliveries, expired_of, finished_of, forget_of, forget_uid_of, sent_of}
use Rattle.am_laws_access.proofs.Intents.{given, start_lands}
use Rattle.am_laws_access.proofs.KnownComponents.{Known}
use Rattle.am_laws_access.proofs.Listed.{IsListed, all_listed}
use Rattle.am_laws_access.proofs.Served.{served}

-- each delivery is one of its broadcast
each_delivery : (normal : List Normal) → OfDeliveries (IsDeliveryOf normal) normal
each_delivery normal = λ k n below i d low. record {
  broadcast = _;
  one = Contains-get_or normal k n below;
  numbered = refl;
  sent_by = refl;
  carries = refl;
  delivery = Contains-get_or _ i d low;
}

-- what holds of all holds of each
of_delivery : (D : ℕ → ℕ → Intent → Delivery → Type 0) (normal : List Normal) → OfDeliveries D normal
    → (number sender : ℕ) (intent : Intent) (d : Delivery) → IsDeliveryOf normal number sender intent d
    → D number sender intent d
of_delivery D normal all number sender intent d is =
    let n = is.broadcast in
    let each : All (λ (e : Delivery). D n.number n.sender n.intent e) n.deliveries =
    All-contains (λ (m : Normal). All (λ (e : Delivery). D m.number m.sender m.intent e) m.deliveries) normal n all
    is.one in
    subst (λ (k : ℕ). D k sender intent d) is.numbered
    (subst (λ (u : ℕ). D n.number u intent d) is.sent_by
    (subst (λ (i : Intent). D n.number n.sender i d) is.carries
    (All-contains (λ (e : Delivery). D n.number n.sender n.intent e) n.deliveries d each is.delivery)))

of_instance : (Q : Instance → Type 0) (tasks : List Task) → OfInstances Q tasks → (i : Instance) → IsAmong tasks i → Q i
of_instance Q tasks all i is =
    All-contains Q is.task.instances i (All-contains (λ (task : Task). All Q task.instances) tasks is.task all is.one)
    is.instance

module _ (opening : State) (h : List Entry) (entry : Entry) (known : Known opening h (replay opening h)) where
  abbrev due : State
  due = after_due (replay opening h) entry.now

  -- the delivery was there before, or the entry sent it
  abbrev D : ℕ → ℕ → Intent → Delivery → Type 0
  D number sender intent d = IsDeliveryOf due.broadcasts.normal number sender intent d ⊎ IsAddedBy due entry
      (ADelivery number sender intent d)

  here : OfDeliveries D due.broadcasts.normal
  here =
      All-weaker (λ (n : Normal). All (λ (d : Delivery). IsDeliveryOf due.broadcasts.normal n.number n.sender n.intent
      d) n.deliveries)
      (λ (n : Normal). All (λ (d : Delivery). D n.number n.sender n.intent d) n.deliveries)
      (λ n each. All-weaker (λ (d : Delivery). IsDeliveryOf due.broadcasts.normal n.number n.sender n.intent d)
      (λ (d : Delivery). D n.number n.sender n.intent d)
      (λ d one. inl one) n.deliveries each)
      due.broadcasts.normal (each_delivery due.broadcasts.normal)

  -- a broadcast is sent at once to those that are admitted
  sent_to : entry.kept ≡ true → (sender : ℕ) (intent : Intent) (permission : Option (List ℕ)) (ordered : Option Ordered)
      → deed_of due entry.uid entry.request ≡ Some (Sends sender intent permission ordered)
      → is_protected due.board.protected intent.action && not (is_privileged sender) ≡ false → ordered ≡ None
      → All (λ (spot : Spot). (delivery deadline : ℕ)
      → D due.broadcasts.next_broadcast sender intent (record { number = delivery; spot = spot; deadline = deadline }))
      (admitted (receivers due.board intent sender permission))
  sent_to kept sender intent permission ordered did unprotected at_once =
      All-weaker (Contains all) (λ (spot : Spot). (delivery deadline : ℕ)
      → D due.broadcasts.next_broadcast sender intent (record {
        number = delivery;
        spot = spot;
        deadline = deadline;
      }))
      (λ spot one delivery deadline. inr (by spot one, refl)) all (All-contains_itself all)
    where
      all : List Spot
      all = admitted (receivers due.board intent sender permission)

      by : (spot : Spot) → Contains all spot → HasDone due entry (IsSentAtOnce sender intent spot)
      by spot one = record {
        kept = kept;
        deed = Sends sender intent permission ordered;
        did = did;
        holds = record {
          permission = permission;
          is = ap (λ (o : Option Ordered). Sends sender intent permission o) at_once;
          unprotected = unprotected;
          admitted = one;
        };
      }

  delivery_steps : entry.kept ≡ true → Steps (λ (s : State). OfDeliveries D s.broadcasts.normal) due entry.uid
      entry.request
  delivery_steps kept = broadcast_steps (λ all. OfDeliveries D all.normal) due entry.uid entry.request (record {
    here = here;
    sent = λ sender intent permission ordered did unprotected.
        sent_of D due.broadcasts (sending_of due sender intent ordered (receivers due.board intent sender permission))
        ordered
        (sent_to kept sender intent permission ordered did unprotected) here;
    finished = λ number answer holder asked is own. finished_of D due.broadcasts number answer due.moment here;
    forgotten = λ struck. forget_of D due.broadcasts struck due.moment here;
    uid_forgotten = λ uid. forget_uid_of D due.broadcasts uid due.moment here;
    advanced = λ moment. expired_of D due.broadcasts moment here;
  })

  listed : IsListed (replay opening h) entry (step (replay opening h) h entry).1
  listed = all_listed (replay opening h) h entry

  -- what is there after the entry was there at its moment, or the entry added it
  own : (a : Addition) → Has (step (replay opening h) h entry).1 a → Has due a ⊎ IsAddedBy due entry a
  own (ADelivery number sender intent d) has =
      of_delivery D (step (replay opening h) h entry).1.broadcasts.normal
      (step_leaves (λ (s : State). OfDeliveries D s.broadcasts.normal) (replay opening h) h entry here delivery_steps)
      number sender intent d has
  own (AnInstance i) has =
      of_instance (λ (j : Instance). Has due (AnInstance j) ⊎ IsAddedBy due entry (AnInstance j))
      (step (replay opening h) h entry).1.tasks.tasks
      (given opening h entry known) i has
  own (AService s) has =
      All-contains (λ (t : Service). Has due (AService t) ⊎ IsAddedBy due entry (AService t))
      (step (replay opening h) h entry).1.services s
      (served opening h entry known) has
  own (AReceiver r) has = All-contains (λ (other : Registration). Has due (AReceiver other) ⊎ IsAddedBy due entry
      (AReceiver other)) (step (replay opening h) h entry).1.board.registered r listed.registered has
  own (AToken kept) has = All-contains (λ (other : Pending). Has due (AToken other) ⊎ IsAddedBy due entry
      (AToken other)) (step (replay opening h) h entry).1.pendings.records (record kept { holders = has.0 })
      listed.tokens has.1
  own (APackage p) has = All-contains (λ (other : Package). Has due (APackage other) ⊎ IsAddedBy due entry
      (APackage other)) (step (replay opening h) h entry).1.board.packages (record p { stopped = has.0 })
      listed.packages has.1

  -- what is there at its moment was there before
  passing : (a : Addition) → Has due a → Has (replay opening h) a
  passing (ADelivery number sender intent d) has =
      of_delivery (IsDeliveryOf (replay opening h).broadcasts.normal) due.broadcasts.normal
      (expired_of (IsDeliveryOf (replay opening h).broadcasts.normal) (replay opening h).broadcasts
      (moment_after (replay opening h) entry.now)
      (each_delivery (replay opening h).broadcasts.normal)) number sender intent d has
  passing (AnInstance i) has = has
  passing (AService s) has = has
  passing (AReceiver r) has = has
  passing (AToken kept) has = has
  passing (APackage p) has = has

  -- a start that landed was the entry's own
  deed_lands : entry.kept ≡ true → (next : Reply × State) → Comes due (deed_of due entry.uid entry.request) next
      → (landed : Landed) → next.0 ≡ Placed landed
      → (after : State) → after.tasks ≡ next.1.tasks → IsLanding due entry after landed
  deed_lands kept next (refuses rule other) landed is after left = absurd cc
  deed_lands kept next (tells reply state other) landed is after left = absurd
      (false≢true (sym (ap is_other is) ∙ other))
  deed_lands kept next (lands uid intent source component found result did is_declared admits placed) landed is after
      left =
      let same : result.0 ≡ landed = cc in
      subst (IsLanding due entry after) same (start_lands opening h entry known uid intent source component found kept
      did is_declared admits result placed after left)

  request_lands : entry.kept ≡ true → (next : Reply × State) → ActComes due entry.uid entry.request next
      → (landed : Landed) → next.0 ≡ Placed landed
      → IsLanding due entry next.1 landed
  request_lands kept next (acts after stays comes) landed is = deed_lands kept after comes landed is after.1 refl
  request_lands kept next (uses token fill used after asked was once comes) landed is = deed_lands kept after comes
      landed is (used_up token used.creator after).1 refl

  landing : (landed : Landed) → (step (replay opening h) h entry).0 ≡ Placed landed
      → IsLanding due entry (step (replay opening h) h entry).1 landed
  landing landed is = by entry.kept refl is
    where
      by : (kept : Bool) → entry.kept ≡ kept → (cond kept (act due h entry.uid entry.request)
          (Refused KeeperFault, due)).0 ≡ Placed landed
          → IsLanding due entry (cond kept (act due h entry.uid entry.request) (Refused KeeperFault, due)).1 landed
      by true kept is = request_lands kept (act due h entry.uid entry.request) (act_comes due h entry.uid entry.request)
          landed is
      by false kept is = absurd cc

  adds : Adds (replay opening h) entry (step (replay opening h) h entry)
  adds = record { due = passing; own = own; landing = landing }

-- after every history
pub entries_add_their_deeds : (origin : Origin) (history : List Entry) (entry : Entry)
    → Adds (state_after origin history) entry (answer_after origin history entry)
entries_add_their_deeds origin history entry =
    subst (λ (s : State). Adds (state_after origin history) entry (
      (step (state_after origin history) history entry).0,
      s,
    )) (sym (replay_more (opening_of origin) history entry))
    (adds (opening_of origin) history entry (all_known origin history))
