-- Which wrong programs the law on what an entry adds refuses.
use Rattle.std.proofs.Common.{◌≡◌, ℕ, sym, ap, ◌∙◌, ◌⊎◌, inl, inr}
use Rattle.std.specs.Prelude.{Some, None}
use Rattle.am_types.specs.declared.intent.Intent.{Intent}
use Rattle.am_types.specs.declared.task.Landed.{Landed}
use Rattle.am_types.specs.declared.task.Placed.{Placed}
use Rattle.am_types.specs.declared.task.Placed.TheVariants as how
use Rattle.am_types.specs.declared.history.Entry.{Entry}
use Rattle.am_types.specs.declared.request.Request.{Request}
use Rattle.am_types.specs.declared.request.Request.TheVariants as asks
use Rattle.am_types.specs.declared.reply.Reply.{Reply}
use Rattle.am_types.specs.declared.reply.Reply.TheVariants as replies
use Rattle.am_model.specs.Broadcasts.{Delivery}
use Rattle.am_model.specs.Tasks.{Task}
use Rattle.am_history.specs.State.{State, Service}
use Rattle.am_history.specs.Steps.{after_due}
use Rattle.am_laws.specs.Access.{Deed, deed_of, IsServed}
use Rattle.am_laws_access.specs.Intents.{HasDone}
use Rattle.am_laws_access.specs.Adds.{Addition, ADelivery, AnInstance, AService, AReceiver, AToken, APackage, Has, IsAddedBy, IsReachedBy, Adds}

-- an entry that does no deed has done nothing
no_deed : (state : State) (entry : Entry) (P : State → Deed → Type 0) → deed_of state entry.uid entry.request ≡ None
    → HasDone state entry P → ⊥
no_deed state entry P none has = let e : None ≡ Some has.deed = sym none ∙ has.did in absurd cc

module _ (before : State) (entry : Entry) (answer : Reply × State) (adds : Adds before entry answer) where
  abbrev due : State
  due = after_due before entry.now

  -- a delivery of a broadcast whose number isn't the next one was there: no earlier sending explains a new one
  pub no_delivery_of_an_earlier_number : (number sender : ℕ) (intent : Intent) (d : Delivery)
      → (number ≡ due.broadcasts.next_broadcast → ⊥)
      → Has answer.1 (ADelivery number sender intent d) → Has before (ADelivery number sender intent d)
  no_delivery_of_an_earlier_number number sender intent d earlier has = by
      (adds.own (ADelivery number sender intent d) has)
    where
      by : Has due (ADelivery number sender intent d) ⊎ IsAddedBy due entry (ADelivery number sender intent d)
          → Has before (ADelivery number sender intent d)
      by (inl was) = adds.due (ADelivery number sender intent d) was
      by (inr added) = absurd (earlier added.1)

  -- a service is there after an entry that didn't start it only if it was there just so: no start before a stop
  -- explains
  -- one behind it
  pub no_start_of_an_earlier_entry : (s : Service) → (HasDone due entry (IsServed s.component s.owner s.intent) → ⊥)
      → Has answer.1 (AService s) → Has before (AService s)
  no_start_of_an_earlier_entry s another has = by (adds.own (AService s) has)
    where
      by : Has due (AService s) ⊎ IsAddedBy due entry (AService s) → Has before (AService s)
      by (inl was) = adds.due (AService s) was
      by (inr added) = absurd (another added.0)

  -- an entry that ticks adds nothing
  pub nothing_by_a_tick : entry.request ≡ asks.Tick → (a : Addition) → Has answer.1 a → Has before a
  nothing_by_a_tick tick a has = by a (adds.own a has)
    where
      none : deed_of due entry.uid entry.request ≡ None
      none = ap (deed_of due entry.uid) tick

      other : (request : Request) → entry.request ≡ request → asks.Tick ≡ request
      other request is = sym tick ∙ is

      by : (a : Addition) → Has due a ⊎ IsAddedBy due entry a → Has before a
      by a (inl was) = adds.due a was
      by (ADelivery number sender intent d) (inr added) = absurd (no_deed due entry _ none added.0)
      by (AnInstance i) (inr given) = absurd (no_deed due entry _ none given)
      by (AService s) (inr added) = absurd (no_deed due entry _ none added.0)
      by (AReceiver r) (inr added) = let e = other _ added.asked in absurd cc
      by (AToken kept) (inr added) = let e = other _ added.request in absurd cc
      by (APackage p) (inr added) = let e = other _ added.asked in absurd cc

  module _ (none : deed_of due entry.uid entry.request ≡ None) where
    -- an entry that does no deed isn't answered that a start landed, also if the state is as it was: no other entry's start explains a new
    -- intent
    -- that is equal to the present one
    pub no_landing_without_a_deed : (landed : Landed) → answer.0 ≡ replies.Placed landed → ⊥
    no_landing_without_a_deed landed is = let one = adds.landing landed is in by one.front landed.instance landed.how
        one.reached
      where
        by : (front : Task) (number : ℕ) (placed : Placed) → IsReachedBy due entry front number placed → ⊥
        by front number how.Fresh reached = no_deed due entry _ none reached.3
        by front number how.NewIntent reached = no_deed due entry _ none reached.3
        by front number how.Fronted reached = no_deed due entry _ none reached.2
