use Rattle.std.proofs.Common.{◌≡◌, ◌∙◌, ℕ, ◌+◌, true, false, length, Some, List, [], ◌∷◌, ◌++◌, refl, sym, ap, subst, IsTrue}
use Rattle.am_types.specs.declared.history.Entry.{Entry}
use Rattle.am_types.specs.declared.history.Shown.{Shown}
use Rattle.am_types.specs.declared.reply.Reply.{Reply}
use Rattle.am_types.specs.declared.reply.Reply.TheVariants.{Refused}
use Rattle.am_types.specs.declared.rule.Rule.TheVariants.{HistoryFull, KeeperFault}
use Rattle.am_outside.specs.Counts.{HasRisen}
use Rattle.am_history.specs.Steps.{Call, step}
use Rattle.am_history.specs.State.{State, has_uid, uid_of}
use Rattle.am_history.specs.Numbers.{HasNumbers}
use Rattle.am_history.specs.History.{replay, may_change, has_room, entry_of}
use Rattle.am_history.specs.Desks.{Origin, opening_of, ShowsAt}
use Rattle.am_laws.proofs.Faults.{act_never_faults}
use Rattle.am_laws.proofs.Numbers.{enough_numbers}
use Rattle.am_laws_state.specs.Sound.{IsSoundState}
use Rattle.am_laws_state.proofs.Sound.{replay_is_sound}
use Rattle.am_machine.specs.Keeping.{Leaves, with_kept}
use Rattle.am_machine.specs.Managed.{Holds, HoldsKept, Managed, origin_at}
use Rattle.am_machine.proofs.Kept.{leaves_rowless, leaves_same, leaves_unmade, only_reads, otherwise, reads_keep_nothing}
use Rattle.am_machine.proofs.Stored.{stored_more, fault_is_unkept}
use Rattle.am_machine.proofs.Shown.{kept_shows}
use Rattle.am_machine.proofs.manager.Manager.counted.Goals as goal

-- what only reads has no row
pub returns-then-not-may_change-clause-leaves : goal.returns-then-not-may_change-clause-leaves
returns-then-not-may_change-clause-leaves g c =
    let state : State = replay (opening_of c.args.self.now.origin) c.args.self.now.history in
    leaves_rowless g.K.Keeper
    (record { state = state; request = c.args.call.now.request; reply = c.unstored.result.reply }) c.args.self.now.keeper
    (reads_keep_nothing c.args.call.now.request
    (only_reads state c.args.call.now.now c.args.call.now.request (sym c.may_change.ensures
    ∙ c.if-not-may_change.true)))

pub returns-in_err-reply-clause-unmade : goal.returns-in_err-reply-clause-unmade
returns-in_err-reply-clause-unmade g c =
    otherwise c.from_residual.result (leaves_unmade g.K.Keeper c.args.self.now.keeper)

-- and isn't answered by a fault
pub returns-then-not-may_change-clause-fault : goal.returns-then-not-may_change-clause-fault
returns-then-not-may_change-clause-fault g c = λ (faults : c.unstored.result.reply ≡ Refused KeeperFault).
    absurd (act_never_faults c.self.inside.live c.self.inside.history.entries c.args.call.now.uid
    c.args.call.now.request
    (ap (λ (answer : Reply × State). answer.0) c.in_ok-reply.ensures
    ∙ sym (ap (λ (shown : Shown). shown.reply) c.unstored.ensures) ∙ faults))

-- a full history refuses before the keeper is asked
pub returns-then-not-has_room-clause-leaves : goal.returns-then-not-has_room-clause-leaves
returns-then-not-has_room-clause-leaves g c =
    let state : State = replay (opening_of c.args.self.now.origin) c.args.self.now.history in
    subst (λ (shown : Shown). Leaves g.K.Keeper
    (record { state = state; request = c.args.call.now.request; reply = shown.reply }) c.args.self.now.keeper
    c.args.self.now.keeper) (sym c.unstored-then-not-has_room.ensures)
    (leaves_same g.K.Keeper
    (record { state = state; request = c.args.call.now.request; reply = Refused HistoryFull })
    c.args.self.now.keeper refl refl)

-- the live state is the one that the history leaves, so it has numbers for the call, and it is sound
pub answer-requires-clause-numbers : goal.answer-requires-clause-numbers
answer-requires-clause-numbers g c =
    subst HasNumbers c.self.invariant.0.replayed
    (enough_numbers (origin_at c.self.inside.opened (g.K.Keeper.place c.self.inside.keeper)) c.self.inside.history.entries
    c.self.invariant.0.few)

pub answer-requires-clause-sound : goal.answer-requires-clause-sound
answer-requires-clause-sound g c =
    subst IsSoundState c.self.invariant.0.replayed
    (replay_is_sound (origin_at c.self.inside.opened (g.K.Keeper.place c.self.inside.keeper)) c.self.inside.history.entries
    c.self.invariant.0.sound)

-- what the call left is held, and its entry stands behind the others
pub invariant_of-self-2 : goal.invariant_of-self-2
invariant_of-self-2 g c =
    let live = c.self.inside.live in
    let before = c.self.inside.history.entries in
    let call : Entry = with_kept c.args.call.now c.in_ok-answered.answered.kept in
    -- what is stored is the call's entry
    let is_call : c.set_kept.new.self ≡ call =
    c.set_kept.ensures ∙ ap (λ (e : Entry). with_kept e c.in_ok-answered.answered.kept) c.in_ok-stored.ensures.packed in
    let new = c.answer.new.keeper in
    let origin : Origin = origin_at c.self.inside.opened (g.K.Keeper.place new) in
    let put : c.push_reserved.new.self.entries ≡ before ++ call ∷ [] =
    c.push_reserved.ensures.entries ∙ ap (λ (l : List Entry). l ++ c.set_kept.new.self ∷ []) c.prepare.ensures.entries
    ∙ ap (λ (e : Entry). before ++ e ∷ []) is_call in
    let read : c.prepare.new.self.entries ≡ before = c.prepare.ensures.entries in
    -- what is known of the state and the history as they are seen holds of them inside
    let known : (P : State → List Entry → Type 0) → P (replay (opening_of c.args.self.now.origin)
    c.args.self.now.history) c.args.self.now.history → P live before =
    λ (P : State → List Entry → Type 0) (seen : P (replay (opening_of c.args.self.now.origin) c.args.self.now.history)
    c.args.self.now.history).
    subst (λ (s : State). P s before) c.self.invariant.0.replayed
    (subst (λ (m : Managed g.row.K.Denot). P (replay (opening_of m.origin) m.history) m.history) (sym c.self.view_is)
    seen) in
    subst (λ (l : List Entry). Holds origin c.answer.new.live l (c.self.inside.weight + c.from.result)
    × HoldsKept g.K.Keeper origin l new) (sym put)
    (subst (λ (n : ℕ). Holds origin c.answer.new.live (before ++ call ∷ []) (c.self.inside.weight + n)
    × HoldsKept g.K.Keeper origin (before ++ call ∷ []) new) (sym c.from.ensures)
    (stored_more g.K.Keeper c.self.inside.opened live c.answer.new.live before
    c.self.inside.weight call c.in_ok-answered.answered.reply c.self.inside.keeper new
    c.self.invariant
    (known (λ (s : State) (h : List Entry). IsTrue (has_uid s c.args.call.now.uid)) c.requires.caller)
    (known (λ (s : State) (h : List Entry). IsTrue (may_change s c.args.call.now.now c.args.call.now.request))
    (sym c.may_change.ensures ∙ c.if-not-may_change.false))
    (known (λ (s : State) (h : List Entry). IsTrue (has_room h c.args.call.now.weight))
    (sym c.has_room.ensures ∙ c.if-not-has_room.false))
    (rw read at c.in_ok-answered.ensures.asked)
    (ap (λ (l : List Entry). step live l call) (sym read) ∙ c.in_ok-answered.ensures.done)
    c.answer.ensures.keeper
    c.in_ok-answered.ensures.leaves.put
    c.in_ok-answered.ensures.fault))

-- so the history could have been made
pub returns-clause-legal : goal.returns-clause-legal
returns-clause-legal g c = (invariant_of-self-2 g c).0.legal

-- the keeper is the one that the call left
pub returns-clause-leaves : goal.returns-clause-leaves
returns-clause-leaves g c =
    let reply = c.in_ok-answered.answered.reply in
    subst (λ (m : Managed g.row.K.Denot). Leaves g.K.Keeper (record {
      state = replay (opening_of m.origin) m.history;
      request = c.args.call.now.request;
      reply = reply;
    }) m.keeper c.answer.new.keeper) c.self.view_is
    (subst (λ (s : State). Leaves g.K.Keeper
    (record { state = s; request = c.args.call.now.request; reply = reply }) c.self.inside.keeper c.answer.new.keeper)
    (sym c.self.invariant.0.replayed) c.in_ok-answered.ensures.leaves)

-- no request is itself answered by a fault, so the row wasn't kept
pub returns-clause-fault : goal.returns-clause-fault
returns-clause-fault g c = λ (faults : c.in_ok-answered.answered.reply ≡ Refused KeeperFault).
    let call : Entry = with_kept c.args.call.now c.in_ok-answered.answered.kept in
    -- what is stored is the call's entry
    let is_call : c.set_kept.new.self ≡ call =
    c.set_kept.ensures ∙ ap (λ (e : Entry). with_kept e c.in_ok-answered.answered.kept) c.in_ok-stored.ensures.packed in
    let unkept : c.in_ok-answered.answered.kept ≡ false =
    fault_is_unkept c.self.inside.live c.prepare.new.self.entries call (ap (λ (answer : Reply × State). answer.0)
    c.in_ok-answered.ensures.done ∙ faults) in
    let history : c.self.inside.history.entries ≡ c.args.self.now.history = ap
    (λ (m : Managed g.row.K.Denot). m.history)
    c.self.view_is in (
      subst (λ (m : Managed g.row.K.Denot). HasRisen (g.K.Keeper.faults m.keeper)
          (g.K.Keeper.faults c.answer.new.keeper)) c.self.view_is (c.in_ok-answered.ensures.fault unkept),
      (
        call,
        unkept,
        c.push_reserved.ensures.entries
            ∙ ap (λ (l : List Entry). l ++ c.set_kept.new.self ∷ []) (c.prepare.ensures.entries ∙ history)
            ∙ ap (λ (e : Entry). c.args.self.now.history ++ e ∷ []) is_call,
      ),
    )

-- what is shown is the reply at the end of the history, whether the row was kept or not
pub returns-clause-shown : goal.returns-clause-shown
returns-clause-shown g c = λ (asked : Call) (is : c.args.call.now ≡ entry_of asked c.args.call.now.uid true)
    (known : uid_of (replay (opening_of c.args.self.now.origin) c.args.self.now.history) asked.key
    ≡ Some c.args.call.now.uid).
    let start : State = opening_of c.args.self.now.origin in
    let before = c.args.self.now.history in
    let call : Entry = with_kept c.args.call.now c.in_ok-answered.answered.kept in
    -- what is stored is the call's entry
    let is_call : c.set_kept.new.self ≡ call =
    c.set_kept.ensures ∙ ap (λ (e : Entry). with_kept e c.in_ok-answered.answered.kept) c.in_ok-stored.ensures.packed in
    let inside : c.self.inside.history.entries ≡ before = ap (λ (m : Managed g.row.K.Denot). m.history) c.self.view_is
    in
    let read : c.prepare.new.self.entries ≡ before = c.prepare.ensures.entries ∙ inside in
    let put : c.push_reserved.new.self.entries ≡ before ++ call ∷ [] =
    c.push_reserved.ensures.entries
    ∙ ap (λ (l : List Entry). l ++ c.set_kept.new.self ∷ []) (c.prepare.ensures.entries ∙ inside)
    ∙ ap (λ (e : Entry). before ++ e ∷ []) is_call in
    let live : replay start before ≡ c.self.inside.live =
    subst (λ (m : Managed g.row.K.Denot). replay (opening_of m.origin) m.history ≡ c.self.inside.live) c.self.view_is
    c.self.invariant.0.replayed in
    let says : c.in_ok-answered.answered.reply ≡ (step (replay start before) before call).0 =
    sym (ap (λ (s : State). (step s before call).0) live
    ∙ ap (λ (l : List Entry). (step c.self.inside.live l call).0) (sym read)
    ∙ ap (λ (answer : Reply × State). answer.0) c.in_ok-answered.ensures.done) in
    let at : c.len-at.result ≡ length before =
    c.len-at.ensures ∙ ap (λ (l : List Entry). length l) (c.prepare.ensures.entries ∙ inside) in
    subst (λ (l : List Entry). ShowsAt start before l asked (record
    { at = c.len-at.result; stored = true; reply = c.in_ok-answered.answered.reply })) (sym put)
    (subst (λ (n : ℕ). ShowsAt start before (before ++ call ∷ []) asked
    (record { at = n; stored = true; reply = c.in_ok-answered.answered.reply })) (sym at)
    (subst (λ (r : Reply). ShowsAt start before (before ++ call ∷ []) asked
    (record { at = length before; stored = true; reply = r })) (sym says)
    (kept_shows start before asked c.args.call.now c.in_ok-answered.answered.kept is known
    (sym c.may_change.ensures ∙ c.if-not-may_change.false) (sym c.has_room.ensures ∙ c.if-not-has_room.false))))
