-- Each receiver of each broadcast was sent it by its sender, and was admitted.
use Rattle.std.proofs.Common.{◌≡◌, ℕ, true, false, not, ◌&&◌, List, [], ◌∷◌, ◌++◌, refl}
use Rattle.std.specs.Prelude.{All, Option, Some}
use Rattle.std.specs.List.{Contains}
use Rattle.std.proofs.lemmas.List.Elements.{All-weaker, All-contains_itself}
use Rattle.am_types.specs.declared.intent.Intent.{Intent}
use Rattle.am_types.specs.declared.broadcast.Spot.{Spot}
use Rattle.am_types.specs.declared.broadcast.Ordered.{Ordered}
use Rattle.am_types.specs.declared.history.Entry.{Entry}
use Rattle.am_model.specs.Gates.{is_privileged}
use Rattle.am_model.specs.Receivers.{receivers, admitted, is_protected}
use Rattle.am_history.specs.State.{State}
use Rattle.am_history.specs.BroadcastCalls.{sending_of}
use Rattle.am_history.specs.Steps.{after_due, moment_after, step}
use Rattle.am_history.specs.History.{replay}
use Rattle.am_history.specs.Desks.{Origin, opening_of}
use Rattle.am_laws.specs.Access.{Sends, deed_of, Once, IsSentTo, OfEach, AreSentByEntries}
use Rattle.am_laws_access.proofs.BroadcastSteps.{broadcast_steps}
use Rattle.am_laws.proofs.Requests.{Steps, step_leaves}
use Rattle.am_laws.proofs.Histories.{by_history, once_before, once_now}
use Rattle.am_laws.proofs.Openings.{opening_leaves}
use Rattle.am_laws_access.proofs.Receivers.{of_none, expired_of, finished_of, forget_of, forget_uid_of, sent_of, each_follows}

module _ (opening : State) where
  -- an entry leaves each receiver sent to by an entry
  sent_more : (before : List Entry) (entry : Entry) → AreSentByEntries opening before (replay opening before).broadcasts
      → AreSentByEntries opening (before ++ entry ∷ []) (step (replay opening before) before entry).1.broadcasts
  sent_more before entry here = step_leaves (λ (s : State). OfEach B s.broadcasts) (replay opening before) before entry
      passed steps
    where
      B : ℕ → Intent → Spot → Type 0
      B sender intent spot = Once opening (before ++ entry ∷ []) (IsSentTo sender intent spot)

      due : State
      due = after_due (replay opening before) entry.now

      passed : OfEach B due.broadcasts
      passed =
          expired_of B (replay opening before).broadcasts (moment_after (replay opening before) entry.now)
          (each_follows (λ sender intent spot. Once opening before (IsSentTo sender intent spot)) B
          (λ sender intent spot once. once_before opening before (IsSentTo sender intent spot) entry once)
          (replay opening before).broadcasts here)

      each : entry.kept ≡ true → (sender : ℕ) (intent : Intent) (permission : Option (List ℕ))
          (ordered : Option Ordered)
          → deed_of due entry.uid entry.request ≡ Some (Sends sender intent permission ordered)
          → is_protected due.board.protected intent.action && not (is_privileged sender) ≡ false
          → All (λ (spot : Spot). B sender intent spot) (admitted (receivers due.board intent sender permission))
      each kept sender intent permission ordered did unprotected =
          All-weaker (Contains all) (λ (spot : Spot). B sender intent spot)
          (λ spot one. once_now opening before (IsSentTo sender intent spot) entry
          (Sends sender intent permission ordered) kept did
          (record { permission = permission; ordered = ordered; is = refl; unprotected = unprotected; admitted = one }))
          all (All-contains_itself all)
        where
          all : List Spot
          all = admitted (receivers due.board intent sender permission)

      steps : entry.kept ≡ true → Steps (λ (s : State). OfEach B s.broadcasts) due entry.uid entry.request
      steps kept = broadcast_steps (OfEach B) due entry.uid entry.request (record {
        here = passed;
        sent = λ sender intent permission ordered did unprotected.
            sent_of B due.broadcasts (sending_of due sender intent ordered
            (receivers due.board intent sender permission)) ordered
            (each kept sender intent permission ordered did unprotected) passed;
        finished = λ number answer holder asked is own. finished_of B due.broadcasts number answer due.moment passed;
        forgotten = λ struck. forget_of B due.broadcasts struck due.moment passed;
        uid_forgotten = λ uid. forget_uid_of B due.broadcasts uid due.moment passed;
        advanced = λ moment. expired_of B due.broadcasts moment passed;
      })

-- after every history each receiver that has or had a broadcast was sent it by an entry, and was admitted
pub receivers_are_admitted : (origin : Origin) (history : List Entry)
    → AreSentByEntries (opening_of origin) history (replay (opening_of origin) history).broadcasts
receivers_are_admitted origin history =
    by_history (opening_of origin) (λ h state. AreSentByEntries (opening_of origin) h state.broadcasts)
    (opening_leaves (λ (state : State). OfEach (λ sender intent spot. Once (opening_of origin) []
    (IsSentTo sender intent spot)) state.broadcasts) (λ state board uid same of. of) origin
    (of_none (λ sender intent spot. Once (opening_of origin) [] (IsSentTo sender intent spot))))
    (sent_more (opening_of origin)) history
