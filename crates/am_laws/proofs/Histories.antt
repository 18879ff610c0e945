-- What is kept by each entry holds after every history.
use Rattle.std.proofs.Common.{◌≡◌, List, [], ◌∷◌, ◌++◌, refl, sym, ap, ◌∙◌, subst, true, append_assoc, append-nil}
use Rattle.std.specs.Prelude.{Some}
use Rattle.am_types.specs.declared.history.Entry.{Entry}
use Rattle.am_history.specs.State.{State}
use Rattle.am_history.specs.Steps.{after_due, step}
use Rattle.am_history.specs.History.{replay}
use Rattle.am_history.proofs.Places.{replay_more}
use Rattle.am_laws.specs.Access.{Deed, deed_of, Once}

module _ (opening : State) (I : List Entry → State → Type 0) where
  -- after entries behind others
  kept_from : ((before : List Entry) (entry : Entry) → I before (replay opening before)
      → I (before ++ entry ∷ []) (step (replay opening before) before entry).1)
      → (before entries : List Entry) → I before (replay opening before)
      → I (before ++ entries) (replay opening (before ++ entries))
  kept_from more before [] here = subst (λ (h : List Entry). I h (replay opening h)) (sym (append-nil before)) here
  kept_from more before (entry ∷ others) here =
      let next : I (before ++ entry ∷ []) (replay opening (before ++ entry ∷ [])) =
      subst (λ (s : State). I (before ++ entry ∷ []) s) (sym (replay_more opening before entry))
      (more before entry here) in
      subst (λ (h : List Entry). I h (replay opening h)) (append_assoc before (entry ∷ []) others)
      (kept_from more (before ++ entry ∷ []) others next)

  -- what holds at the opening, and is kept by each entry
  pub by_history : I [] opening
      → ((before : List Entry) (entry : Entry) → I before (replay opening before)
      → I (before ++ entry ∷ []) (step (replay opening before) before entry).1)
      → (history : List Entry) → I history (replay opening history)
  by_history here more history = kept_from more [] history here

-- what an entry did it did also in a longer history
abbrev pub once_before : (opening : State) (history : List Entry) (P : State → Deed → Type 0) (entry : Entry)
    → Once opening history P → Once opening (history ++ entry ∷ []) P
once_before opening history P entry once = record {
  before = once.before;
  at = once.at;
  after = once.after ++ entry ∷ [];
  splits = ap (λ (h : List Entry). h ++ entry ∷ []) once.splits ∙ append_assoc once.before (once.at ∷ once.after)
      (entry ∷ []);
  kept = once.kept;
  deed = once.deed;
  did = once.did;
  holds = once.holds;
}

-- what the last entry did
abbrev pub once_now : (opening : State) (history : List Entry) (P : State → Deed → Type 0) (entry : Entry) (deed : Deed)
    → entry.kept ≡ true
    → deed_of (after_due (replay opening history) entry.now) entry.uid entry.request ≡ Some deed
    → P (after_due (replay opening history) entry.now) deed
    → Once opening (history ++ entry ∷ []) P
once_now opening history P entry deed kept did holds =
    record { before = history; at = entry; after = []; splits = refl; kept = kept; deed = deed; did = did; holds = holds }
