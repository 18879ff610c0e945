-- How far the uids come: an entry takes at most the next one.
use Rattle.std.proofs.Common.{◌≡◌, ℕ, ◌+◌, ◌≤◌, List, [], ◌∷◌, ◌++◌, length, length-append, subst, arith}
use Rattle.am_types.specs.declared.history.Entry.{Entry}
use Rattle.am_types.specs.declared.request.Request.{Request}
use Rattle.am_history.specs.State.{State}
use Rattle.am_history.specs.Steps.{step, after_due}
use Rattle.am_history.specs.Desks.{Origin, opening_of}
use Rattle.am_history.specs.History.{replay}
use Rattle.am_laws.specs.Laws.{state_after}
use Rattle.am_laws.proofs.Histories.{by_history}
use Rattle.am_laws.proofs.Requests.{Steps, step_leaves}

-- the next uid is between these
abbrev Within : ℕ → ℕ → State → Type 0
Within low high state = (low ≤ state.next_uid) × (state.next_uid ≤ high)

-- each step takes the next uid, or none
uids_after : (low high : ℕ) (state : State) (caller : ℕ) (request : Request) → Within low high state
    → Steps (Within low (high + 1)) state caller request
uids_after low high state caller request is = record {
  here = here;
  started = λ uid intent source component found landed did is admits placed. here;
  served = λ uid intent component found did is admits. here;
  sent = λ sender intent permission ordered did unprotected. here;
  ended = λ keeps. here;
  unserved = λ keeps. here;
  registered = λ filter permission asked. here;
  taken_back = λ found. here;
  finished = λ number answer holder asked is own. here;
  got = λ kind code intent flags got asked given. here;
  changed = λ after left same one. one;
  installed = λ text key manifest asked admin read name_unused key_unused room. (omega (arith, is.0), omega (arith, is.1));
  gone = λ uid. here;
  stopped = λ uid. here;
  granted = λ uid permission held live room. here;
  linked = λ uid host approved live room. here;
  advanced = λ by fits. here;
}
  where
    here : Within low (high + 1) state
    here = (is.0, omega (arith, is.1))

-- after every history
pub uids_follow : (origin : Origin) (history : List Entry)
    → ((opening_of origin).next_uid ≤ (state_after origin history).next_uid)
    × ((state_after origin history).next_uid ≤ (opening_of origin).next_uid + length history)
uids_follow origin history =
    by_history (opening_of origin) (λ h state. Within first (first + length h) state) (omega arith, omega arith) more
    history
  where
    first : ℕ
    first = (opening_of origin).next_uid

    more : (before : List Entry) (entry : Entry) → Within first (first + length before)
        (replay (opening_of origin) before)
        → Within first (first + length (before ++ entry ∷ [])) (step (replay (opening_of origin) before) before entry).1
    more before entry is =
        let state = replay (opening_of origin) before in
        let same : first + length before + 1 ≡ first + length (before ++ entry ∷ []) =
        omega (arith, length-append before (entry ∷ [])) in
        subst (λ (n : ℕ). Within first n (step state before entry).1) same
        (step_leaves (Within first (first + length before + 1)) state before entry (is.0, omega (arith, is.1))
        (λ kept. uids_after first (first + length before) (after_due state entry.now) entry.uid entry.request is))
