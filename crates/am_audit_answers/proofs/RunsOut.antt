-- A frame whose call wasn't made: it is refused, or memory ran out.
use Rattle.std.proofs.Common.{◌≡◌, ℕ, ◌≤◌, Bool, true, false, List, ◌++◌, length, drop, refl, sym, ap, ◌∙◌, subst, inl, inr}
use Rattle.std.specs.Prelude.{◌⊎◌, Option, None, Result, Ok, Err}
use Rattle.std.proofs.lemmas.List.Prefix.{front_rest}
use Rattle.am_types.specs.declared.history.Entry.{Entry}
use Rattle.am_types.specs.declared.request.Request.{Request}
use Rattle.am_http.specs.declared.answer.Refusal.{Refusal}
use Rattle.am_http.specs.Exchanges.{Exchange, IsAnswer, Point, by_late_no_memory, by_refusal, by_reply, by_no_memory, floor_after}
use Rattle.am_frames.specs.Head.{Frame}
use Rattle.am_http.specs.Requests.{refusal_text, request_of}
use Rattle.am_http.specs.Responses.{no_memory_before}
use Rattle.am_audit_history.specs.Replays.{Replay}
use Rattle.am_audit_answers.specs.Judged.{IsAccepted, case_of, ground_of}
use Rattle.am_audit_answers.specs.Judging.{Answers, Asks, Case, OnlyRunsOut, Refuses}
use Rattle.am_audit_answers.specs.Matching.{IsReplayed}
use Rattle.am_audit_answers.proofs.TextLemmas.{refused_or_no_memory}

-- a test doesn't hold and fail
pub not_both : (b : Bool) → b ≡ true → b ≡ false → ⊥
not_both b holds fails = cc

-- the exchange of a frame whose call wasn't made
abbrev unmade : Frame → List ℕ → Exchange
unmade frame text = record { frame = frame; now = None; point = None; bytes = text }

-- a frame that has that response alone, without a call, is accepted by it
accepts_text : (history : List Entry) (replayed : Replay) (frame : Frame) (left text : List ℕ) (taken : ℕ)
    → IsReplayed (ground_of history replayed) replayed
    → IsAnswer replayed.start 0 history (unmade frame text)
    → ((e : Exchange) (rest : List ℕ) → Answers (case_of history replayed frame left) e rest
    → (e.point ≡ None) × (e.bytes ≡ text))
    → left ≡ text ++ drop (length text) left → length text ≤ length left → taken ≡ length text
    → IsAccepted (case_of history replayed frame left) (record { replayed = replayed; taken = taken })
accepts_text history replayed frame left text taken first answer only begins fits size = record {
  accepts = record {
    exchange = unmade frame text;
    answers = record {
      frame = refl;
      audited = record { desk = 0; answer = answer; timed = tt };
      above = tt;
      bytes = begins ∙ ap (λ (n : ℕ). text ++ drop n left) (sym size);
    };
    floor = refl;
    only = λ e rest answers.
        let is = only e rest answers in (
          sym (front_rest left text rest (answers.bytes ∙ ap (λ (l : List ℕ). l ++ rest) is.1))
              ∙ ap (λ (n : ℕ). drop n left) (sym size),
          ap (λ (o : Option Point). floor_after (length replayed.history) o) is.0,
        );
  };
  taken = subst (λ (n : ℕ). n ≤ length left) (sym size) fits;
  start = refl;
  replayed = first;
}

-- where memory ran out before the call
pub accepts_no_memory : (history : List Entry) (replayed : Replay) (frame : Frame) (left text : List ℕ) (taken : ℕ)
    → IsReplayed (ground_of history replayed) replayed → OnlyRunsOut (case_of history replayed frame left) → text
    ≡ no_memory_before
    → left ≡ text ++ drop (length text) left → length text ≤ length left → taken ≡ length text
    → IsAccepted (case_of history replayed frame left) (record { replayed = replayed; taken = taken })
accepts_no_memory history replayed frame left text taken first only is begins fits size =
    accepts_text history replayed frame left text taken first (by_no_memory refl is)
    (λ e rest answers. let wants = only e rest answers in (wants.0, wants.1 ∙ sym is)) begins fits size

pub refuses_no_memory : (history : List Entry) (replayed : Replay) (frame : Frame) (left text : List ℕ)
    → OnlyRunsOut (case_of history replayed frame left)
    → text ≡ no_memory_before → ((rest : List ℕ) → left ≡ text ++ rest → ⊥) → Refuses (case_of history replayed frame left)
refuses_no_memory history replayed frame left text only is none e rest answers =
    none rest (answers.bytes ∙ ap (λ (l : List ℕ). l ++ rest) ((only e rest answers).1 ∙ sym is))

-- a frame that makes no request
same_refusal : (read : Result Request Refusal) (one other : Refusal) → read ≡ Err one → read ≡ Err other → one ≡ other
same_refusal read one other first second = cc

no_request : (read : Result Request Refusal) (refused : Refusal) (request : Request) → read ≡ Err refused → read
    ≡ Ok request → ⊥
no_request read refused request refuses asks = absurd cc

module _ (c : Case) (text : List ℕ) (asked : Asks c.frame (Err text)) where
  -- has the text that refuses it, or says that memory ran out
  refused_or : (e : Exchange) (rest : List ℕ) → Answers c e rest → (e.point ≡ None)
      × ((e.bytes ≡ text) ⊎ (e.bytes ≡ no_memory_before))
  refused_or e rest answers = by answers.audited.answer
    where
      by : IsAnswer c.ground.start answers.audited.desk c.ground.history e → (e.point ≡ None)
          × ((e.bytes ≡ text) ⊎ (e.bytes ≡ no_memory_before))
      by (by_refusal refused refuses never none is) =
          let same : refused ≡ asked.0 = same_refusal (request_of e.frame) refused asked.0 refuses
          (ap request_of answers.frame ∙ asked.1) in
          (none, inl (is ∙ (ap refusal_text same ∙ sym asked.2)))
      by (by_reply called is) = absurd (no_request (request_of e.frame) asked.0 called.request
          (ap request_of answers.frame ∙ asked.1) called.asks)
      by (by_no_memory none is) = (none, inr is)
      by (by_late_no_memory called is) = absurd (no_request (request_of e.frame) asked.0 called.request
          (ap request_of answers.frame ∙ asked.1) called.asks)

  -- has the text alone, if the bytes begin with it
  only_refused : (behind : List ℕ) → c.left ≡ text ++ behind
      → (e : Exchange) (rest : List ℕ) → Answers c e rest → (e.point ≡ None) × (e.bytes ≡ text)
  only_refused behind begins e rest answers = (is.0, by is.1)
    where
      is : (e.point ≡ None) × ((e.bytes ≡ text) ⊎ (e.bytes ≡ no_memory_before))
      is = refused_or e rest answers

      by : (e.bytes ≡ text) ⊎ (e.bytes ≡ no_memory_before) → e.bytes ≡ text
      by (inl refuses) = refuses
      by (inr wants) =
          absurd (refused_or_no_memory asked.0 behind rest
          (ap (λ (l : List ℕ). l ++ behind) (sym asked.2) ∙ (sym begins
          ∙ (answers.bytes ∙ ap (λ (l : List ℕ). l ++ rest) wants))))

  -- and says that memory ran out, if they don't
  pub refused_wants : ((rest : List ℕ) → c.left ≡ text ++ rest → ⊥) → OnlyRunsOut c
  refused_wants none e rest answers = (is.0, by is.1)
    where
      is : (e.point ≡ None) × ((e.bytes ≡ text) ⊎ (e.bytes ≡ no_memory_before))
      is = refused_or e rest answers

      by : (e.bytes ≡ text) ⊎ (e.bytes ≡ no_memory_before) → e.bytes ≡ no_memory_before
      by (inl refuses) = absurd (none rest (answers.bytes ∙ ap (λ (l : List ℕ). l ++ rest) refuses))
      by (inr wants) = wants

pub accepts_refused : (history : List Entry) (replayed : Replay) (frame : Frame) (left text : List ℕ) (taken : ℕ)
    → IsReplayed (ground_of history replayed) replayed → Asks frame (Err text)
    → left ≡ text ++ drop (length text) left → length text ≤ length left → taken ≡ length text
    → IsAccepted (case_of history replayed frame left) (record { replayed = replayed; taken = taken })
accepts_refused history replayed frame left text taken first asked begins fits size =
    accepts_text history replayed frame left text taken first (by_refusal asked.0 asked.1 refl refl asked.2)
    (only_refused (case_of history replayed frame left) text asked (drop (length text) left) begins) begins fits size
