-- What the texts of responses begin with, and which of them the same bytes can't begin with.
use Rattle.std.proofs.Common.{◌≡◌, ℕ, ◌<◌, ◌≤◌, ◌^◌, Bool, true, false, eqb, cond, List, [], ◌∷◌, ◌++◌, length, take, drop, refl, sym, ap, ◌∙◌, subst, inl, inr, append_assoc, length-append, arith, rules, codes}
use Rattle.std.specs.Prelude.{◌⊎◌, Option, Some, None, IsSome}
use Rattle.std.specs.List.{AllByRecursion}
use Rattle.std.proofs.Math.Seq.{take-append_seam}
use Rattle.std.proofs.lemmas.Bool.{eqb-true}
use Rattle.std.proofs.lemmas.List.Prefix.{front_rest}
use Rattle.serde_json.specs.Written.{compact_text}
use Rattle.am_types.specs.declared.reply.Reply.{Reply}
use Rattle.am_types.specs.declared.reply.Reply.TheVariants as says
use Rattle.am_types.specs.declared.rule.Rule.{Rule}
use Rattle.am_types.specs.declared.rule.Rule.TheVariants as rule
use Rattle.am_wire_fields.specs.Printing.{printed}
use Rattle.am_wire_values.specs.Replies.{reply_data, status_of}
use Rattle.am_wire_values.specs.Rules.{error_data}
use Rattle.am_http.specs.declared.answer.Refusal.{Refusal}
use Rattle.am_http.specs.declared.answer.Refusal.TheVariants.{NoRoute, NoMethod, BadRequest}
use Rattle.am_http.specs.Requests.{refusal_text}
use Rattle.am_http.specs.Responses.{head, message, phrase_in, phrases, place_lines, refusal, response, no_memory_at, no_memory_before, no_memory_body}
use Rattle.am_http.proofs.Phrases.{every_status_has_a_phrase}
use Rattle.am_audit_answers.specs.Marks.{HasMark, HasNoMark}
use Rattle.am_audit_answers.proofs.Lines.{same_status}

-- no rule has the status that says that memory ran out
rule_status_is_not_507 : (r : Rule) → eqb (status_of (says.Refused r)) 507 ≡ false
rule_status_is_not_507 rule.UnknownKey = refl
rule_status_is_not_507 r = refl

status_is_not_507 : (reply : Reply) → eqb (status_of reply) 507 ≡ false
status_is_not_507 (says.Refused r) = rule_status_is_not_507 r
status_is_not_507 reply = refl

-- no reply has the status that says that memory ran out
pub no_reply_wants : (reply : Reply) → status_of reply ≡ 507 → ⊥
no_reply_wants reply is =
    let test : true ≡ false = sym (ap (λ (n : ℕ). eqb n 507) is) ∙ status_is_not_507 reply in
    absurd cc

-- a status with a phrase is small
row_is_small : (rows : List (ℕ × List ℕ)) (status : ℕ) → AllByRecursion (λ (row : ℕ × List ℕ). row.0 < 1000) rows
    → IsSome (phrase_in rows status)
    → status < 1000
row_is_small [] status all has = absurd cc
row_is_small (row ∷ rows) status all has = by (eqb status row.0) refl (row_is_small rows status all.1) has
  where
    by : (t : Bool) → eqb status row.0 ≡ t → (IsSome (phrase_in rows status) → status < 1000)
        → IsSome (cond t (Some row.1) (phrase_in rows status)) → status < 1000
    by true is later found =
        let same : status ≡ row.0 = eqb-true status row.0 is in
        subst (λ (n : ℕ). n < 1000) (sym same) all.0
    by false is later found = later found

pub status_is_small : (reply : Reply) → status_of reply < 1000
status_is_small reply = row_is_small phrases (status_of reply) (search rules) (every_status_has_a_phrase reply)

-- the parts of a message, with more behind it
pub message_is : (status : ℕ) (lines body rest : List ℕ)
    → message status lines body ++ rest ≡ head status (length body) ++ (lines ++ ((codes "\r\n" ++ body) ++ rest))
unfolding message
message_is status lines body rest =
    append_assoc (head status (length body)) (lines ++ (codes "\r\n" ++ body)) rest
    ∙ ap (λ (l : List ℕ). head status (length body) ++ l) (append_assoc lines (codes "\r\n" ++ body) rest)

-- its body is no longer than the bytes that begin with it
body_fits : (status n : ℕ) (lines body rest bytes : List ℕ) → bytes ≡ message status lines body ++ rest
    → length bytes < n → length body < n
body_fits status n lines body rest bytes is few =
    let whole : length bytes ≡ length (head status (length body) ++ (lines ++ ((codes "\r\n" ++ body) ++ rest))) =
    ap (λ (l : List ℕ). length l) (is ∙ message_is status lines body rest) in
    let first = length-append (head status (length body)) (lines ++ ((codes "\r\n" ++ body) ++ rest)) in
    let second = length-append lines ((codes "\r\n" ++ body) ++ rest) in
    let third = length-append (codes "\r\n" ++ body) rest in
    let fourth = length-append (codes "\r\n") body in
    omega arith

-- a message with the lines of a place has that mark
message_marked : (status at : ℕ) (stored : Bool) (body rest bytes : List ℕ) → status < 2 ^ 64 → at < 2 ^ 64
    → length bytes < 2 ^ 64
    → bytes ≡ message status (place_lines at stored) body ++ rest → HasMark bytes at stored
message_marked status at stored body rest bytes small fits few is = record {
  status = status;
  length = length body;
  rest = (codes "\r\n" ++ body) ++ rest;
  fits = (small, body_fits status (2 ^ 64) (place_lines at stored) body rest bytes is few, fits);
  begins = is ∙ message_is status (place_lines at stored) body rest;
}

-- a response has the mark of its place
pub response_marked : (at : ℕ) (stored : Bool) (reply : Reply) (rest bytes : List ℕ) → at < 2 ^ 64
    → length bytes < 2 ^ 64
    → bytes ≡ response at stored reply ++ rest → HasMark bytes at stored
unfolding response
response_marked at stored reply rest bytes fits few is =
    let small : status_of reply < 2 ^ 64 = omega (arith, status_is_small reply) in
    message_marked (status_of reply) at stored (compact_text (reply_data reply)) rest bytes small fits few is

-- and so has the response where memory ran out after the call
pub no_memory_at_marked : (at : ℕ) (stored : Bool) (rest bytes : List ℕ) → at < 2 ^ 64 → length bytes < 2 ^ 64
    → bytes ≡ no_memory_at at stored ++ rest → HasMark bytes at stored
unfolding no_memory_at
no_memory_at_marked at stored rest bytes fits few is = message_marked 507 at stored no_memory_body rest bytes (omega arith)
    fits few is

-- where memory ran out before the call there is none
pub no_memory_before_unmarked : (rest bytes : List ℕ) → length bytes < 2 ^ 64 → bytes ≡ no_memory_before ++ rest → HasNoMark bytes
unfolding no_memory_before
no_memory_before_unmarked rest bytes few is = record {
  status = 507;
  length = length no_memory_body;
  rest = (codes "\r\n" ++ no_memory_body) ++ rest;
  fits = (omega arith, body_fits 507 (2 ^ 64) (codes "AM-Stored: 0\r\n") no_memory_body rest bytes is few);
  begins = is ∙ message_is 507 (codes "AM-Stored: 0\r\n") no_memory_body rest;
}

-- messages that begin the same bytes have one status
messages_agree : (s t : ℕ) (lines body rest lines' body' rest' : List ℕ) → s < 2 ^ 64 → t < 2 ^ 64
    → message s lines body ++ rest ≡ message t lines' body' ++ rest' → s ≡ t
messages_agree s t lines body rest lines' body' rest' fits few is =
    same_status s t (length body) (length body') (lines ++ ((codes "\r\n" ++ body) ++ rest))
    (lines' ++ ((codes "\r\n" ++ body') ++ rest')) fits few
    (sym (message_is s lines body rest) ∙ (is ∙ message_is t lines' body' rest'))

-- no bytes begin with a response and with one where memory ran out after the call
pub response_or_no_memory : (at at' : ℕ) (stored stored' : Bool) (reply : Reply) (rest rest' : List ℕ)
    → response at stored reply ++ rest ≡ no_memory_at at' stored' ++ rest' → ⊥
unfolding response no_memory_at
response_or_no_memory at at' stored stored' reply rest rest' is =
    no_reply_wants reply (messages_agree (status_of reply) 507 (place_lines at stored) (compact_text (reply_data reply))
    rest
    (place_lines at' stored') no_memory_body rest' (omega (arith, status_is_small reply)) (omega arith) is)

-- nor with a refusal and with one where memory ran out before the call
refusal_or_no_memory : (status : ℕ) (error : List ℕ) (name : Option (List ℕ)) (rest rest' : List ℕ) → status < 507
    → refusal status error name ++ rest ≡ no_memory_before ++ rest' → ⊥
unfolding refusal no_memory_before
refusal_or_no_memory status error name rest rest' small is =
    let same : status ≡ 507 =
    messages_agree status 507 [] (compact_text (error_data error name)) rest (codes "AM-Stored: 0\r\n") no_memory_body rest'
    (omega arith) (omega arith) is in
    absurd (omega arith)

pub refused_or_no_memory : (refused : Refusal) (rest rest' : List ℕ) → refusal_text refused ++ rest ≡ no_memory_before ++ rest'
    → ⊥
refused_or_no_memory NoRoute rest rest' is = refusal_or_no_memory 404 (codes "no_route") None rest rest' (omega arith) is
refused_or_no_memory NoMethod rest rest' is = refusal_or_no_memory 405 (codes "no_method") None rest rest' (omega arith) is
refused_or_no_memory (BadRequest fault) rest rest' is = refusal_or_no_memory 400 (codes "bad_request") (Some (printed fault)) rest
    rest' (omega arith) is

-- what bytes that begin with a response have behind it is behind all that can show the same
pub behind_response : (at : ℕ) (stored : Bool) (reply : Reply) (left bytes rest : List ℕ)
    → left ≡ response at stored reply ++ drop (length (response at stored reply)) left
    → (bytes ≡ response at stored reply) ⊎ (bytes ≡ no_memory_at at stored) → left ≡ bytes ++ rest
    → rest ≡ drop (length (response at stored reply)) left
behind_response at stored reply left bytes rest begins (inl is) splits =
    sym (front_rest left (response at stored reply) rest (splits ∙ ap (λ (l : List ℕ). l ++ rest) is))
behind_response at stored reply left bytes rest begins (inr is) splits =
    absurd (response_or_no_memory at at stored stored reply (drop (length (response at stored reply)) left) rest
    (sym begins ∙ (splits ∙ ap (λ (l : List ℕ). l ++ rest) is)))

-- the first bytes are the response, and nothing else shows the same
pub response_first : (at : ℕ) (stored : Bool) (reply : Reply) (text left : List ℕ) (taken : ℕ) → text
    ≡ response at stored reply → taken ≡ length text
    → left ≡ text ++ drop (length text) left → length text ≤ length left
    → (taken ≤ length left) × ((take taken left ≡ response at stored reply) ⊎ (take taken left ≡ no_memory_at at stored))
    × ((bytes rest : List ℕ) → (bytes ≡ response at stored reply) ⊎ (bytes ≡ no_memory_at at stored) → left ≡ bytes
    ++ rest → rest ≡ drop taken left)
response_first at stored reply text left taken is all begins fits =
    let whole : List ℕ = response at stored reply in
    let size : taken ≡ length whole = all ∙ ap (λ (l : List ℕ). length l) is in
    let front : left ≡ whole ++ drop (length whole) left = subst (λ (l : List ℕ). left ≡ l ++ drop (length l) left) is
    begins in (
      omega arith,
      inl (ap (λ (n : ℕ). take n left) size ∙ (ap (λ (l : List ℕ). take (length whole) l) front
          ∙ take-append_seam whole (drop (length whole) left))),
      λ bytes rest shows splits. behind_response at stored reply left bytes rest front shows splits
          ∙ ap (λ (n : ℕ). drop n left) (sym size),
    )
