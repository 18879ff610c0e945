-- A line is at most one entry.
use Rattle.std.proofs.Common.{◌≡◌, ℕ, List, length, refl, sym, ap, ◌∙◌, subst}
use Rattle.std.specs.Prelude.{codes, None}
use Rattle.std.proofs.lemmas.List.{append_cancel_right}
use Rattle.am_types.specs.declared.history.Entry.{Entry}
use Rattle.am_types.specs.declared.request.Request.{Request}
use Rattle.am_history.specs.History.{MayBeNext}
use Rattle.am_wire_routes.specs.Table.{endpoint_at as endpoint_with, endpoint_for, path_of}
use Rattle.am_wire_routes.proofs.Paths.{own_path}
use Rattle.am_wire_values.specs.Replies.{entry_data}
use Rattle.am_wire_values.specs.Requests.{request_data}
use Rattle.am_audit_history.specs.Lines.{IsReadAgain, IsWritten, number_in}
use Rattle.am_audit_history.proofs.Entries.{request_said, route_said, says, some_is}
use Rattle.am_audit_history.specs.Reading.{TakesLine}
use Rattle.am_audit_history.specs.Replays.{Replay, state_of}

-- requests with one route and one value, which are read again of them
same_request : (one other : Request) → IsReadAgain one → IsReadAgain other → path_of (endpoint_for one)
    ≡ path_of (endpoint_for other) → request_data one ≡ request_data other → one ≡ other
same_request one other first second route value =
    let at : endpoint_for one ≡ endpoint_for other = some_is (sym (own_path (endpoint_for one)) ∙ ap endpoint_with route
    ∙ own_path (endpoint_for other)) in
    cc (first.again, second.again, at, value)

-- a line is at most one entry
pub same_entry : (at : ℕ) (line : List ℕ) (one other : Entry) → IsWritten at one line → IsWritten at other line → one
    ≡ other
same_entry at line one other first second =
    let text : first.text ≡ second.text = append_cancel_right first.text second.text (codes "\n")
    (sym first.ends ∙ second.ends) in
    let same : entry_data at one ≡ entry_data at other = cc (text, first.says.value, second.says.value) in
    let desk : one.desk ≡ other.desk = some_is (sym (says at one).desk ∙ ap (number_in (codes "desk")) same
    ∙ (says at other).desk) in
    let uid : one.uid ≡ other.uid = some_is (sym (says at one).uid ∙ ap (number_in (codes "uid")) same
    ∙ (says at other).uid) in
    let now : one.now ≡ other.now = some_is (sym (says at one).now ∙ ap (number_in (codes "now")) same
    ∙ (says at other).now) in
    let weight : one.weight ≡ other.weight = some_is (sym (says at one).weight ∙ ap (number_in (codes "weight")) same
    ∙ (says at other).weight) in
    let route : path_of (endpoint_for one.request) ≡ path_of (endpoint_for other.request) =
    some_is (sym (route_said (entry_data at one) at one refl) ∙ route_said (entry_data at one) at other same) in
    let value : request_data one.request ≡ request_data other.request =
    some_is (sym (request_said (entry_data at one) at one refl) ∙ request_said (entry_data at one) at other same) in
    let request : one.request ≡ other.request = same_request one.request other.request first.whole.request
    second.whole.request route value in
    let kept : one.kept ≡ other.kept = first.whole.kept ∙ sym second.whole.kept in
    λ i. record { desk = desk i; uid = uid i; now = now i; weight = weight i; request = request i; kept = kept i }

-- a line whose entry may not be next isn't taken
pub isnt_taken : (before : Replay) (line : List ℕ) (found : Entry) (at : ℕ) → at ≡ length before.history
    → IsWritten at found line
    → (MayBeNext (state_of before) before.history found → ⊥) → TakesLine before line None
isnt_taken before line found at number written refused entry is next =
    let again : IsWritten (length before.history) found line = subst (λ (n : ℕ). IsWritten n found line) number written
    in
    refused (subst (MayBeNext (state_of before) before.history) (same_entry (length before.history) line entry found is
    again) next)

-- nor is one that is no entry
pub no_entry : (before : Replay) (line : List ℕ) (at : ℕ) → at ≡ length before.history
    → ((entry : Entry) → IsWritten at entry line → ⊥) → TakesLine before line None
no_entry before line at number none entry is next = none entry (subst (λ (n : ℕ). IsWritten n entry line) (sym number)
    is)
