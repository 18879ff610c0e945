use Rattle.std.proofs.Common.{◌≡◌, ℕ, List, Ok, sym, ap, ◌∙◌, string_bytes}
use Rattle.std.specs.Cmp.Lexicographic.{bytes_decides}
use Rattle.serde_json.specs.Written.{compact_text}
use Rattle.am_wire_values.specs.Requests.{request_data}
use Rattle.am_types.specs.declared.request.Request.{Request}
use denote.Enum.Bare.{differs_false}
use Rattle.am_wire_routes.specs.contracts.endpoint.Endpoint.{the_type}
use Rattle.am_wire_routes.specs.declared.endpoint.Endpoint.{Endpoint}
use Rattle.am_wire_routes.specs.Table.{endpoint_for}
use Rattle.am_wire.specs.Requests.{request_of}
use Rattle.am_wire_read_back.proofs.Steps.{same_ok}
use Rattle.am_audit_history.proofs.request.is_same_request.Goals as goal

-- texts that are the same make the same request at one endpoint
reads_same : (at other : Endpoint) (one two : Request) (s t : List ℕ) → at ≡ other
    → request_of at s ≡ Ok one → request_of other t ≡ Ok two → s ≡ t → one ≡ two
reads_same at other one two s t ends reads reads_too same =
    same_ok one two (sym reads ∙ ap (λ (e : Endpoint). request_of e s) ends ∙ ap (request_of other) same ∙ reads_too)

pub returns : goal.returns
returns c =
    let ends : endpoint_for c.args.one.now ≡ endpoint_for c.args.other.now =
    sym c.endpoint_of.ensures ∙ differs_false the_type tt c.endpoint_of.result c.endpoint_of-2.result
    (sym c.if-ne.ensures) ∙ c.endpoint_of-2.ensures in
    let first : c.as_str.result.now ≡ string_bytes c.in_ok-one.one = c.as_str.ensures.value in
    let second : c.as_str-2.result.now ≡ string_bytes c.in_ok-other.other = c.as_str-2.ensures.value in (
      λ same. reads_same _ _ c.args.one.now c.args.other.now _ _ ends
          (c.in_ok-one.ensures.read_back c.requires.one (c.has_few_rows.ensures.0 c.if-not-has_few_rows.false))
          (c.in_ok-other.ensures.read_back c.requires.other c.requires.few)
          (sym first ∙ (bytes_decides c.as_str.result.now c.as_str-2.result.now).0 (sym c.eq.ensures ∙ same) ∙ second),
      λ is. c.eq.ensures ∙ (bytes_decides c.as_str.result.now c.as_str-2.result.now).1
          (first ∙ c.in_ok-one.ensures.text ∙ ap (λ (r : Request). compact_text (request_data r)) is
          ∙ sym c.in_ok-other.ensures.text ∙ sym second),
    )
