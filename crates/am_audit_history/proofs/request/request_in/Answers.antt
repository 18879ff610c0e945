use Rattle.std.proofs.Common.{◌≡◌, sym, ap, ◌∙◌}
use Rattle.std.specs.Option.{option_copied, option_map}
use Rattle.serde_json.specs.View.{view}
use Rattle.am_wire_routes.specs.Table.{endpoint_at as endpoint_with, endpoint_for, path_of}
use Rattle.am_wire_routes.proofs.Paths.{own_path}
use Rattle.am_audit_history.proofs.Entries.{none_is_some, request_said, route_said, some_is}
use Rattle.am_audit_history.proofs.request.request_in.Goals as goal

pub returns-in_default-clause-finds : goal.returns-in_default-clause-finds
returns-in_default-clause-finds c = λ at entry is again.
    absurd (none_is_some (sym (ap option_copied c.in_default.is) ∙ c.route_in.ensures ∙ route_said _ at entry is))

pub returns-in_default-endpoint_with-clause-finds :
    goal.returns-in_default-endpoint_with-clause-finds
returns-in_default-endpoint_with-clause-finds c = λ at entry is again.
    let route : c.in-Some.route.now ≡ path_of (endpoint_for entry.request) =
    some_is (sym (ap option_copied c.in-Some.is) ∙ c.route_in.ensures ∙ route_said _ at entry is) in
    absurd (none_is_some (sym c.in_default-endpoint_with.is ∙ c.endpoint_with.ensures ∙ ap endpoint_with route
    ∙ own_path (endpoint_for entry.request)))

pub returns-in_default-get-clause-finds : goal.returns-in_default-get-clause-finds
returns-in_default-get-clause-finds c = λ at entry is again.
    absurd (none_is_some (sym (ap (option_map (λ v. view v.now)) c.in_default-get.is) ∙ c.get.ensures
    ∙ request_said _ at entry is))

pub returns-clause-finds : goal.returns-clause-finds
returns-clause-finds c = λ at entry is again.
    let route : c.in-Some.route.now ≡ path_of (endpoint_for entry.request) =
    some_is (sym (ap option_copied c.in-Some.is) ∙ c.route_in.ensures ∙ route_said _ at entry is) in
    c.request_at.ensures.finds entry.request
    (some_is (sym c.in-Some-endpoint_with.is ∙ c.endpoint_with.ensures ∙ ap endpoint_with route
    ∙ own_path (endpoint_for entry.request)))
    (some_is (sym (ap (option_map (λ v. view v.now)) c.in-Some-get.is) ∙ c.get.ensures ∙ request_said _ at entry is))
    again
