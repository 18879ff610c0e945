use Rattle.std.proofs.Common.{◌≡◌, ◌≤◌, ◌∙◌, Bool, ap, List, arith}
use Rattle.std.proofs.lemmas.Result.{IfOk-weaker}
use Rattle.am_types.specs.declared.device.Rules.{Rules}
use Rattle.am_types.specs.declared.intent.Intent.{Intent}
use Rattle.am_types.specs.declared.manifest.Kind.{Kind}
use Rattle.am_model.specs.Candidates.{Search, found_by, in_turn}
use Rattle.am_index.specs.Groups.{group_size}
use Rattle.am_index.specs.Lookups.{candidates_of_spots, cost_of_spots}
use Rattle.am_index.proofs.Asking.{explicit_free, finds_candidates, within_group}
use Rattle.am_index.proofs.index.FilterIndex.candidates.Goals as goal

-- what is looked for
abbrev what : Rules → Kind → Intent → Bool → Search
what rules kind intent need_default =
    record { rules = rules; kind = kind; intent = intent; need_default = need_default }

pub returns-in_err-found-clause-tests : goal.returns-in_err-found-clause-tests
returns-in_err-found-clause-tests g c =
    let few : cost_of_spots c.args.packages.now c.args.intent.now c.as_slice.result.now ≤ group_size c.args.packages.now
    c.args.kind c.args.intent.now =
    within_group (what c.args.rules c.args.kind c.args.intent.now c.args.need_default) c.args.self.now c.args.packages.now c.requires _
    (c.as_slice.ensures.value ∙ c.in_ok-spots.ensures) in
    omega (arith, c.candidates_of_spots.ensures.most)

pub returns-clause-tests : goal.returns-clause-tests
returns-clause-tests g c =
    let few : cost_of_spots c.args.packages.now c.args.intent.now c.as_slice.result.now ≤ group_size c.args.packages.now
    c.args.kind c.args.intent.now =
    within_group (what c.args.rules c.args.kind c.args.intent.now c.args.need_default) c.args.self.now c.args.packages.now c.requires _
    (c.as_slice.ensures.value ∙ c.in_ok-spots.ensures) in
    omega (arith, c.candidates_of_spots.ensures.most)

pub returns-in_err-found-clause-explicit : goal.returns-in_err-found-clause-explicit
returns-in_err-found-clause-explicit g c = λ named.
    let free : cost_of_spots c.args.packages.now c.args.intent.now c.as_slice.result.now
    ≡ 0 = explicit_free _ c.args.intent.now c.as_slice.result.now named in
    omega (arith, c.candidates_of_spots.ensures.most, c.candidates_of_spots.ensures.least)

pub returns-clause-explicit : goal.returns-clause-explicit
returns-clause-explicit g c = λ named.
    let free : cost_of_spots c.args.packages.now c.args.intent.now c.as_slice.result.now
    ≡ 0 = explicit_free _ c.args.intent.now c.as_slice.result.now named in
    omega (arith, c.candidates_of_spots.ensures.most, c.candidates_of_spots.ensures.least)

pub returns-clause-found : goal.returns-clause-found
returns-clause-found g c =
    let packages = c.args.packages.now in
    let rules = c.args.rules in
    let sought = what rules c.args.kind c.args.intent.now c.args.need_default in
    let found : in_turn rules c.in_ok-found.found.items
    ≡ found_by rules packages c.args.kind c.args.intent.now c.args.need_default =
    ap (in_turn rules)
    (c.in_ok-found.ensures.found
    ∙ ap (candidates_of_spots sought packages) (c.as_slice.ensures.value ∙ c.in_ok-spots.ensures)
    ∙ finds_candidates sought c.args.self.now packages c.requires) in
    IfOk-weaker c.in_turn.result (λ (l : List _). l ≡ in_turn rules c.in_ok-found.found.items)
    (λ (l : List _). l ≡ found_by rules packages c.args.kind c.args.intent.now c.args.need_default)
    (λ l e. e ∙ found) c.in_turn.ensures
