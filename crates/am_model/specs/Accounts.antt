-- Who an intent reaches, component by component, and why it doesn't reach the others.
use Rattle.std.specs.Prelude.{ℕ, ℤ, pos, Bool, true, false, not, ◌&&◌, ◌==◌, List, [], ◌∷◌, ◌++◌, filter, if◌then◌else◌, Option, Some, None, is_none, is_some, int_lt}
use Rattle.std.specs.List.{list_any}
use Rattle.am_types.specs.declared.device.Rules.{Rules}
use Rattle.am_types.specs.declared.device.Rules.TheVariants.{Profile, Android12}
use Rattle.am_types.specs.declared.intent.Intent.{Intent}
use Rattle.am_types.specs.declared.intent.Component.{Component}
use Rattle.am_types.specs.declared.filter.Filter.{Filter}
use Rattle.am_types.specs.declared.filter.Why.{Why}
use Rattle.am_types.specs.declared.manifest.Kind.{Kind}
use Rattle.am_types.specs.declared.manifest.Kind.TheVariants as kinds
use Rattle.am_types.specs.declared.manifest.Decl.{Decl}
use Rattle.am_types.specs.declared.device.Package.{Package}
use Rattle.am_types.specs.declared.resolve.Candidate.{Candidate}
use Rattle.am_types.specs.declared.resolve.Finding.{Finding}
use Rattle.am_types.specs.declared.resolve.Hit.{Hit}
use Rattle.am_types.specs.declared.resolve.Registration.{Registration}
use Rattle.am_types.specs.declared.resolve.Target.{Target}
use Rattle.am_types.specs.declared.resolve.Target.TheVariants.{Nothing, One, Choose}
use Rattle.am_types.specs.declared.broadcast.Aim.TheVariants.{Declared, Registered}
use Rattle.am_types.specs.declared.rule.Rule.{Rule}
use Rattle.am_types.specs.declared.rule.Rule.TheVariants as rules
use Rattle.am_model.specs.Texts.{is_same}
use Rattle.am_model.specs.Cuts.{unfound_why, unheard_why}
use Rattle.am_model.specs.Intents.{is_same_component}
use Rattle.am_model.specs.Boards.{Board}
use Rattle.am_model.specs.Candidates.{Search, finding_in, found_by, hits, is_in, is_kind, is_named}
use Rattle.am_model.specs.Gates.{is_privileged, verdict}
use Rattle.am_model.specs.Targets.{approves, choice, host_to_view, is_approved, takes_any_host, top}
use Rattle.am_model.specs.Links.{Leading, admits, is_left, leading_of, may_start}
use Rattle.am_model.specs.Starts.{left_by, phone_left}
use Rattle.am_model.specs.Receivers.{Offer, is_for, is_protected, name_of, or_rule, registered_offer, rule_of, rule_where, skip_of}
use Rattle.am_types.specs.declared.account.Narrowing.{Narrowing}
use Rattle.am_types.specs.declared.account.Narrowing.TheVariants.{Approved, Browser, General}
use Rattle.am_types.specs.declared.account.Standing.{Standing}
use Rattle.am_types.specs.declared.account.Standing.TheVariants.{OtherComponent, OtherPackage, Disabled, Filters, Narrowed, Outranked, Tied, Refused, Reached}
use Rattle.am_types.specs.declared.account.Account.{Account}

-- what is asked: who an intent of a caller reaches, as a start of an activity or of a service, or as a broadcast whose
-- receivers must hold a permission
pub record Question : Type 0 where
  pub caller : ℕ
  pub kind : Kind
  pub intent : Intent
  pub required : Option (List ℕ)

-- an implicit start of an activity needs the default category
abbrev pub needs_default : Kind → Bool
needs_default kinds.Activity = true
needs_default kinds.Service = false
needs_default kinds.Receiver = false

-- the first, the second or the third account, for an activity, a service or a receiver
abbrev pub by_kind : {X : Type 0} → Kind → X → X → X → X
by_kind kinds.Activity activity service receiver = activity
by_kind kinds.Service activity service receiver = service
by_kind kinds.Receiver activity service receiver = receiver

-- the name of a component
abbrev pub component_of : Package → Decl → Component
component_of owner decl = record { «package» = owner.name; class = decl.class }

-- the intent names a component, and not this one
abbrev pub is_other_component : Option Component → Package → Decl → Bool
is_other_component None owner decl = false
is_other_component (Some component) owner decl = not (is_named component owner.name decl.class)

-- the intent names no component, but a package, and not this one
abbrev pub is_other_package : Intent → Package → Bool
is_other_package intent owner = is_none intent.component && not (is_in intent.«package» owner)

-- a reason, if there is one
abbrev pub listed : Option Why → List Why
listed None = []
listed (Some reason) = reason ∷ []

-- the reason for each filter that the intent doesn't find
abbrev pub reasons : Rules → Intent → Bool → List Filter → List Why
reasons rules intent need_default [] = []
reasons rules intent need_default (first ∷ others) =
    listed (unfound_why rules first intent need_default) ++ reasons rules intent need_default others

-- refused by the rule, if there is one; else reached
abbrev pub unless_refused : Option Rule → Standing
unless_refused None = Reached
unless_refused (Some rule) = Refused rule

-- a component that is started: the gate may refuse the caller
abbrev pub started : Board → ℕ → Package → Decl → Standing
started board caller owner decl =
    unless_refused (rule_of (verdict board.grants caller owner.uid decl.exported decl.permission))

-- the rule by which the caller may not send the action: it is protected, and the caller is neither the system nor the
-- root
abbrev pub sending_rule : Board → Question → Option Rule
sending_rule board asked =
    rule_where (is_protected board.protected asked.intent.action && not (is_privileged asked.caller))
    rules.ProtectedAction

-- a receiver that the broadcast is offered to: it may be skipped, and the caller may not be allowed to send the action
abbrev pub offered : Board → Question → Offer → Standing
offered board asked offer =
    unless_refused (or_rule (skip_of board asked.intent asked.caller asked.required offer) (sending_rule board asked))

-- the offer to a manifest's receiver (its priority, which only orders offers, is left at 0)
abbrev pub offer_to : Package → Decl → Offer
offer_to owner decl = record {
  uid = owner.uid;
  aim = Declared (component_of owner decl);
  priority = pos 0;
  exported = decl.exported;
  permission = decl.permission;
}

-- left out, unless it is kept
abbrev pub unless_kept : Bool → Narrowing → Option Narrowing
unless_kept true narrowing = None
unless_kept false narrowing = Some narrowing

-- left out for the browser that the device names; if it names none, for those that take any host
abbrev pub left_out_for_browser : Option (List ℕ) → List ℕ → Bool → Option Narrowing
left_out_for_browser (Some browser) name any_host = unless_kept (is_same name browser) Browser
left_out_for_browser None name any_host = unless_kept any_host General

-- left out for those that are approved for the host, if any are; else for a browser
abbrev pub left_out_for_host : Board → List ℕ → Package → Bool → Bool → Option Narrowing
left_out_for_host board host owner some_approved any_host =
    if some_approved
    then unless_kept (approves board.links host owner.uid) Approved
    else left_out_for_browser board.browser owner.name any_host

-- what the narrowing leaves an activity out for: only a web intent, which has a host, is narrowed
abbrev pub left_out : Board → Option (List ℕ) → Package → Bool → Bool → Option Narrowing
left_out board None owner some_approved any_host = None
left_out board (Some host) owner some_approved any_host = left_out_for_host board host owner some_approved any_host

-- some hit's package is approved for the host of a web intent
abbrev pub is_some_approved : Board → Intent → Option (List ℕ) → Bool
is_some_approved board intent None = false
is_some_approved board intent (Some host) =
    list_any (is_approved board.links host) (hits Profile board.packages kinds.Activity intent true)

-- left out by the narrowing; else what follows
abbrev pub unless_left_out : Option Narrowing → Standing → Standing
unless_left_out None next = next
unless_left_out (Some narrowing) next = Narrowed narrowing

-- one of the hits has a greater priority
abbrev pub is_outranked : ℤ → List Hit → Bool
is_outranked priority found = list_any (λ (hit : Hit). int_lt priority hit.priority) found

-- the user must choose
abbrev pub is_choice : Target → Bool
is_choice Nothing = false
is_choice (One hit) = false
is_choice (Choose several) = true

-- outranked by one of the activities, or tied with one of them; else what follows
abbrev pub contest : ℤ → List Hit → Standing → Standing
contest priority left next =
    if is_outranked priority left then Outranked else if is_choice (choice (top left)) then Tied else next

-- the profile: an activity that the intent finds with that priority
abbrev pub profile_found_activity : Board → Question → Package → Decl → ℤ → Standing
profile_found_activity board asked owner decl priority =
    unless_left_out
    (left_out board (host_to_view asked.intent) owner
    (is_some_approved board asked.intent (host_to_view asked.intent))
    (list_any (takes_any_host asked.intent) decl.filters))
    (contest priority (left_by Profile board asked.intent) (started board asked.caller owner decl))

-- what a link leaves an app out for: for the approved activity, or for browsers if there is none
abbrev pub narrowing_of_app : Option Hit → Narrowing
narrowing_of_app None = General
narrowing_of_app (Some last) = Approved

-- what a browser is left out for: for the approved activity, or for the device's browser if there is none
abbrev pub narrowing_of_browser : Option Hit → Narrowing
narrowing_of_browser None = Browser
narrowing_of_browser (Some last) = Approved

-- what a phone's narrowing leaves a candidate out for
abbrev pub phone_left_out : Option Leading → Candidate → Option Narrowing
phone_left_out None candidate = None
phone_left_out (Some leads) candidate =
    unless_kept (is_left leads candidate)
    (if candidate.finding.browses then narrowing_of_browser leads.approved else narrowing_of_app leads.approved)

-- a phone: an activity among those that are left. At a tie those that the caller may not start don't count
abbrev pub phone_contest : Board → Question → Package → Decl → ℤ → List Hit → Standing
phone_contest board asked owner decl priority left =
    if not (is_choice (choice (top left))) then contest priority left (started board asked.caller owner decl)
    else if not (admits (verdict board.grants asked.caller owner.uid decl.exported decl.permission))
    then started board asked.caller owner decl
    else contest priority (filter (may_start board asked.caller) left) (started board asked.caller owner decl)

-- the component, found so, as a candidate; its place doesn't count
abbrev pub as_candidate : Package → Decl → Finding → Candidate
as_candidate owner decl finding = record {
  hit = record { component = component_of owner decl; uid = owner.uid; place = 0; priority = finding.priority };
  finding = finding;
}

-- a phone: an activity that the intent finds so
abbrev pub phone_found_activity : Board → Question → Package → Decl → Finding → Standing
phone_found_activity board asked owner decl finding =
    let all = found_by Android12 board.packages kinds.Activity asked.intent true in
    unless_left_out
    (phone_left_out (leading_of board asked.intent true all) (as_candidate owner decl finding))
    (phone_contest board asked owner decl finding.priority (phone_left board asked.intent true))

-- an activity that the intent finds so
abbrev pub found_activity : Rules → Board → Question → Package → Decl → Finding → Standing
found_activity Profile board asked owner decl finding =
    profile_found_activity board asked owner decl finding.priority
found_activity Android12 board asked owner decl finding = phone_found_activity board asked owner decl finding

-- the first of the components that were found, if there is one
abbrev pub first_of : List Hit → Option Component
first_of [] = None
first_of (first ∷ others) = Some first.component

-- the component is there, and is the other
abbrev pub is_that : Option Component → Component → Bool
is_that None other = false
is_that (Some component) other = is_same_component component other

-- a service that the intent finds
abbrev pub found_service : Board → Question → Package → Decl → Standing
found_service board asked owner decl =
    if is_none asked.intent.«package» then Refused rules.ImplicitService
    else if not (is_that (first_of (hits board.rules board.packages kinds.Service asked.intent false)) (component_of owner decl))
    then Outranked
    else started board asked.caller owner decl

-- a component that the intent finds so, or doesn't find
abbrev pub found : Board → Question → Package → Decl → Option Finding → Standing
found board asked owner decl None = Filters (reasons board.rules asked.intent (needs_default asked.kind) decl.filters)
found board asked owner decl (Some finding) =
    by_kind asked.kind
    (found_activity board.rules board asked owner decl finding)
    (found_service board asked owner decl)
    (offered board asked (offer_to owner decl))

-- a component that the intent names
abbrev pub named : Board → Question → Package → Decl → Standing
named board asked owner decl =
    by_kind asked.kind
    (started board asked.caller owner decl)
    (started board asked.caller owner decl)
    (offered board asked (offer_to owner decl))

-- what is looked for to answer the question
abbrev pub search_of : Board → Question → Search
search_of board asked = record {
  rules = board.rules;
  kind = asked.kind;
  intent = asked.intent;
  need_default = needs_default asked.kind;
}

-- an enabled component that the intent names, or one that it may find by its filters
abbrev pub enabled : Board → Question → Package → Decl → Option Component → Standing
enabled board asked owner decl (Some component) = named board asked owner decl
enabled board asked owner decl None =
    found board asked owner decl (finding_in board.rules (search_of board asked) decl.filters)

-- the account of a component of the kind
abbrev pub standing : Board → Question → Package → Decl → Standing
standing board asked owner decl =
    if is_other_component asked.intent.component owner decl then OtherComponent
    else if is_other_package asked.intent owner then OtherPackage
    else if not decl.enabled then Disabled
    else enabled board asked owner decl asked.intent.component

-- the intent doesn't pass the one filter, for that reason; else what follows
abbrev pub unless_failed : Option Why → Standing → Standing
unless_failed None next = next
unless_failed (Some reason) next = Filters (reason ∷ [])

-- the account of a registered receiver
abbrev pub registered_standing : Board → Question → Registration → Standing
registered_standing board asked r =
    if is_some asked.intent.component then OtherComponent
    else if not (is_for asked.intent.«package» (name_of board.packages r.uid)) then OtherPackage
    else unless_failed (unheard_why board.rules r.filter asked.intent) (offered board asked (registered_offer r))

-- the accounts of some components of a package, as far as they are of the kind
abbrev pub accounts_from : Board → Question → Package → List Decl → List Account
accounts_from board asked owner [] = []
accounts_from board asked owner (first ∷ others) =
    if is_kind asked.kind first.kind
    then record { to = Declared (component_of owner first); standing = standing board asked owner first }
    ∷ accounts_from board asked owner others
    else accounts_from board asked owner others

-- all are shown, or what has that uid
abbrev pub is_shown : Option ℕ → ℕ → Bool
is_shown None uid = true
is_shown (Some only) uid = uid == only

-- the accounts of the components that packages declare, as far as they are shown
abbrev pub declared_accounts : Board → Question → Option ℕ → List Package → List Account
declared_accounts board asked shown [] = []
declared_accounts board asked shown (first ∷ others) =
    (if is_shown shown first.uid then accounts_from board asked first first.decls else [])
    ++ declared_accounts board asked shown others

-- the accounts of registered receivers, as far as they are shown
abbrev pub registered_accounts : Board → Question → Option ℕ → List Registration → List Account
registered_accounts board asked shown [] = []
registered_accounts board asked shown (first ∷ others) =
    if is_shown shown first.uid
    then record { to = Registered first.number; standing = registered_standing board asked first }
    ∷ registered_accounts board asked shown others
    else registered_accounts board asked shown others

-- who the intent reaches, and why not the others: the components of the kind by uid, then place, and if receivers are
-- asked for, then the registered ones by number; only those of one uid, if that is asked
abbrev pub accounts : Board → Question → Option ℕ → List Account
accounts board asked shown =
    declared_accounts board asked shown board.packages
    ++ by_kind asked.kind [] [] (registered_accounts board asked shown board.registered)
