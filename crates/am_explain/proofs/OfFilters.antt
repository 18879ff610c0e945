-- The reasons in an account are those for which the intent doesn't find the filters.
use Rattle.std.proofs.Common.{◌≡◌, ℤ, Bool, true, false, not, cond, List, [], ◌∷◌, ◌++◌, map, Option, Some, None, refl, sym, ap, ◌∙◌}
use Rattle.std.specs.Prelude.{is_none}
use Rattle.std.specs.List.{filter}
use Rattle.std.specs.Option.{option_map}
use Rattle.am_types.specs.declared.intent.Component.{Component}
use Rattle.am_types.specs.declared.intent.Intent.{Intent}
use Rattle.am_types.specs.declared.filter.Filter.{Filter}
use Rattle.am_types.specs.declared.filter.Why.{Why}
use Rattle.am_types.specs.declared.manifest.Kind.{Kind}
use Rattle.am_types.specs.declared.manifest.Kind.TheVariants.{Activity, Service, Receiver}
use Rattle.am_types.specs.declared.manifest.Decl.{Decl}
use Rattle.am_types.specs.declared.device.Package.{Package}
use Rattle.am_types.specs.declared.device.Rules.{Rules}
use Rattle.am_types.specs.declared.device.Rules.TheVariants.{Profile, Android12}
use Rattle.am_types.specs.declared.resolve.Finding.{Finding}
use Rattle.am_types.specs.declared.resolve.Hit.{Hit}
use Rattle.am_types.specs.declared.rule.Rule.{Rule}
use Rattle.am_types.specs.declared.rule.Rule.TheVariants as rules
use Rattle.am_model.specs.Boards.{Board}
use Rattle.am_model.specs.Candidates.{Search, counted_priority, finding_by, finding_in, first_finding, first_of_two, greatest, plain_finding, priority_of}
use Rattle.am_model.specs.Cuts.{unfound_why, unheard_why}
use Rattle.am_model.specs.Accounts.{Question, by_kind, contest, enabled, found, found_activity, is_choice, listed, needs_default, phone_contest, reasons, search_of, started, unless_failed, unless_left_out, unless_refused}
use Rattle.am_model.specs.Gates.{verdict}
use Rattle.am_model.specs.Links.{admits, may_start}
use Rattle.am_model.specs.Starts.{phone_left}
use Rattle.am_model.specs.Targets.{choice, top}
use Rattle.am_explain.specs.Laws.{ReasonsAreOfFilters}
use Rattle.am_types.specs.declared.account.Narrowing.{Narrowing}
use Rattle.am_types.specs.declared.account.Standing.{Standing}
use Rattle.am_types.specs.declared.account.Standing.TheVariants.{Disabled, Filters, OtherComponent, OtherPackage, Outranked, Tied, Refused}

-- the account isn't that no filter passes
abbrev IsOther : Standing → Type 0
IsOther s = (rs : List Why) → s ≡ Filters rs → ⊥

refused_other : (rule : Option Rule) → IsOther (unless_refused rule)
refused_other None rs e = cc
refused_other (Some rule) rs e = cc

activity_other : (narrowing : Option Narrowing) (outranked tied : Bool) (rule : Option Rule)
    → IsOther (unless_left_out narrowing (cond outranked Outranked (cond tied Tied (unless_refused rule))))
activity_other (Some narrowing) outranked tied rule rs e = cc
activity_other None true tied rule rs e = cc
activity_other None false true rule rs e = cc
activity_other None false false rule rs e = refused_other rule rs e

service_other : (implicit first : Bool) (rule : Rule) (verdict : Option Rule)
    → IsOther (cond implicit (Refused rule) (cond first Outranked (unless_refused verdict)))
service_other true first rule verdict rs e = cc
service_other false true rule verdict rs e = cc
service_other false false rule verdict rs e = refused_other verdict rs e

kind_other : (kind : Kind) (activity service receiver : Standing) → IsOther activity → IsOther service
    → IsOther receiver → IsOther (by_kind kind activity service receiver)
kind_other Activity activity service receiver a s r = a
kind_other Service activity service receiver a s r = s
kind_other Receiver activity service receiver a s r = r

-- if no filter is found, each has its reason
module _ (search : Search) where
  -- why it isn't
  abbrev reason_of : Filter → Option Why
  reason_of f = unfound_why search.rules f search.intent search.need_default

  -- the reasons of these
  abbrev told : List Filter → List Why
  told fs = reasons search.rules search.intent search.need_default fs

  one_more : (f : Filter) (fs : List Filter) (reason : Why) → reason_of f ≡ Some reason
      → map Some (told fs) ≡ map reason_of fs → map Some (told (f ∷ fs)) ≡ map reason_of (f ∷ fs)
  one_more f fs reason is rest =
      ap (λ (r : Option Why). map Some (listed r ++ told fs)) is ∙ ap (λ l. Some reason ∷ l) rest
      ∙ ap (λ (r : Option Why). r ∷ map reason_of fs) (sym is)

  none_first : (fs : List Filter) → first_finding search fs ≡ None → map Some (told fs) ≡ map reason_of fs
  none_first [] e = refl
  none_first (f ∷ fs) e = by (reason_of f) refl e (none_first fs)
    where
      by : (reason : Option Why) → reason_of f ≡ reason
          → cond (is_none reason) (Some (first_of_two (finding_by search f) (first_finding search fs)))
          (first_finding search fs) ≡ None
          → (first_finding search fs ≡ None → map Some (told fs) ≡ map reason_of fs)
          → map Some (told (f ∷ fs)) ≡ map reason_of (f ∷ fs)
      by None is e rest = absurd cc
      by (Some reason) is e rest = one_more f fs reason is (rest e)

-- the search by these rules
abbrev by_rules : Rules → Search → Search
by_rules rules search = record search { rules = rules }

none_passed : (search : Search) (fs : List Filter)
    → option_map plain_finding (priority_of (by_rules Profile search) fs) ≡ None
    → map Some (told (by_rules Profile search) fs) ≡ map (reason_of (by_rules Profile search)) fs
none_passed search [] e = refl
none_passed search (f ∷ fs) e = by (reason_of profile f) refl e (none_passed search fs)
  where
    profile : Search
    profile = by_rules Profile search

    by : (reason : Option Why) → reason_of profile f ≡ reason
        → option_map plain_finding (cond (is_none reason)
        (Some (greatest (counted_priority search.kind f.priority) (priority_of profile fs))) (priority_of profile fs))
        ≡ None
        → (option_map plain_finding (priority_of profile fs) ≡ None
        → map Some (told profile fs) ≡ map (reason_of profile) fs)
        → map Some (told profile (f ∷ fs)) ≡ map (reason_of profile) (f ∷ fs)
    by None is e rest = absurd cc
    by (Some reason) is e rest = one_more profile f fs reason is (rest e)

all_failed : (rules : Rules) (search : Search) (fs : List Filter) → finding_in rules (by_rules rules search) fs ≡ None
    → map Some (told (by_rules rules search) fs) ≡ map (reason_of (by_rules rules search)) fs
all_failed Profile search fs e = none_passed search fs e
all_failed Android12 search fs e = none_first (by_rules Android12 search) fs e

-- nor is an activity's that is found
found_other : (rules : Rules) (board : Board) (asked : Question) (owner : Package) (decl : Decl) (finding : Finding)
    → IsOther (found_activity rules board asked owner decl finding)
found_other Profile board asked owner decl finding = activity_other _ _ _ _
found_other Android12 board asked owner decl finding =
    left_out_other _ _ (contest_other board asked owner decl finding.priority (phone_left board asked.intent true))
  where
    left_out_other : (narrowing : Option Narrowing) (next : Standing) → IsOther next
        → IsOther (unless_left_out narrowing next)
    left_out_other None next other rs e = other rs e
    left_out_other (Some narrowing) next other rs e = cc

    plain_other : (outranked tied : Bool) (rule : Option Rule)
        → IsOther (cond outranked Outranked (cond tied Tied (unless_refused rule)))
    plain_other true tied rule rs e = cc
    plain_other false true rule rs e = cc
    plain_other false false rule rs e = refused_other rule rs e

    contest_other : (board : Board) (asked : Question) (owner : Package) (decl : Decl) (priority : ℤ) (left : List Hit)
        → IsOther (phone_contest board asked owner decl priority left)
    contest_other board asked owner decl priority left =
        by (not (is_choice (choice (top left))))
        (not (admits (verdict board.grants asked.caller owner.uid decl.exported decl.permission)))
      where
        by : (alone refused : Bool)
            → IsOther (cond alone (contest priority left (started board asked.caller owner decl))
            (cond refused (started board asked.caller owner decl)
            (contest priority (filter (may_start board asked.caller) left) (started board asked.caller owner decl))))
        by true refused = plain_other _ _ _
        by false true = refused_other _
        by false false = plain_other _ _ _

module _ (board : Board) (asked : Question) (owner : Package) (decl : Decl) (rs : List Why) where
  -- the reasons that the filters give
  abbrev AreReasons : Type 0
  AreReasons =
      map Some rs ≡ map (λ (f : Filter). unfound_why board.rules f asked.intent (needs_default asked.kind)) decl.filters

  of_found : (finding : Option Finding) → finding_in board.rules (search_of board asked) decl.filters ≡ finding
      → found board asked owner decl finding ≡ Filters rs → AreReasons
  of_found None is e =
      let same : reasons board.rules asked.intent (needs_default asked.kind) decl.filters ≡ rs = cc in
      ap (map Some) (sym same) ∙ all_failed board.rules (search_of board asked) decl.filters is
  of_found (Some finding) is e =
      absurd (kind_other asked.kind _ _ _ (found_other board.rules board asked owner decl finding)
      (service_other _ _ rules.ImplicitService _) (refused_other _) rs e)

  of_enabled : (component : Option Component) → enabled board asked owner decl component ≡ Filters rs → AreReasons
  of_enabled (Some component) e =
      absurd (kind_other asked.kind _ _ _ (refused_other _) (refused_other _) (refused_other _) rs e)
  of_enabled None e = of_found (finding_in board.rules (search_of board asked) decl.filters) refl e

  of_component : (other elsewhere on : Bool)
      → cond other OtherComponent (cond elsewhere OtherPackage (cond (not on) Disabled
      (enabled board asked owner decl asked.intent.component))) ≡ Filters rs → AreReasons
  of_component true elsewhere on e = absurd cc
  of_component false true on e = absurd cc
  of_component false false false e = absurd cc
  of_component false false true e = of_enabled asked.intent.component e

-- the one reason of a registered receiver
of_registered : (other here : Bool) (reason : Option Why) (rule : Option Rule) (rs : List Why)
    → cond other OtherComponent (cond (not here) OtherPackage (unless_failed reason (unless_refused rule))) ≡ Filters rs
    → map Some rs ≡ reason ∷ []
of_registered true here reason rule rs e = absurd cc
of_registered false false reason rule rs e = absurd cc
of_registered false true None rule rs e = absurd (refused_other rule rs e)
of_registered false true (Some reason) rule rs e = let same : reason ∷ [] ≡ rs = cc in ap (map Some) (sym same)

-- the law
pub reasons_are_of_filters : ReasonsAreOfFilters
reasons_are_of_filters = record {
  components = λ board asked owner decl rs e. of_component board asked owner decl rs _ _ decl.enabled e;
  registered = λ board asked r rs e. of_registered _ _ (unheard_why board.rules r.filter asked.intent) _ rs e;
}
