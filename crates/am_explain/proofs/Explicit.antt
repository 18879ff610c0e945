-- A start that names its component is decided on for that alone.
use Rattle.std.proofs.Common.{◌≡◌, Bool, true, false, cond, List, [], ◌∷◌, map, Option, Some, None, refl, ap, ◌∙◌}
use Rattle.am_types.specs.declared.intent.Component.{Component}
use Rattle.am_types.specs.declared.broadcast.Aim.TheVariants.{Declared}
use Rattle.am_types.specs.declared.rule.Rule.{Rule}
use Rattle.am_model.specs.Boards.{Board}
use Rattle.am_model.specs.Gates.{verdict}
use Rattle.am_model.specs.Receivers.{declared, rule_of}
use Rattle.am_installed.specs.Installed.{AreInstalled}
use Rattle.am_model.specs.Accounts.{Question, component_of, declared_accounts, search_of, started, unless_refused}
use Rattle.am_explain.specs.Laws.{is_decided, is_tied, standing_at, started_component}
use Rattle.am_types.specs.declared.account.Account.{Account}
use Rattle.am_types.specs.declared.account.Standing.{Standing}
use Rattle.am_explain.proofs.Named.{as_declared}
use Rattle.am_explain.proofs.Rivals.{IsOfFound, Rival, met, met_account, of_found_in, rivals_in}
use Rattle.am_explain.proofs.SentTo.{decided_found}

pub decided_rule : (rule : Option Rule) → is_decided (unless_refused rule) ≡ true
decided_rule None = refl
decided_rule (Some rule) = refl

tied_rule : (rule : Option Rule) → is_tied (unless_refused rule) ≡ false
tied_rule None = refl
tied_rule (Some rule) = refl

-- tests that only components that are found may pass
pub tied_found : IsOfFound is_tied
tied_found = record { component = refl; «package» = refl; disabled = refl; filters = λ reasons. refl }

module _ (board : Board) (asked : Question) (c : Component) (names : asked.intent.component ≡ Some c)
    (is_started : (r : Rival) → met board asked (Some c) r ≡ started board asked.caller r.owner r.decl) where
  -- the account of the component
  abbrev to : Rival → Account
  to = met_account board asked (Some c)

  -- the gate's rule on it
  abbrev rule : Rival → Option Rule
  rule r = rule_of (verdict board.grants asked.caller r.owner.uid r.decl.exported r.decl.permission)

  all_decided : (rs : List Rival) → standing_at is_decided (map to rs) ≡ map to rs
  all_decided [] = refl
  all_decided (r ∷ rs) =
      ap (λ b. cond b (to r ∷ standing_at is_decided (map to rs)) (standing_at is_decided (map to rs)))
      (ap is_decided (is_started r) ∙ decided_rule (rule r))
      ∙ ap (λ l. to r ∷ l) (all_decided rs)

  none_tied : (rs : List Rival) → standing_at is_tied (map to rs) ≡ []
  none_tied [] = refl
  none_tied (r ∷ rs) =
      ap (λ b. cond b (to r ∷ standing_at is_tied (map to rs)) (standing_at is_tied (map to rs)))
      (ap is_tied (is_started r) ∙ tied_rule (rule r))
      ∙ none_tied rs

  one : (r : Rival) → component_of r.owner r.decl ≡ c → to r ∷ [] ≡ started_component board asked.caller c
      (Some (r.owner.uid, r.decl))
  one r same =
      ap (λ (s : Standing). record { to = Declared (component_of r.owner r.decl); standing = s } ∷ []) (is_started r)
      ∙ ap (λ (component : Component). record {
        to = Declared component;
        standing = started board asked.caller r.owner
            r.decl;
      } ∷ []) same

  said : (test : Standing → Bool) → IsOfFound test
      → standing_at test (declared_accounts board asked None board.packages)
      ≡ standing_at test (map to (rivals_in (search_of board asked) board.packages))
  said test of_found =
      of_found_in board asked test of_found board.packages
      ∙ ap (λ (component : Option Component). standing_at test (map (met_account board asked component)
      (rivals_in (search_of board asked) board.packages))) names

  -- it is decided on, if it is declared
  pub explicit_decided : AreInstalled board.packages
      → standing_at is_decided (declared_accounts board asked None board.packages)
      ≡ started_component board asked.caller c (declared board.packages asked.kind c)
  explicit_decided installed =
      said is_decided decided_found
      ∙ all_decided (rivals_in (search_of board asked) board.packages)
      ∙ as_declared (search_of board asked) c names to (started_component board asked.caller c) refl one board.packages
      installed

  -- and nothing is tied
  pub explicit_tied : standing_at is_tied (declared_accounts board asked None board.packages) ≡ []
  explicit_tied = said is_tied tied_found ∙ none_tied (rivals_in (search_of board asked) board.packages)
