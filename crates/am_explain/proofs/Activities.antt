-- The law of activities.
use Rattle.std.proofs.Common.{◌≡◌, ℕ, List, Option, Some, None, refl, sym, ap, ◌∙◌, subst}
use Rattle.std.proofs.lemmas.List.{append-nil}
use Rattle.am_types.specs.declared.device.Rules.{Rules}
use Rattle.am_types.specs.declared.device.Rules.TheVariants.{Profile}
use Rattle.am_types.specs.declared.intent.Component.{Component}
use Rattle.am_types.specs.declared.intent.Intent.{Intent}
use Rattle.am_types.specs.declared.manifest.Kind.{Kind}
use Rattle.am_types.specs.declared.manifest.Kind.TheVariants.{Activity}
use Rattle.am_model.specs.Boards.{Board}
use Rattle.am_installed.specs.Installed.{AreInstalled}
use Rattle.am_model.specs.Accounts.{Question, accounts, declared_accounts}
use Rattle.am_explain.specs.Laws.{ActivitiesAreStarted, is_decided, is_tied, standing_at, started_activity, tied_activities}
use Rattle.am_explain.proofs.Explicit.{explicit_decided, explicit_tied}
use Rattle.am_explain.proofs.Rivals.{of_kind}
use Rattle.am_explain.proofs.Started.{implicit_decided, implicit_tied, profiled}

module _ (given : Board) (caller : ℕ) (intent : Intent) (required : Option (List ℕ)) where
  abbrev pub board : Board
  board = profiled given

  abbrev pub asked : Question
  asked = record { caller = caller; kind = Activity; intent = intent; required = required }

  decided : (component : Option Component) → intent.component ≡ component → AreInstalled board.packages
      → standing_at is_decided (accounts board asked None) ≡ started_activity board asked component
  decided None names installed = implicit_decided given caller intent required installed names
  decided (Some c) names installed =
      ap (standing_at is_decided) (append-nil (declared_accounts board asked None board.packages))
      ∙ explicit_decided board asked c names (λ r. refl) installed

  tied : (component : Option Component) → intent.component ≡ component → AreInstalled board.packages
      → standing_at is_tied (accounts board asked None) ≡ tied_activities board asked component
  tied None names installed = implicit_tied given caller intent required installed names
  tied (Some c) names installed =
      ap (standing_at is_tied) (append-nil (declared_accounts board asked None board.packages))
      ∙ explicit_tied board asked c names (λ r. refl)

-- a board under the profile is itself
same : (board : Board) → board.rules ≡ Profile → profiled board ≡ board
same board profile = ap (λ (rules : Rules). record board { rules = rules }) (sym profile)

-- the law
pub activities_are_started : ActivitiesAreStarted
activities_are_started = record {
  decided = λ board q profile installed e.
      subst (λ (b : Board). standing_at is_decided (accounts b q None) ≡ started_activity b q q.intent.component)
      (same board profile)
      (subst (λ (kind : Kind). standing_at is_decided (accounts (profiled board) (of_kind q kind) None)
      ≡ started_activity (profiled board) (of_kind q kind) q.intent.component) (sym e)
      (decided board q.caller q.intent q.required q.intent.component refl installed));
  tied = λ board q profile installed e.
      subst (λ (b : Board). standing_at is_tied (accounts b q None) ≡ tied_activities b q q.intent.component)
      (same board profile)
      (subst (λ (kind : Kind). standing_at is_tied (accounts (profiled board) (of_kind q kind) None)
      ≡ tied_activities (profiled board) (of_kind q kind) q.intent.component) (sym e)
      (tied board q.caller q.intent q.required q.intent.component refl installed));
}
