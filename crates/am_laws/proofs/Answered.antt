-- What holds of the state that an answer leaves, by the form of the answer.
use Rattle.std.proofs.Common.{◌≡◌, ℕ, Bool, cond, List, refl}
use Rattle.std.specs.Prelude.{Option, Some, None}
use Rattle.am_types.specs.declared.device.Package.{Package}
use Rattle.am_types.specs.declared.reply.Reply.{Reply}
use Rattle.am_types.specs.declared.rule.Rule.{Rule}
use Rattle.am_types.specs.declared.rule.Rule.TheVariants.{AdminOnly}
use Rattle.am_model.specs.Boards.{package_named}
use Rattle.am_model.specs.Gates.{is_privileged}
use Rattle.am_history.specs.State.{State}
use Rattle.am_history.specs.Answers.{refused, unless_refused, for_admin, for_found, for_package}
use Rattle.am_laws.proofs.Tests.{either_holds}

-- either of two answers
pub either_leaves : (P : State → Type 0) (test : Bool) (first second : Reply × State) → P first.1 → P second.1
    → P (cond test first second).1
either_leaves P = either_holds (λ next. P next.1)

-- an answer that a rule may refuse
pub unless_leaves : (P : State → Type 0) (state : State) (rule : Option Rule) (next : Reply × State) → P state
    → P next.1 → P (unless_refused state rule next).1
unless_leaves P state None next here after = after
unless_leaves P state (Some rule) next here after = here

-- an answer for the system and the root alone
pub admin_leaves : (P : State → Type 0) (state : State) (caller : ℕ) (next : Reply × State) → P state → P next.1
    → P (for_admin state caller next).1
admin_leaves P state caller next here after = either_leaves P (is_privileged caller) next (refused state AdminOnly)
    after here

-- an answer for the package of a name, if there is one
pub package_leaves : (P : State → Type 0) (state : State) (name : List ℕ) (next : Package → Reply × State)
    → P state → ((owner : Package) → package_named state.board.packages name ≡ Some owner → P (next owner).1)
    → P (for_package state name next).1
package_leaves P state name next here after = by (package_named state.board.packages name) refl
  where
    by : (found : Option Package) → package_named state.board.packages name ≡ found → P (for_found state found next).1
    by None is = here
    by (Some owner) is = after owner is
