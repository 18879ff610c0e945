-- Answers that several requests have in common.
use Rattle.std.specs.Prelude.{ℕ, List, if◌then◌else◌, Option, Some, None, Result, Ok, Err}
use Rattle.am_types.specs.declared.device.Package.{Package}
use Rattle.am_types.specs.declared.reply.Reply.{Reply}
use Rattle.am_types.specs.declared.reply.Reply.TheVariants.{Refused, Plain}
use Rattle.am_types.specs.declared.rule.Rule.{Rule}
use Rattle.am_types.specs.declared.rule.Rule.TheVariants as rules
use Rattle.am_model.specs.Boards.{package_named}
use Rattle.am_model.specs.Gates.{is_privileged}
use Rattle.am_history.specs.State.{State}

-- refused: nothing changes
abbrev pub refused : State → Rule → Reply × State
refused state rule = (Refused rule, state)

-- done: that is the state now
abbrev pub done : State → Reply × State
done state = (Plain, state)

-- refused by the rule of the fault, if there is one; else done, in the state with what is left
abbrev pub done_or : {A F : Type 0} → State → (F → Rule) → (A → State) → Result A F → Reply × State
done_or state rule next (Err fault) = refused state (rule fault)
done_or state rule next (Ok left) = done (next left)

-- refused by the rule, if there is one; else what follows
abbrev pub unless_refused : State → Option Rule → Reply × State → Reply × State
unless_refused state None next = next
unless_refused state (Some rule) next = refused state rule

-- only the system and the root may ask this
abbrev pub for_admin : State → ℕ → Reply × State → Reply × State
for_admin state caller next = if is_privileged caller then next else refused state rules.AdminOnly

-- what follows for a package, if there is one
abbrev pub for_found : State → Option Package → (Package → Reply × State) → Reply × State
for_found state None next = refused state rules.NoPackage
for_found state (Some owner) next = next owner

-- what follows for the installed package with that name, if there is one
abbrev pub for_package : State → List ℕ → (Package → Reply × State) → Reply × State
for_package state name next = for_found state (package_named state.board.packages name) next
