-- Who is reached by an intent and why the others aren't, as callers ask for it.
use Rattle.std.specs.Prelude.{ℕ, List, if◌then◌else◌, Option, Some, None}
use Rattle.am_types.specs.declared.reply.Reply.{Reply}
use Rattle.am_types.specs.declared.reply.Reply.TheVariants.{Accounts, Refused}
use Rattle.am_types.specs.declared.rule.Rule.TheVariants.{AdminOnly, NoPackage}
use Rattle.am_model.specs.Accounts.{Question, accounts}
use Rattle.am_model.specs.Boards.{Board, caller_of, uid_named}
use Rattle.am_model.specs.Gates.{is_privileged}

-- the accounts of what has that uid, if there is one
abbrev pub told_at : Board → Question → Option ℕ → Reply
told_at board asked None = Refused NoPackage
told_at board asked (Some uid) = Accounts (accounts board asked (Some uid))

-- all accounts, or those of what the package of a name has
abbrev pub told : Board → Question → Option (List ℕ) → Reply
told board asked None = Accounts (accounts board asked None)
told board asked (Some name) = told_at board asked (uid_named board.packages name)

-- the accounts as if that uid asked for them, if there is one
abbrev pub told_as : Board → Question → Option (List ℕ) → Option ℕ → Reply
told_as board asked shown None = Refused NoPackage
told_as board asked shown (Some uid) = told board (record asked { caller = uid }) shown

-- who is reached by the intent of the caller that asks, and why the others aren't; or by the intent of a named caller,
-- which only the system and the root may ask, even for their own name
unfoldable pub explain : Board → Question → Option (List ℕ) → Option (List ℕ) → Reply
explain board asked None shown = told board asked shown
explain board asked (Some name) shown =
    if is_privileged asked.caller then told_as board asked shown (caller_of board.packages name) else Refused AdminOnly
