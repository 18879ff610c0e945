-- A request that only reads leaves the state as it was, and is answered what it asks for or refused.
use Rattle.std.proofs.Common.{◌≡◌, ℕ, Bool, true, false, cond, List, refl}
use Rattle.std.specs.Prelude.{Option, Some, None}
use Rattle.am_types.specs.declared.history.Entry.{Entry}
use Rattle.am_types.specs.declared.request.Request.{Request}
use Rattle.am_types.specs.declared.request.Request.TheVariants as asks
use Rattle.am_types.specs.declared.reply.Reply.{Reply}
use Rattle.am_types.specs.declared.reply.Reply.TheVariants as replies
use Rattle.am_types.specs.declared.rule.Rule.{Rule}
use Rattle.am_types.specs.declared.rule.Rule.TheVariants as rules
use Rattle.am_model.specs.Accounts.{Question}
use Rattle.am_model.specs.Boards.{caller_of, uid_named}
use Rattle.am_model.specs.Gates.{is_privileged}
use Rattle.am_history.specs.State.{State}
use Rattle.am_history.specs.Answers.{refused, for_admin}
use Rattle.am_history.specs.Explaining.{told_at, told, told_as, explain}
use Rattle.am_history.specs.Steps.{act, class_of, Reads}

-- the rule is that a row couldn't be kept
abbrev pub is_fault : Rule → Bool
is_fault rules.KeeperFault = true
is_fault _ = false

-- the reply says that something was done, or that its row couldn't be kept
abbrev pub says_done : Reply → Bool
says_done (replies.Placed landed) = true
says_done (replies.Finished instance) = true
says_done (replies.Registered number) = true
says_done (replies.Token token) = true
says_done (replies.Installed uid) = true
says_done (replies.Started component starts) = true
says_done (replies.Sent broadcast receivers) = true
says_done (replies.Advanced due now) = true
says_done replies.Plain = true
says_done (replies.Refused rule) = is_fault rule
says_done _ = false

-- what a request that only reads comes to: a reply that says nothing was done, and the state as it was
pub data Read (state : State) : Reply × State → Type 0 where
  says : (reply : Reply) → says_done reply ≡ false → Read state (reply, state)

module _ (state : State) where
  -- an answer for the system and the root alone
  admin_reads : (caller : ℕ) (reply : Reply) → says_done reply ≡ false → Read state
      (for_admin state caller (reply, state))
  admin_reads caller reply nothing = by (is_privileged caller)
    where
      by : (privileged : Bool) → Read state (cond privileged (reply, state) (refused state rules.AdminOnly))
      by true = says reply nothing
      by false = says (replies.Refused rules.AdminOnly) refl

  -- the accounts of what has a uid, of what the package of a name has, and as a uid would ask for them
  told_at_reads : (asked : Question) (uid : Option ℕ) → says_done (told_at state.board asked uid) ≡ false
  told_at_reads asked None = refl
  told_at_reads asked (Some uid) = refl

  told_reads : (asked : Question) (shown : Option (List ℕ)) → says_done (told state.board asked shown) ≡ false
  told_reads asked None = refl
  told_reads asked (Some name) = told_at_reads asked (uid_named state.board.packages name)

  told_as_reads : (asked : Question) (shown : Option (List ℕ)) (uid : Option ℕ)
      → says_done (told_as state.board asked shown uid) ≡ false
  told_as_reads asked shown None = refl
  told_as_reads asked shown (Some uid) = told_reads (record asked { caller = uid }) shown

  -- whom an intent reaches and why not the others
  explain_reads : (asked : Question) (name shown : Option (List ℕ))
      → says_done (explain state.board asked name shown) ≡ false
  unfolding explain
  explain_reads asked None shown = told_reads asked shown
  explain_reads asked (Some name) shown = by (is_privileged asked.caller)
    where
      by : (privileged : Bool) → says_done (cond privileged
          (told_as state.board asked shown (caller_of state.board.packages name)) (replies.Refused rules.AdminOnly))
          ≡ false
      by true = told_as_reads asked shown (caller_of state.board.packages name)
      by false = refl

  -- each request that only reads
  pub act_reads : (before : List Entry) (caller : ℕ) (request : Request) → class_of request ≡ Reads
      → Read state (act state before caller request)
  unfolding act
  act_reads before caller (asks.Query kind intent default_only) only = says _ refl
  act_reads before caller (asks.Explain kind intent name permission shown) only =
      says _ (explain_reads (record { caller = caller; kind = kind; intent = intent; required = permission }) name
      shown)
  act_reads before caller asks.ListTasks only = says _ refl
  act_reads before caller asks.Services only = says _ refl
  act_reads before caller asks.Inbox only = says _ refl
  act_reads before caller (asks.History from) only = admin_reads caller _ refl
  act_reads before caller asks.Status only = admin_reads caller _ refl
  act_reads before caller request only = absurd cc

-- what holds of the state holds after a request that only reads
pub reading_leaves : (P : State → Type 0) (state : State) (next : Reply × State) → Read state next → P state → P next.1
reading_leaves P state next (says reply nothing) here = here
