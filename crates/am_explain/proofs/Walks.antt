-- Walks along a device that add accounts.
use Rattle.std.proofs.Common.{◌≡◌, ℕ, ◌+◌, ◌≤◌, List, ◌++◌, drop}
use Rattle.std.specs.Prelude.{IsSome}
use Rattle.am_types.specs.declared.account.Account.{Account}
use Rattle.am_model.specs.Accounts.{Question}
use Rattle.am_model.specs.Boards.{Board}
use Rattle.am_explain.specs.Asking.{question_of}
use Rattle.am_explain.specs.declared.contest.Grounds.{Grounds}

-- what was added so far, and what the items that are left add, is what all of them add, within the tests that are left
abbrev pub AddsAlong : {X : Type 0} (grounds : Grounds) (accounts : Board → Question → List X → List Account)
    (tests : List X → ℕ) (items : List X) (index : ℕ) (before told : List Account) (old steps : ℕ) → Type 0
AddsAlong grounds accounts tests items index before told old steps = record {
  added : told ++ accounts grounds.installed.now (question_of grounds.question) (drop index items)
      ≡ before ++ accounts grounds.installed.now (question_of grounds.question) items;
  within : steps + tests (drop index items) ≤ old + tests items;
  none : IsSome grounds.question.intent.now.component → steps ≡ old;
}
