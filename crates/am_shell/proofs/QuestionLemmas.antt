-- How a question went, from how its caller was answered.
use Rattle.std.proofs.Common.{◌≡◌, ℕ, ◌-◌, ◌≤◌, List, length, Result, Ok, Err, refl, sym, subst, inr, arith}
use Rattle.std.specs.Prelude.{IfOk, IfErr}
use Rattle.std.specs.Io.KnownBytes.{Consumes}
use Rattle.am_visible.specs.Answers.{answer_to}
use Rattle.am_manifest_queries.specs.declared.device.Described.{Described}
use Rattle.am_http.specs.Links.{SourceView}
use Rattle.am_http.specs.Sessions.{GivesAtMost}
use Rattle.am_http.proofs.NextLemmas.{gives_more}
use Rattle.am_console.specs.declared.setback.Setback.TheVariants as setbacks
use Rattle.am_words.specs.declared.command.QuestionWords.{QuestionWords}
use Rattle.am_shell.specs.declared.undone.Undone.{Undone}
use Rattle.am_shell.specs.declared.undone.Undone.TheVariants as undone
use Rattle.am_shell.specs.Questions.{FailsToRead, Happens, IsAsked, IsNoReply, IsRead, RunsQuestion, TellsAnswer, most_read}
use Rattle.am_shell.specs.World.{World, voices_in}

-- the caller's answer is that of the question
went : (result : Result (List ℕ) Undone) (asked : QuestionWords) (before after : World) (known : Described) (caller : ℕ)
    (bytes : List ℕ)
    → IsAsked asked before.files known caller → IsRead before.input after.input bytes
    → IfOk result (λ text. answer_to known caller bytes ≡ Ok text)
    → IfErr result (λ why. IsNoReply why (answer_to known caller bytes)) → Happens result asked before after
went (Ok text) asked before after known caller bytes asks read answers fails =
    record { known = known; caller = caller; asks = asks; bytes = bytes; input = read; answers = answers }
went (Err (undone.QueryRefused line)) asked before after known caller bytes asks read answers fails = (
  fails.0,
  record { known = known; caller = caller; asks = asks; bytes = bytes; input = read; answers = fails.1 },
  fails.2,
)
went (Err (undone.Setback setbacks.NoMemory)) asked before after known caller bytes asks read answers fails =
    inr (refl, record { known = known; caller = caller; asks = asks; taken = (bytes, read.taken, read.within) })
went (Err why) asked before after known caller bytes asks read answers fails = absurd fails

pub answered : (result : Result (List ℕ) Undone) (asked : QuestionWords) (before after : World) (known : Described)
    (caller : ℕ) (bytes body : List ℕ)
    → body ≡ bytes → IsAsked asked before.files known caller → IsRead before.input after.input bytes
    → IfOk result (λ text. answer_to known caller body ≡ Ok text) → IfErr result
    (λ why. IsNoReply why (answer_to known caller body))
    → Happens result asked before after
answered result asked before after known caller bytes body same asks read answers fails =
    went result asked before after known caller body asks (subst (IsRead before.input after.input) (sym same) read)
    answers fails

-- what was taken behind bytes that were read
given_behind : (before mid after : SourceView) (bytes : List ℕ) → Consumes before.left mid.left bytes
    → length bytes ≤ most_read
    → GivesAtMost (most_read - length bytes) mid.left after.left → GivesAtMost most_read before.left after.left
given_behind before mid after bytes taken within given =
    gives_more (length bytes) (most_read - length bytes) most_read before.left mid.left after.left
    (omega (arith, within)) (bytes, taken, omega arith) given

-- the input wasn't read on behind bytes that were read
pub failed_behind : (why : Undone) (before mid after : SourceView) (bytes : List ℕ)
    → Consumes before.left mid.left bytes → length bytes ≤ most_read
    → before.faults ≤ mid.faults → FailsToRead why (most_read - length bytes) mid after
    → FailsToRead why most_read before after
failed_behind undone.InputFault before mid after bytes taken within falls fails =
    (omega (arith, falls, fails.0), given_behind before mid after bytes taken within fails.1)
failed_behind (undone.Setback setbacks.NoMemory) before mid after bytes taken within falls fails =
    given_behind before mid after bytes taken within fails
failed_behind why before mid after bytes taken within falls fails = absurd fails

-- a question that went so and is told so
pub runs : (work : Result (List ℕ) Undone) (asked : QuestionWords) (before after : World) (status : ℕ)
    → Happens work asked before after → TellsAnswer work (voices_in before) (voices_in after) status
    → RunsQuestion asked before after status
runs work asked before after status happened told = record { work = work; happened = happened; told = told }
