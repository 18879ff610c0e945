use Rattle.std.proofs.Common.{◌≡◌, ℕ, List, subst, sym, inr}
use Rattle.am_http.specs.declared.answer.Answer.{Answer}
use Rattle.am_http.specs.declared.answer.Answer.TheVariants.{Refused, NoMemory as RanOut}
use Rattle.am_http.specs.Answering.{Says}
use Rattle.am_http.specs.Responses as texts
use Rattle.am_http.proofs.send.write_answer.Goals as goal

-- each answer may be that memory ran out
says_no_memory : (a : Answer) (bytes : List ℕ) → a ≡ RanOut → bytes ≡ texts.no_memory_before → Says a bytes
says_no_memory a bytes is said = subst (λ (x : Answer). Says x bytes) (sym is) said

says_refused : (a : Answer) (bytes : List ℕ) (refusal : _) → a ≡ Refused refusal → bytes ≡ texts.no_memory_before
    → Says a bytes
says_refused a bytes refusal is said = subst (λ (x : Answer). Says x bytes) (sym is) (inr said)

pub returns-in-Err-clause-sent : goal.returns-in-Err-clause-sent
returns-in-Err-clause-sent g c = (
  c.no_memory_before.result.now,
  says_refused c.args.answer c.no_memory_before.result.now _ c.in-Refused.is c.no_memory_before.ensures,
  c.write_all-in-Err.ensures.sent,
)

pub returns-in-NoMemory-clause-sent : goal.returns-in-NoMemory-clause-sent
returns-in-NoMemory-clause-sent g c = (
  c.no_memory_before-in-NoMemory.result.now,
  says_no_memory c.args.answer c.no_memory_before-in-NoMemory.result.now c.in-NoMemory.is c.no_memory_before-in-NoMemory.ensures,
  c.write_all-in-NoMemory.ensures.sent,
)
