-- A connection over the clock of a session.
use Rattle.std.proofs.Common.{◌≡◌, ℕ, Option, Some, None, refl, sym, subst}
use Rattle.std.proofs.Math.Path.{fun_ext}
use Rattle.am_outside.specs.Clock.{moment_at}
use Rattle.am_http.specs.declared.end.Served.{Served}
use Rattle.am_http.specs.declared.end.End.TheVariants.{Idle}
use Rattle.am_http.specs.Links.{Link, IsSameLink, Moments}
use Rattle.am_http.specs.Sessions.{Session, HasFault}
use Rattle.am_words.specs.declared.command.StepWords.{StepWords}
use Rattle.am_shell.specs.Clocks.{Connects, ServesOn, with_clock}

-- over the clock that was handed in
pub serves_handed : (asked : Option StepWords) (old new : Link) (served : Served) → asked ≡ None
    → (served.end ≡ Idle → ⊥) → Session old new served → HasFault served.end old new → IsSameLink old new
    → ServesOn asked served.end old new
serves_handed asked old new served none whole session fault same =
    subst (λ (a : Option StepWords). ServesOn a served.end old new) (sym none) (record {
      served = served;
      told = new.server.clock;
      went = record { ends = refl; whole = whole; session = session; fault = fault; same = same };
      clock = refl;
    })

-- over a clock of its own, which tells the moments that the words ask for
own_clock : (words : StepWords) (old new : Link) (first told : Moments) (served : Served)
    → ((calls : ℕ) → first calls ≡ Some (moment_at words.at words.step calls)) → new.server.clock ≡ old.server.clock
    → Connects (with_clock old first) (with_clock new told) served served.end → ServesOn (Some words) served.end old new
own_clock words old new first told served tells left went = record {
  served = served;
  told = told;
  went = subst (λ (moments : Moments). Connects (with_clock old moments) (with_clock new told) served served.end)
      (fun_ext tells) went;
  clock = left;
}

pub serves_own : (asked : Option StepWords) (words : StepWords) (old new : Link) (first told : Moments)
    (served : Served) → asked ≡ Some words
    → ((calls : ℕ) → first calls ≡ Some (moment_at words.at words.step calls)) → new.server.clock ≡ old.server.clock
    → (served.end ≡ Idle → ⊥) → Session (with_clock old first) (with_clock new told) served
    → HasFault served.end (with_clock old first) (with_clock new told)
    → IsSameLink (with_clock old first) (with_clock new told) → ServesOn asked served.end old new
serves_own asked words old new first told served some tells left whole session fault same =
    subst (λ (a : Option StepWords). ServesOn a served.end old new) (sym some)
    (own_clock words old new first told served tells left (record {
      ends = refl;
      whole = whole;
      session = session;
      fault
          = fault;
      same = same;
    }))
