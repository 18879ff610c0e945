use Rattle.std.proofs.Common.{◌≡◌, ◌∙◌, ap, sym, subst, map, rules, true, false, List, inl, inr, Option, None}
use Rattle.std.specs.Borrow.{Bor}
use Rattle.clap.specs.Words.{app_of, kind_of}
use Rattle.clap.specs.declared.error.kind.ErrorKind.{ErrorKind}
use Rattle.clap.specs.declared.error.kind.ErrorKind.TheVariants.{OutOfMemory}
use Rattle.am_words.specs.Options.{Text, Options, options_of}
use Rattle.am_words.specs.Answers.{Fails, fault_of}
use Rattle.am_words.specs.declared.command.WordsFault.{WordsFault}
use Rattle.am_words.specs.declared.command.WordsFault.TheVariants as fault
use Rattle.am_words.proofs.OptionLemmas.{unfit}
use Rattle.am_words.proofs.ParsedLemmas.{fit_texts, free_of, read_at_ok, unread_at_err}
use Rattle.am_words.proofs.options.read_options.Goals as goal

abbrev texts : List (Bor Text) → List Text
texts = map (λ text. text.now)

pub returns-then-not-are_fit-clause-read : goal.returns-then-not-are_fit-clause-read
returns-then-not-are_fit-clause-read c = unfit (texts c.args.names.now) (texts c.args.words.now)
    (fit_texts c.args.words.now false (search rules))

pub returns-in-Ok-clause-read : goal.returns-in-Ok-clause-read
returns-in-Ok-clause-read c =
    let names = texts c.args.names.now in
    let words = texts c.args.words.now in
    read_at_ok names words (app_of c.in_ok-command.command) c.in-Ok.matches c.in_ok-command.ensures
    (fit_texts c.args.words.now true (search rules))
    (c.in-Ok.ensures.kinds (free_of names (app_of c.in_ok-command.command) c.in_ok-command.ensures))
    c.in-Ok.ensures.matches

of_memory : {X : Type 0} (kind : ErrorKind) (read : Option X) → kind ≡ OutOfMemory → Fails (fault_of kind) read
of_memory kind read is = let P : ErrorKind → Type 0 = λ k. Fails (fault_of k) read in subst P (sym is) tt

of_words : {X : Type 0} (met : WordsFault) (read : Option X) → read ≡ None → Fails met read
of_words fault.NoMemory read none = tt
of_words fault.Usage read none = none

pub returns-in-Err-clause-read : goal.returns-in-Err-clause-read
returns-in-Err-clause-read c =
    let names = texts c.args.names.now in
    let words = texts c.args.words.now in
    let kind : ErrorKind = kind_of c.in-Err.error in
    let read : Option Options = options_of names words in
    let told : Fails (fault_of kind) read = elim (c.in-Err.ensures.kinds
    (free_of names (app_of c.in_ok-command.command) c.in_ok-command.ensures)) [
      | inl memory ↦ of_memory kind read memory
      | inr among ↦ of_words (fault_of kind) read (unread_at_err names words (app_of c.in_ok-command.command) kind
          c.in_ok-command.ensures (fit_texts c.args.words.now true (search rules)) among)
    ] in
    let P : WordsFault → Type 0 = λ met. Fails met read in
    subst P (sym (c.fault_of.ensures ∙ ap fault_of c.kind.ensures)) told
