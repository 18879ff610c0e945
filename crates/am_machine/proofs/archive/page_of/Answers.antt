use Rattle.std.proofs.Common.{◌≡◌, ◌∙◌, ℕ, ◌-◌, List, drop, take, length, sym, ap, Result, Ok, Err}
use Rattle.std.specs.Prelude.{IfOk}
use Rattle.std.proofs.lemmas.List.{take_min, length-drop}
use Rattle.std.proofs.Math.Seq.{take-length}
use Rattle.am_types.specs.declared.failure.NoMemory.{NoMemory}
use Rattle.am_types.specs.declared.history.Entry.{Entry}
use Rattle.am_machine.proofs.archive.page_of.Goals as goal

pub returns : goal.returns
returns c = by c.unpacked.result c.unpacked.ensures
  where
    behind : List Entry
    behind = drop c.args.from c.args.stored.now

    rest : List Entry
    rest = take (length c.args.stored.now - c.args.from) behind

    -- the slice is all that stands behind
    whole : rest ≡ behind
    whole = ap (λ (n : ℕ). take n behind) (sym (length-drop c.args.from c.args.stored.now)) ∙ take-length behind

    by : (copy : Result (List Entry) NoMemory) → IfOk copy (λ entries. entries ≡ take c.min-end.result rest)
        → IfOk copy (λ entries. entries ≡ take c.args.most behind)
    by (Ok entries) is =
        is ∙ ap (λ (n : ℕ). take n rest) c.min-end.ensures ∙ take_min c.args.most rest
        ∙ ap (λ (l : List Entry). take c.args.most l) whole
    by (Err error) is = tt
