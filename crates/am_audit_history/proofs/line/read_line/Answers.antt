use Rattle.std.proofs.Common.{Some, refl, subst}
use Rattle.std.specs.Prelude.{Option, IfSome}
use Rattle.std.proofs.lemmas.Bool.Decides.{Decides-eqb}
use Rattle.std.proofs.lemmas.Slice.Eq.{strip_suffix_is}
use Rattle.am_types.specs.declared.history.Entry.{Entry}
use Rattle.am_audit_history.specs.Lines.{IsWhole}
use Rattle.am_audit_history.proofs.line.read_line.Goals as goal

pub returns-in-Ok-true : goal.returns-in-Ok-true
returns-in-Ok-true c = record {
  text = c.in-Some.text.now;
  ends = strip_suffix_is Decides-eqb c.args.line.now _ (Some c.in-Some.text) c.in-Some.ensures.cases;
  says = (rw c.in-Ok-true.field-0-test at c.in-Ok-true.ensures).0 refl;
  whole =
      let P : Option Entry → Type 0 = λ o. IfSome o IsWhole in
      subst P c.in-Some-2.is c.in_ok-entry.ensures.whole;
}
