use Rattle.std.proofs.Common.{ℕ, List, sym, ◌∙◌, subst}
use Rattle.std.proofs.lemmas.Bool.Decides.{Decides-eqb}
use Rattle.std.proofs.lemmas.Slice.Eq.{slice_eq-Decides}
use Rattle.serde_json.specs.View.{view}
use Rattle.am_audit_history.specs.Lines.{IsTextOf}
use Rattle.am_audit_history.proofs.Entries.{written_is}
use Rattle.am_audit_history.proofs.text.is_text_of.Goals as goal

pub returns : goal.returns
returns c =
    let same = slice_eq-Decides Decides-eqb _ _ _ c.eq.ensures in
    let own = written_is c.in_ok-written.written (view c.in_ok-entry_value.field-0) c.args.at c.args.entry.now
    c.in_ok-entry_value.ensures
    c.in_ok-written.ensures.text c.in_ok-written.ensures.reads_back in
    let P : List ℕ → Type 0 = IsTextOf c.args.at c.args.entry.now in (
      λ yes. subst P (sym c.as_bytes.ensures.value ∙ same.0 yes) own,
      λ is. same.1 (c.as_bytes.ensures.value ∙ own.compact ∙ sym is.compact),
    )
