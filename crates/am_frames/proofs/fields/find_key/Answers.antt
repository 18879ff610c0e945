use Rattle.std.proofs.Common.{sym, ap, ◌∙◌}
use Rattle.am_frames.specs.Fields.{first_text, key_of}
use Rattle.am_frames.proofs.fields.find_key.Goals as goal

pub returns-in-Absent-clause-key : goal.returns-in-Absent-clause-key
unfolding key_of
returns-in-Absent-clause-key c = sym (ap first_text c.in-Absent.ensures.values)

pub returns-in-Once-clause-key : goal.returns-in-Once-clause-key
unfolding key_of
returns-in-Once-clause-key c = c.text_or_nowhere.ensures.text ∙ sym (ap first_text c.in-Once.ensures.values)

pub returns-in-Repeated-clause-key : goal.returns-in-Repeated-clause-key
unfolding key_of
returns-in-Repeated-clause-key c =
    c.text_or_nowhere-in-Repeated.ensures.text ∙ sym (ap first_text c.in-Repeated.ensures.values.2)
