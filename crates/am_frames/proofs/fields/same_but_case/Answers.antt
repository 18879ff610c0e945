use Rattle.std.proofs.lemmas.Bool.Decides.{same_from_decides}
use Rattle.std.proofs.lemmas.Slice.Eq.{bytes_eq-Decides}
use Rattle.am_frames.specs.Fields.{same_but_case}
use Rattle.am_frames.proofs.fields.same_but_case.Goals as goal

pub returns : goal.returns
unfolding same_but_case
returns c = same_from_decides _ _ c.eq_ignore_ascii_case.ensures.test (bytes_eq-Decides _ _)
