use Rattle.std.proofs.Common.{ℕ, List, ap, ◌∙◌, codes, reverse}
use Rattle.httparse.specs.Grammar.{skip_ows, trim_ows}
use Rattle.am_frames.specs.Fields.{same_but_case, is_close}
use Rattle.am_frames.proofs.fields.is_close.Goals as goal

pub returns : goal.returns
unfolding is_close trim_ows
returns c =
    c.same_but_case.ensures
    ∙ ap (λ (t : List ℕ). same_but_case t (codes "close"))
    (c.trim_end.ensures ∙ ap (λ (t : List ℕ). reverse (skip_ows (reverse t))) c.trim_start.ensures)
