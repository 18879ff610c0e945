use Rattle.std.proofs.Common.{[], ◌∷◌, None, Some}
use Rattle.std.proofs.lemmas.Bool.Decides.{Decides-eqb}
use Rattle.std.proofs.lemmas.Slice.Eq.{strip_prefix_is}
use Rattle.httparse.specs.Ascii.{crlf_bytes, line_feed}
use Rattle.httparse.specs.Grammar.{crlf}
use Rattle.am_audit_frames.proofs.OpenLines.{line_or_none}
use Rattle.am_audit_frames.proofs.target.behind_line.Goals as goal

pub returns-in-Some : goal.returns-in-Some
returns-in-Some c =
    (crlf, strip_prefix_is Decides-eqb c.args.text.now crlf_bytes (Some c.in-Some.rest) c.in-Some.ensures.cases)

pub returns-in-None : goal.returns-in-None
returns-in-None c =
    let text = c.args.text.now in
    line_or_none text c.strip_prefix-in-None.result (strip_prefix_is Decides-eqb text crlf_bytes None
    c.in-None.ensures.cases)
    (strip_prefix_is Decides-eqb text (line_feed ∷ []) c.strip_prefix-in-None.result
    c.strip_prefix-in-None.ensures.cases)
