use Rattle.std.proofs.Common.{◌≡◌, ◌+◌, true, take, sym, ◌∙◌, subst}
use Rattle.std.proofs.lemmas.Bool.{both_ways, false≢true}
use Rattle.std.proofs.lemmas.List.{take_rest}
use Rattle.httparse.specs.Grammar.{AllPass, is_token, is_uri_byte}
use Rattle.am_audit_frames.proofs.OpenLines.{open_line_from, open_line_method, open_line_target, no_open_line}
use Rattle.am_audit_frames.proofs.target.is_open_line.Goals as goal

pub returns-then-is_token : goal.returns-then-is_token
returns-then-is_token c =
    let line = c.args.line.now in
    let at = c.in-Some.at in
    let found = c.in-Some.ensures in
    let rest = take_rest line (at + 1) in
    let token : is_token (take at line) ≡ true = sym c.is_token.ensures ∙ c.if-is_token.true in (
      λ pass. open_line_from line at found.0 found.1 token (subst (AllPass is_uri_byte) rest
          (c.all_target.ensures.0 pass)),
      λ x.
          c.all_target.ensures.1
          (subst (AllPass is_uri_byte) (sym rest) (open_line_target line at found.2 found.0 found.1 x)),
    )

pub returns-else-is_token : goal.returns-else-is_token
returns-else-is_token c =
    let line = c.args.line.now in
    let found = c.in-Some.ensures in (
      λ yes. absurd (both_ways c.is_token.result c.if-is_token.false yes),
      λ x. c.is_token.ensures ∙ open_line_method line c.in-Some.at found.2 found.0 found.1 x,
    )

pub returns-in-None : goal.returns-in-None
returns-in-None c = (λ no. absurd (false≢true no), λ x. absurd (no_open_line c.args.line.now c.in-None.ensures x))
