use Rattle.std.proofs.lemmas.Str.{IsUtf8-past_char}
use Rattle.am_uri.proofs.PathReading.{marks-plain, marks-last, marks-escaped}
use Rattle.am_uri.proofs.pattern.next_mark.Goals as goal

pub returns-then-character-ne92-clause-text : goal.returns-then-character-ne92-clause-text
returns-then-character-ne92-clause-text c = IsUtf8-past_char _ _ c.in_ok-character.character c.requires
    c.in_ok-character.ensures.steps.0

pub returns-then-character-ne92-clause-mark : goal.returns-then-character-ne92-clause-mark
returns-then-character-ne92-clause-mark c = marks-plain _ _ c.in_ok-character.character c.requires
    c.in_ok-character.ensures.steps.0 c.if-character-ne92.true

pub returns-in-None-clause-mark : goal.returns-in-None-clause-mark
returns-in-None-clause-mark c = rw c.in-None.ensures.steps.0.1 (marks-last _ _ c.in_ok-character.character c.requires
    c.in_ok-character.ensures.steps.0 c.in-None.ensures.steps.0.0)

pub returns-in-Some-clause-text : goal.returns-in-Some-clause-text
returns-in-Some-clause-text c =
    let text = IsUtf8-past_char _ _ c.in_ok-character.character c.requires c.in_ok-character.ensures.steps.0 in
    IsUtf8-past_char _ _ c.in-Some.character text c.in-Some.ensures.steps.0

pub returns-in-Some-clause-mark : goal.returns-in-Some-clause-mark
returns-in-Some-clause-mark c =
    let text = IsUtf8-past_char _ _ c.in_ok-character.character c.requires c.in_ok-character.ensures.steps.0 in
    marks-escaped _ _ _ c.in_ok-character.character c.in-Some.character c.requires c.in_ok-character.ensures.steps.0
    text c.in-Some.ensures.steps.0 c.if-character-ne92.false
