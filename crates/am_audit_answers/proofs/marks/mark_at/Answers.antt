use Rattle.std.proofs.Common.{◌≡◌, ◌++◌, codes, decimal, ◌∙◌}
use Rattle.std.specs.Prelude.{None}
use Rattle.std.proofs.lemmas.Bool.Decides.{Decides-eqb}
use Rattle.std.proofs.lemmas.Option.{none-some, same_Some}
use Rattle.std.proofs.lemmas.Slice.Eq.{strip_prefix_is}
use Rattle.am_audit_answers.proofs.MarkLemmas.{behind_at, number_has, place_has, place_is, rest_has}
use Rattle.am_audit_answers.proofs.marks.mark_at.Goals as goal

pub returns-in_err-place-clause-marked : goal.returns-in_err-place-clause-marked
returns-in_err-place-clause-marked c = λ at stored rest fits is.
    absurd (strip_prefix_is Decides-eqb c.args.lines.now (codes "AM-At: ") None c.in_err-place.ensures.cases
    (decimal at ++ behind_at stored rest) (is ∙ place_is at stored rest))

pub returns-in_err-at-clause-marked : goal.returns-in_err-at-clause-marked
returns-in_err-at-clause-marked c = λ at stored rest fits is.
    let has = place_has at stored rest c.args.lines.now c.in_ok-place.place.now is c.in_ok-place.ensures.cases.1 in
    absurd (none-some at (c.in_err-at.ensures at fits (number_has at stored rest c.in_ok-place.place.now
    c.before_return-number.result.now fits has c.before_return-number.ensures)))

pub returns-in_err-stored-clause-marked : goal.returns-in_err-stored-clause-marked
returns-in_err-stored-clause-marked c = λ at stored rest fits is.
    let has = place_has at stored rest c.args.lines.now c.in_ok-place.place.now is c.in_ok-place.ensures.cases.1 in
    let number = number_has at stored rest c.in_ok-place.place.now c.before_return-number.result.now fits has
    c.before_return-number.ensures in
    absurd (none-some stored (c.in_err-stored.ensures stored (codes "\r\n" ++ rest)
    (rest_has at stored rest c.in_ok-place.place.now c.before_return-number.result.now has number)))

pub returns-clause-marked : goal.returns-clause-marked
returns-clause-marked c = λ at stored rest fits is.
    let has = place_has at stored rest c.args.lines.now c.in_ok-place.place.now is c.in_ok-place.ensures.cases.1 in
    let number = number_has at stored rest c.in_ok-place.place.now c.before_return-number.result.now fits has
    c.before_return-number.ensures in
    let same_at : c.in_ok-at.at ≡ at = same_Some _ _ (c.in_ok-at.ensures at fits number) in
    let same_stored : c.in_ok-stored.stored ≡ stored =
    same_Some _ _ (c.in_ok-stored.ensures stored (codes "\r\n" ++ rest)
    (rest_has at stored rest c.in_ok-place.place.now c.before_return-number.result.now has number)) in
    cc
