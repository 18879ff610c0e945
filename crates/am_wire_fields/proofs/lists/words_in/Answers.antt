-- The loop's steps.
use Rattle.std.proofs.Common.{map, ℕ, List, [], ◌∷◌, Bor}
use Rattle.std.proofs.lemmas.List.{map-append}
use Rattle.std.proofs.lemmas.Result.{err_from_is_err_and}
use Rattle.serde_json.specs.View.{view}
use Rattle.am_wire_fields.specs.Lists.{each, word_in, words_in}
use Rattle.am_wire_fields.proofs.Each.{goes_on, ends, is_done}
use Rattle.am_wire_fields.proofs.lists.words_in.Goals as goal

pub returns-in_err-word : goal.returns-in_err-word
unfolding words_in
returns-in_err-word c =
    let p = err_from_is_err_and c.from_residual.result c.from_residual.ensures.1 in
    let read = word_in (map (λ (listed : Bor (List ℕ)). listed.now) c.args.words.now) c.args.name.now in
    rw (p.1, p.2) (ends read (map (λ (word : Bor (List ℕ)). word.now) c.loop-value.said.items) c.loop-value.value-index
    c.args.values.now (each read (map view c.args.values.now)) c.in_err-word.field-0.0 c.value-item.result
    c.loop-value-test.true c.value-item.is c.in_err-word.ensures c.loop-value.invariant)

pub loop-value-preserved : goal.loop-value-preserved
loop-value-preserved c =
    let read = word_in (map (λ (listed : Bor (List ℕ)). listed.now) c.args.words.now) c.args.name.now in
    rw (
      c.in_ok-push.ensures.items,
      map-append (λ (word : Bor (List ℕ)). word.now) c.loop-value.said.items
          (c.in_ok-word.word ∷ []),
    ) (goes_on read (map (λ (word : Bor (List ℕ)). word.now) c.loop-value.said.items)
    c.loop-value.value-index c.args.values.now (each read (map view c.args.values.now)) c.value-item.result
    c.in_ok-word.word.now c.loop-value-test.true c.value-item.is c.in_ok-word.ensures c.loop-value.invariant)

pub returns : goal.returns
unfolding words_in
returns c =
    let read = word_in (map (λ (listed : Bor (List ℕ)). listed.now) c.args.words.now) c.args.name.now in
    is_done read (map (λ (word : Bor (List ℕ)). word.now) c.loop-value.said.items) c.loop-value.value-index
    c.args.values.now (each read (map view c.args.values.now)) c.loop-value-test.false c.loop-value.invariant
