use Rattle.std.proofs.Common.{◌≡◌, ◌+◌, ◌<◌, ◌++◌, ◌∷◌, [], ◌∙◌, length, take, ap, sym, subst, arith, nat_cmp}
use Rattle.std.proofs.lemmas.List.{length-take-le, take_more}
use Rattle.std.specs.Prelude.{None}
use Rattle.std.specs.List.{AllByRecursion}
use Rattle.std.specs.BTreeMap.{insert_entry}
use Rattle.am_queue_normal.specs.declared.delivery.Broadcast.{Broadcast}
use Rattle.am_queue_normal.specs.Posted.{posted_as, posted_at, posted_to, without}
use Rattle.am_queue_normal.proofs.Ordered.{Entry, below_end, next_free, one_more, taken_back}
use Rattle.am_queue_normal.proofs.deliveries.Deliveries.put_all.Goals as goal

pub put_one-requires : goal.put_one-requires
put_one-requires c =
    let first = c.deref.result.now.first in
    let to = take c.loop-place.place c.args.to.now in
    let as_many : length to ≡ c.loop-place.place = length-take-le c.loop-place.place c.args.to.now
    (omega (arith, c.loop-place-test.true)) in
    let below : AllByRecursion (λ (e : Entry). e.0 < first) c.args.self.now =
    rw (ap (λ (s : Broadcast). s.first) c.deref.ensures) (below_end c.args.sent.now.value.first c.args.self.now
    c.requires.order) in
    rw c.loop-place.invariant
    (subst (λ n. posted_at (first + n) (c.args.self.now ++ posted_to c.args.sent.now.value c.args.deadline first to)
    ≡ None) as_many
    (next_free c.args.sent.now.value c.args.deadline first c.args.self.now below to))

pub loop-place-preserved : goal.loop-place-preserved
loop-place-preserved c =
    let first = c.deref.result.now.first in
    let sent = c.args.sent.now.value in
    let old = c.args.self.now in
    let to = take c.loop-place.place c.args.to.now in
    let spot = c.index-to-place.result in
    let as_many : length to ≡ c.loop-place.place = length-take-le c.loop-place.place c.args.to.now
    (omega (arith, c.loop-place-test.true)) in
    let below : AllByRecursion (λ (e : Entry). e.0 < first) old =
    rw (ap (λ (s : Broadcast). s.first) c.deref.ensures) (below_end sent.first old c.requires.order) in
    c.in-Ok.ensures.ok
    ∙ ap (λ es. insert_entry nat_cmp es (first + c.loop-place.place) (posted_as sent c.args.deadline spot))
    c.loop-place.invariant
    ∙ subst (λ n. insert_entry nat_cmp (old ++ posted_to sent c.args.deadline first to) (first + n)
    (posted_as sent c.args.deadline spot) ≡ old ++ posted_to sent c.args.deadline first (to ++ spot ∷ [])) as_many
    (one_more sent c.args.deadline first old below to spot)
    ∙ sym (ap (λ l. old ++ posted_to sent c.args.deadline first l)
    (take_more c.args.to.now c.loop-place.place spot c.loop-place-test.true
    ∙ ap (λ x. to ++ x ∷ []) (sym c.index-to-place.is)))

pub returns-in-Err-clause-err : goal.returns-in-Err-clause-err
returns-in-Err-clause-err c =
    let first = c.deref.result.now.first in
    let sent = c.args.sent.now.value in
    let old = c.args.self.now in
    let to = take c.loop-place.place c.args.to.now in
    let as_many : length to ≡ c.loop-place.place = length-take-le c.loop-place.place c.args.to.now
    (omega (arith, c.loop-place-test.true)) in
    let below : AllByRecursion (λ (e : Entry). e.0 < first) old =
    rw (ap (λ (s : Broadcast). s.first) c.deref.ensures) (below_end sent.first old c.requires.order) in
    c.take_back.ensures
    ∙ ap (without first c.loop-place.place) (c.in-Err.ensures.err ∙ c.loop-place.invariant)
    ∙ subst (λ n. without first n (old ++ posted_to sent c.args.deadline first to) ≡ old) as_many
    (taken_back sent c.args.deadline first to old below)
