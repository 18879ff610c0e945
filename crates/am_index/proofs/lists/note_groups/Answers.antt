use Rattle.std.proofs.Common.{◌≡◌, ◌+◌, ◌++◌, ◌∷◌, [], ◌∙◌, take, sym, ap, arith}
use Rattle.std.proofs.lemmas.List.{take_more, take_all}
use Rattle.am_index.specs.Lists.{spots_at, noted, asks_for}
use Rattle.am_index.specs.Members.{spots_without}
use Rattle.am_index.proofs.Noting.{noted_before, noted_more}
use Rattle.am_index.proofs.lists.note_groups.Goals as goal
use Rattle.am_index.proofs.lists.note_groups.Goals.{then-not-contains+in_ok-note_group, else-not-contains}

pub loop-i-preserved : goal.loop-i-preserved
loop-i-preserved c =
    let kind = c.args.kind in
    let owner = c.args.owner.now in
    let spot = c.args.spot in
    let i = c.loop-i.i in
    let front = take i c.args.groups.now in
    let group = c.index-groups-i.result in
    let more : take (i + 1) c.args.groups.now ≡ front ++ group ∷ [] =
    take_more c.args.groups.now i group c.loop-i-test.true ∙ ap (λ x. front ++ x ∷ []) (sym c.index-groups-i.is) in
    elim c.if-not-contains.branch [
      | then-not-contains+in_ok-note_group w ↦ record {
        noted = λ key.
            let base = spots_at c.args.lists.now key in
            ap (λ m. spots_at m key) w.lists-is
            ∙ noted_more kind owner front group key spot base (spots_at c.loop-i.lists key)
            (c.loop-i.invariant.noted key) (spots_at w.note_group.new.lists key)
            (sym c.contains.ensures.value ∙ w.if-not-contains.true) (w.in_ok-note_group.ensures.noted key)
            ∙ ap (λ t. noted (asks_for kind owner t key) spot base) (sym more);
        others = λ key.
            ap (λ m. spots_without (spots_at m key) spot.uid) w.lists-is ∙ w.in_ok-note_group.ensures.others key
            ∙ c.loop-i.invariant.others key;
      }
      | else-not-contains w ↦ record {
        noted = λ key.
            let base = spots_at c.args.lists.now key in
            ap (λ m. spots_at m key) w.lists-is
            ∙ noted_before kind owner front group key spot base (spots_at c.loop-i.lists key)
            (c.loop-i.invariant.noted key)
            (sym c.contains.ensures.value ∙ w.if-not-contains.false)
            ∙ ap (λ t. noted (asks_for kind owner t key) spot base) (sym more);
        others = λ key. ap (λ m. spots_without (spots_at m key) spot.uid) w.lists-is ∙ c.loop-i.invariant.others key;
      }
    ]

pub returns-clause-noted : goal.returns-clause-noted
returns-clause-noted c = λ key.
    c.loop-i.invariant.noted key
    ∙ ap (λ t. noted (asks_for c.args.kind c.args.owner.now t key) c.args.spot (spots_at c.args.lists.now key))
    (take_all c.loop-i.i c.args.groups.now (omega arith))
