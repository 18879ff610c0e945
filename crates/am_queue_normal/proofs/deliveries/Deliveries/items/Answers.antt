use Rattle.std.proofs.Common.{◌≡◌, ◌+◌, ◌++◌, ◌∷◌, [], ◌∙◌, length, length-append, ap, sym, arith}
use Rattle.std.proofs.lemmas.List.{take_all}
use Rattle.am_queue_normal.specs.Posted.{is_to, item_of, items_at}
use Rattle.am_queue_normal.proofs.Finding.{all_below, enough_below, items_to, next_below, nothing_below, passes_found, passes_within}
use Rattle.am_queue_normal.proofs.deliveries.Deliveries.items.Goals as goal

pub loop-items-init : goal.loop-items-init
loop-items-init c = rw c.new-items.ensures.items (sym (nothing_below c.args.uid c.args.self.now), omega arith)

pub returns-in-None : goal.returns-in-None
returns-in-None c =
    let es = c.args.self.now in
    let all : c.loop-items.items.items ≡ items_to c.args.uid es =
    c.loop-items.invariant.0 ∙ all_below c.args.uid c.loop-items.from c.args.end es c.requires c.in-None.ensures in
    all ∙ sym (take_all c.args.most (items_to c.args.uid es) (omega (arith, c.loop-items.invariant.1, ap length all)))

pub overflow_add-from : goal.overflow_add-from
overflow_add-from c =
    omega (
      arith,
      c.ranges.end.fits,
      passes_within (is_to c.args.uid) c.args.end c.in-Some.number c.args.self.now
          c.requires c.in-Some.ensures.1,
    )

pub loop-items-smaller : goal.loop-items-smaller
loop-items-smaller c =
    omega (
      arith,
      c.in-Some.ensures.0,
      passes_within (is_to c.args.uid) c.args.end c.in-Some.number c.args.self.now
          c.requires c.in-Some.ensures.1,
    )

pub loop-items-preserved : goal.loop-items-preserved
loop-items-preserved c =
    let es = c.args.self.now in
    let items = c.loop-items.items.items in
    let number = c.in-Some.number in
    let found = passes_found (is_to c.args.uid) number es c.in-Some.ensures.1 in
    let one_more : c.push_item.new.items.items ≡ items ++ item_of (number, found.0) ∷ [] =
    c.in_ok-push_item-in-Some.ensures ∙ ap (λ o. items ++ items_at number o) found.1 in
    let longer : length c.push_item.new.items.items ≡ length items + 1 = ap length one_more
    ∙ length-append items (item_of (number, found.0) ∷ []) in (
      one_more ∙ ap (λ l. l ++ item_of (number, found.0) ∷ []) c.loop-items.invariant.0
          ∙ sym (next_below c.args.uid c.loop-items.from c.args.end es c.requires number found.0 c.in-Some.ensures
          found.1),
      omega (arith, longer, c.loop-items-test.true, c.len.ensures),
    )

pub returns : goal.returns
returns c =
    let exact : length c.loop-items.items.items ≡ c.args.most = omega (arith, c.loop-items.invariant.1) in
    c.loop-items.invariant.0
    ∙ sym (enough_below c.args.uid c.loop-items.from c.args.end c.args.self.now c.requires c.args.most
    (sym (ap length c.loop-items.invariant.0) ∙ exact))
