use Rattle.std.proofs.Common.{◌≡◌, ◌++◌, ◌∷◌, [], ℕ, length, map, ap, sym, ◌∙◌, subst, append_assoc, arith}
use Rattle.std.specs.Prelude.{All}
use Rattle.std.proofs.lemmas.List.{map-append}
use Rattle.std.proofs.lemmas.List.Elements.{All-push}
use Rattle.am_workers.specs.declared.worker.Worker.{Worker}
use Rattle.am_workers.proofs.worker.hire.Goals as goal

pub loop-desk-preserved : goal.loop-desk-preserved
loop-desk-preserved g c =
    let inv = c.loop-desk.invariant in
    let so_far = c.loop-desk.workers.items in
    let pushed = c.push_reserved.ensures in
    let next_desk = c.in-Some.ensures.items in
    let next_gate = c.in-Some-Some.ensures.items in
    let long = ap length next_desk in
    let wide = ap length next_gate in
    let deep = ap length c.in-Some-Some.ensures'.items in
    let desks = c.pop_front.new.self.items in
    let gates = c.pop_front-in-Some.new.self.items in
    let P : Worker g.row.D.Denot g.row.A.Denot g.row.C.Denot → Type 0 =
    λ w. (calls : ℕ) → g.C.Clock.moments w.clock calls ≡ g.C.Clock.moments c.args.clock.now calls in
    record {
      desks = ap (λ ws. map (λ w. w.desk) ws ++ desks) pushed.items
          ∙ ap (λ ds. ds ++ desks) (map-append (λ w. w.desk) so_far _)
          ∙ append_assoc (map (λ w. w.desk) so_far) (c.in-Some.desk ∷ []) desks
          ∙ ap (λ ds. map (λ w. w.desk) so_far ++ ds) (sym next_desk)
          ∙ inv.desks;
      gates = ap (λ ws. map (λ w. w.gate) ws ++ gates) pushed.items
          ∙ ap (λ gs. gs ++ gates) (map-append (λ w. w.gate) so_far _)
          ∙ append_assoc (map (λ w. w.gate) so_far) (c.in-Some-Some.gate ∷ []) gates
          ∙ ap (λ gs. map (λ w. w.gate) so_far ++ gs) (sym next_gate)
          ∙ inv.gates;
      clocks = subst (All P) (sym pushed.items) (All-push P so_far _ inv.clocks c.another.ensures.same);
      count = let both = inv.count in omega (arith, both, long, wide);
      buffered = let both = inv.buffered in omega (arith, both, long, deep);
      room = let before = inv.room in let more = pushed.len in let same = pushed.capacity in omega
          (arith, before, more, same, long);
    }
