use Rattle.std.proofs.Common.{◌≡◌, ◌*◌, ap, sym, subst}
use Rattle.std.specs.Prelude.{IfOk, OnOk}
use Rattle.am_history.specs.Desks.{start_of}
use Rattle.am_history.specs.Steps.{Call}
use Rattle.am_wire_values.specs.Replies.{status_of}
use Rattle.am_drill.specs.Desks.{IsPlain}
use Rattle.am_drill.specs.Drills.{answer, history_after}
use Rattle.am_drill.proofs.CallsMade.{anyway, drawn_behind, made_call}
use Rattle.am_drill.proofs.PlainRequests.{generated_is_plain}
use Rattle.am_drill.proofs.calls.call.Goals as goal

pub make-requires : goal.make-requires
make-requires g c = record {
  alone = c.requires.alone;
  plain = subst IsPlain (sym c.in_ok-request.ensures.made) (generated_is_plain c.below-case.result
      c.below-case.new.self);
}

pub returns : goal.returns
returns g c =
    let made = made_call c.args.draws.now c.below-number.new.self c.below-case.new.self c.below-case.result
    c.below-number.ensures.goes_on c.below-case.ensures.goes_on c.below-case.ensures.drawn
    c.args.packages c.args.j c.below-number.result c.in_ok-key.key (1000 * c.from.result) c.in_ok-request.request
    c.below-number.ensures.drawn c.in_ok-key.ensures (ap (λ n. 1000 * n) c.from.ensures) c.in_ok-request.ensures.made in
    let first = g.D.Desk.view c.args.desk.now in
    record {
      status = subst (λ (call : Call). IfOk c.make.result (λ status. status
          ≡ status_of (answer (start_of first) first.seen call)))
          made c.make.ensures.status;
      seen = subst (λ (call : Call). OnOk c.make.result ((g.D.Desk.view c.make.new.desk).seen
          ≡ history_after (start_of first) first.seen call))
          made c.make.ensures.seen;
      same = c.make.ensures.same;
      drawn = anyway c.make.result
          (drawn_behind c.args.draws.now c.below-number.new.self c.below-case.new.self c.below-case.result
          c.below-number.ensures.goes_on c.below-case.ensures.goes_on c.below-case.ensures.drawn
          c.request.new.draws c.in_ok-request.ensures.drawn);
    }
