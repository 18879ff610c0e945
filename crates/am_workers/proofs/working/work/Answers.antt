use Rattle.std.proofs.Common.{refl, ap, sym, ◌∙◌, []}
use Rattle.std.specs.Prelude.{min}
use Rattle.am_workers.proofs.WorkLemmas.{counted_more, few_none, few_still, one_more_served, served_none, takes_new_as}
use Rattle.am_workers.proofs.working.work.Goals as goal

pub loop-init : goal.loop-init
loop-init g c =
    record {
      services = [];
      has = served_none _;
      calm = refl;
      taken = refl;
      few = few_none c.args.most;
      served = refl;
      back = c.requires.back;
    }

pub loop-preserved : goal.loop-preserved
loop-preserved g c =
    let inv = c.loop.invariant in
    let step = c.in-Ok-Some.ensures in
    let more = one_more_served _ _ _ _ inv.services c.in-Ok-Some.field-0 c.in-Ok-Some.turn c.in-Ok-Some.field-0-is
    inv.has inv.calm step.next step.desk step.never_falls refl in
    let takes = takes_new_as c.args.most _ _ _ c.is_short-takes_new.ensures inv.taken in
    record {
      services = more.all;
      has = more.has;
      calm = more.faults;
      taken = c.saturating_add-taken.ensures ∙ counted_more _ _ _ inv.taken
          ∙ ap (λ n. min 18446744073709551615 n) (sym more.taken);
      few = few_still c.args.most _ _ _ _ takes inv.few more.one more.asked more.taken;
      served = c.saturating_add-served.ensures ∙ counted_more _ _ _ inv.served
          ∙ ap (λ n. min 18446744073709551615 n) (sym more.ended);
      back = step.back;
    }
