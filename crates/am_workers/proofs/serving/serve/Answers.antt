use Rattle.std.proofs.Common.{◌≡◌, length, map, sym, ap, ◌∙◌, arith, subst}
use Rattle.std.specs.Prelude.{min, sum_by, vec_len}
use Rattle.std.specs.List.{list_any}
use Rattle.std.proofs.lemmas.List.{length-map}
use Rattle.am_history.specs.Desks.{opening_of}
use Rattle.am_history.specs.History.{IsLegal}
use Rattle.am_workers.specs.Work.{gate_of}
use Rattle.am_workers.specs.Serving.{MayReleaseAll, all_released, faults_raised}
use Rattle.am_workers.proofs.CrewLemmas.{all_back, all_desks, back_written, clocks_of, crew, same_origin, serves}
use Rattle.am_workers.proofs.serving.serve.Goals as goal

pub work_all-requires-clause-back : goal.work_all-requires-clause-back
work_all-requires-clause-back g c κs within =
    all_back g.N.Gate.Acceptor.links g.N.Gate.Acceptor.faults c.as_mut_slice.result.now _
    (ap (map (λ w. w.gate)) c.as_mut_slice.ensures.value ∙ c.hire-workers.ensures.gates) c.requires.new

pub dismiss-desks-requires-clause-may : goal.dismiss-desks-requires-clause-may
dismiss-desks-requires-clause-may g c κs within =
    let olds = c.as_mut_slice.result.now in
    let back = back_written c.hire-workers.result.len c.work_all.new.workers _
    (sym (c.work_all.ensures.count ∙ c.as_mut_slice.ensures.len)) in
    let gates = ap (map (λ w. w.gate)) c.as_mut_slice.ensures.value ∙ c.hire-workers.ensures.gates in
    subst (MayReleaseAll (g.N.Network.listening c.args.network.now))
    (sym (ap length (c.from_vec.ensures.items ∙ back) ∙ (c.work_all.ensures.count
    ∙ (sym (length-map olds (λ w. w.gate)) ∙ (ap length gates ∙ sym c.args.gates.ok.0))))) c.requires.may

pub close-manager-requires-clause-all : goal.close-manager-requires-clause-all
close-manager-requires-clause-all g c κs within =
    let made = c.in-Ok.ensures.made in (
      made.0,
      all_desks g.N.Gate.Acceptor.links g.N.Gate.Acceptor.faults g.C.Clock.moments c.args.most c.args.manager.origin
          made.0 c.in-Ok.desks.items c.dismiss-desks.result.items c.as_mut_slice.result.now c.work_all.new.workers
          (crew g.N.Gate.Acceptor.links g.N.Gate.Acceptor.faults g.C.Clock.moments c.args.most c.args.manager.origin
          made.0 c.in-Ok.desks.items c.dismiss-desks.result.items _ c.as_mut_slice.result.now c.work_all.new.workers
          _ _ c.hire-workers.result.len
          (grind (arith, c.requires.some, c.requires.few, c.len-count.ensures, made.1)) made.3
          (ap (map (λ w. w.desk)) c.as_mut_slice.ensures.value ∙ c.hire-workers.ensures.desks)
          c.work_all.ensures.count c.as_mut_slice.ensures.len c.work_all.ensures.works c.from_vec.ensures.items
          c.dismiss-desks.ensures.desks c.in-Ok-rooms_for.ensures.desks.0),
    )

pub returns : goal.returns
returns g c =
    let olds = c.as_mut_slice.result.now in
    let news = c.work_all.new.workers in
    let made = c.in-Ok.ensures.made in
    let some_desk = c.requires.some in
    let few = c.requires.few in
    let len = c.len-count.ensures in
    let many = made.1 in
    let count : made.0.desks ≡ vec_len c.args.gates = grind (arith, few, len, many) in
    let back = back_written c.hire-workers.result.len news _ (sym (c.work_all.ensures.count
    ∙ c.as_mut_slice.ensures.len)) in
    let team = crew g.N.Gate.Acceptor.links g.N.Gate.Acceptor.faults g.C.Clock.moments c.args.most c.args.manager.origin
    made.0 c.in-Ok.desks.items c.dismiss-desks.result.items _ olds news _ _ c.hire-workers.result.len
    (grind (arith, some_desk, count)) made.3 (ap (map (λ w. w.desk)) c.as_mut_slice.ensures.value
    ∙ c.hire-workers.ensures.desks)
    c.work_all.ensures.count c.as_mut_slice.ensures.len c.work_all.ensures.works c.from_vec.ensures.items
    c.dismiss-desks.ensures.desks c.in-Ok-rooms_for.ensures.desks.0 in
    let one : c.close-manager.result.origin ≡ c.args.manager.origin =
    same_origin g.N.Gate.Acceptor.links g.N.Gate.Acceptor.faults g.C.Clock.moments c.args.most c.args.manager.origin
    c.close-manager.result.origin made.0 c.in-Ok.desks.items c.dismiss-desks.result.items olds news
    team c.close-manager.ensures.origin in
    let out = c.dismiss-desks.ensures in
    record {
      serves = serves g.N.Gate.Acceptor.links g.N.Gate.Acceptor.faults g.C.Clock.moments c.args.most _
          c.args.manager.origin made.0 c.args.manager.history c.close-manager.result.history olds news
          c.in-Ok.desks.items
          c.dismiss-desks.result.items c.args.gates.items c.totals_of-totals.result (g.C.Clock.moments c.args.clock.now)
          _ _
          (subst (λ o. IsLegal (opening_of o) c.close-manager.result.history) one c.length.ensures.legal)
          count made.2 team
          (ap (map (λ w. w.gate)) c.as_mut_slice.ensures.value ∙ c.hire-workers.ensures.gates) c.requires.new
          (clocks_of g.C.Clock.moments (g.C.Clock.moments c.args.clock.now) olds _ c.as_mut_slice.ensures.value
          c.hire-workers.ensures.clocks)
          c.close-manager.ensures.seen c.close-manager.ensures.own c.close-manager.ensures.others
          (c.totals_of-totals.ensures.served ∙ ap (λ ws. min 18446744073709551615 (sum_by (λ w. w.worked.served) ws))
          (c.as_slice.ensures.value ∙ back))
          (c.totals_of-totals.ensures.failed ∙ ap (λ ws. list_any (λ w. w.worked.failed) ws)
          (c.as_slice.ensures.value ∙ back))
          (out.told ∙ ap (λ ws. all_released (g.N.Network.listening c.args.network.now)
          (map (λ w. gate_of g.N.Gate.Acceptor w.gate) ws)) (c.from_vec.ensures.items ∙ back))
          out.listens
          out.faults
          (out.gate_faults ∙ ap (λ ws. faults_raised (g.N.Network.gate_faults c.args.network.now)
          (map (λ w. gate_of g.N.Gate.Acceptor w.gate) ws)) (c.from_vec.ensures.items ∙ back));
      origin = one;
      unserved = tt;
    }
