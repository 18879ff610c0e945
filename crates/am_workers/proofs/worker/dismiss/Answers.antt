use Rattle.std.proofs.Common.{rules, ◌++◌, ◌∷◌, [], length, map, ap, sym, ◌∙◌, subst, append_assoc}
use Rattle.am_workers.specs.Work.{gate_of}
use Rattle.am_workers.specs.Serving.{MayReleaseAll, all_released, faults_raised}
use Rattle.am_workers.proofs.ServingLemmas.{may_rest}
use Rattle.am_workers.proofs.worker.dismiss.Goals as goal

pub loop-worker-preserved : goal.loop-worker-preserved
loop-worker-preserved g c =
    let inv = c.loop-worker.invariant in
    let begins = c.in-Some.ensures.items in
    let out = c.release.ensures in
    let rest = c.pop_front.new.self.items in
    let worker = c.in-Some.worker in
    record {
      desks = ap (λ ds. ds ++ map (λ w. w.desk) rest) c.push_reserved.ensures.items
          ∙ append_assoc c.loop-worker.desks.items (worker.desk ∷ []) (map (λ w. w.desk) rest)
          ∙ ap (λ ws. c.loop-worker.desks.items ++ map (λ w. w.desk) ws) (sym begins)
          ∙ inv.desks;
      told = ap (λ t. all_released t (map (λ w. gate_of g.N.Gate.Acceptor w.gate) rest)) out.told
          ∙ ap (λ ws. all_released (g.N.Network.listening c.loop-worker.network)
          (map (λ w. gate_of g.N.Gate.Acceptor w.gate) ws)) (sym begins)
          ∙ inv.told;
      listens = out.listens ∙ inv.listens;
      faults = out.faults ∙ inv.faults;
      gate_faults = ap (λ n. faults_raised n (map (λ w. gate_of g.N.Gate.Acceptor w.gate) rest)) out.gate_faults
          ∙ ap (λ ws. faults_raised (g.N.Network.gate_faults c.loop-worker.network)
          (map (λ w. gate_of g.N.Gate.Acceptor w.gate) ws)) (sym begins)
          ∙ inv.gate_faults;
      may = may_rest _ _ _ _ out.told (subst (λ ws. MayReleaseAll (g.N.Network.listening c.loop-worker.network)
          (length ws)) begins inv.may);
      room = search rules;
    }
