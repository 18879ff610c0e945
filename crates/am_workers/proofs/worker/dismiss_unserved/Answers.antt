use Rattle.std.proofs.Common.{◌≡◌, ℕ, vec_len, ◌++◌, ◌∷◌, [], Some, refl, ap, sym, ◌∙◌, subst, suc, length, arith, length-append, slice_get}
use Rattle.am_network.specs.Links.{GateView, IsNewGate, released}
use Rattle.am_http.proofs.ExchangeLemmas.{all_more}
use Rattle.am_workers.specs.Work.{gate_of}
use Rattle.am_workers.specs.Serving.{MayReleaseAll}
use Rattle.am_workers.proofs.ServingLemmas.{may_rest, released_more}
use Rattle.am_workers.proofs.worker.dismiss_unserved.Goals as goal

pub loop-unserved-init : goal.loop-unserved-init
loop-unserved-init g c =
    record {
      done = [];
      fresh = tt;
      count = omega arith;
      told = refl;
      listens = refl;
      faults = refl;
      gate_faults = refl;
      new = subst (λ gs. (k : ℕ) (gate : g.row.N-Gate.Denot) → slice_get gs k ≡ Some gate
          → IsNewGate (gate_of g.N.Gate.Acceptor gate))
          (sym c.from_vec-left.ensures.items) c.requires.new;
      may = subst (MayReleaseAll (g.N.Network.listening c.args.network.now))
          (c.args.gates.ok.0 ∙ sym (ap length c.from_vec-left.ensures.items)) c.requires.may;
    }

pub loop-unserved-preserved : goal.loop-unserved-preserved
loop-unserved-preserved g c =
    let inv = c.loop-unserved.invariant in
    let begins = c.in-Some.ensures.items in
    let out = c.release.ensures in
    let gate = c.in-Some.unserved in
    let rest = c.pop_front.new.self.items in
    let seen : GateView = gate_of g.N.Gate.Acceptor gate in
    let fresh : IsNewGate seen = inv.new 0 gate (ap (λ gs. slice_get gs 0) begins) in
    record {
      done = inv.done ++ seen ∷ [];
      fresh = all_more IsNewGate inv.done seen inv.fresh fresh;
      count = let long = ap length begins in let before = inv.count in omega
          (arith, long, before, length-append inv.done (seen ∷ []));
      told = out.told ∙ ap (λ t. released t seen) inv.told ∙ sym (released_more _ inv.done seen);
      listens = out.listens ∙ inv.listens;
      faults = out.faults ∙ inv.faults;
      gate_faults = out.calm fresh.0 ∙ inv.gate_faults;
      new = λ k other at. inv.new (suc k) other (ap (λ gs. slice_get gs (suc k)) begins ∙ at);
      may = may_rest _ _ _ _ out.told (subst (λ gs. MayReleaseAll (g.N.Network.listening c.loop-unserved.network)
          (length gs)) begins inv.may);
    }

pub returns : goal.returns
returns g c =
    let inv = c.loop-unserved.invariant in
    record {
      gates = inv.done;
      count =
          let none = c.in_default.ensures.cases.0 in
          let here = c.loop-unserved.left.ok.0 in
          let all = inv.count in
          let long : length c.from_vec-left.result.items ≡ vec_len c.args.gates = ap length
          c.from_vec-left.ensures.items ∙ sym c.args.gates.ok.0 in
          omega (arith, none, here, all, long);
      fresh = inv.fresh;
      told = inv.told;
      listens = inv.listens;
      faults = inv.faults;
      gate_faults = inv.gate_faults;
    }
