use Rattle.std.proofs.Common.{Err, inl, inr, ap, ◌∙◌}
use Rattle.am_workers.specs.Serving.{network_of}
use Rattle.am_shell.proofs.ServingLemmas.{left_again, unheard_so, works_serving}
use Rattle.am_shell.proofs.serving.serve_device.Goals as goal

pub returns-in-Ok : goal.returns-in-Ok
returns-in-Ok g c = λ before after.
    let begun = c.in_ok-manager.ensures in
    let heard = c.in-Ok.ensures in
    let done = c.in_ok-manager-in-Ok.ensures in
    works_serving c.args.asked c.args.device _ _ _ _ _ _ _ _ c.in_ok-manager.manager c.in_ok-manager-in-Ok.manager
    c.kept_is_found.ensures c.requires.sound c.as_ref.ensures.value
    (c.in-Ok.gates.ok.0 ∙ heard.count) begun.origin begun.fresh begun.unchanged heard.told heard.listens
    heard.gate_faults c.clock_of-clock.ensures done.serves done.origin c.hand_back.ensures
    c.length-history.ensures.count

pub returns-in-Failed : goal.returns-in-Failed
returns-in-Failed g c = λ before after.
    let begun = c.in_ok-manager.ensures in
    let out = c.in-Err.ensures in
    inr (inl (record {
      fails = out.failed (ap Err c.in-Failed.is);
      network = unheard_so (network_of g.N.Network c.args.network.now) (network_of g.N.Network c.listen.new.self)
          out.same out.listens out.gate_faults;
      store = left_again c.args.asked c.args.device _ _ _ _ c.in_ok-manager.manager c.as_ref.ensures.value begun.origin
          begun.fresh begun.unchanged c.hand_back-in-Err.ensures;
    }))

pub returns : goal.returns
returns g c = λ before after.
    let begun = c.in_ok-manager.ensures in
    let out = c.in-Err.ensures in
    inr (inl (record {
      fails = tt;
      network = unheard_so (network_of g.N.Network c.args.network.now) (network_of g.N.Network c.listen.new.self)
          out.same out.listens out.gate_faults;
      store = left_again c.args.asked c.args.device _ _ _ _ c.in_ok-manager.manager c.as_ref.ensures.value begun.origin
          begun.fresh begun.unchanged c.hand_back-in-Err.ensures;
    }))
