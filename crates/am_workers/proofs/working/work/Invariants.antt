use Rattle.std.proofs.Common.{◌≡◌, List, min}
use Rattle.std.specs.Prelude.{IfSome}
use Rattle.am_network.specs.Links.{AreBack}
use Rattle.am_workers.specs.Work.{HasServed, Service, WorkerView, ended_in, faults_after, new_in, worker_of}
use Rattle.am_workers.proofs.WorkLemmas.{IsFew}
use Rattle.am_workers.proofs.working.work.Given as goal

-- the links so far were served and are back, at most as many were new as are asked for, and no call for a link failed
abbrev pub invariant-loop : goal.invariant-loop
invariant-loop g l =
    let first : WorkerView = worker_of g.D.Desk g.A.Acceptor g.C.Clock l.initial.desk l.initial.gate l.initial.clock in
    let now : WorkerView = worker_of g.D.Desk g.A.Acceptor g.C.Clock l.desk l.gate l.clock in
    record {
      services : List Service;
      has : HasServed first now services;
      calm : now.gate.faults ≡ faults_after first.gate.faults services;
      taken : l.taken ≡ min 18446744073709551615 (new_in services);
      few : IsFew l.most (new_in services);
      served : l.served ≡ min 18446744073709551615 (ended_in services);
      back : IfSome now.gate.links AreBack;
    }
