use Rattle.std.proofs.Common.{◌≡◌, min, take}
use Rattle.std.specs.Prelude.{sum_by}
use Rattle.am_workers.specs.declared.worker.Worker.{Worker}
use Rattle.am_workers.proofs.worker.served_by.Given as goal

-- those of the workers so far
abbrev pub invariant-loop-worker : goal.invariant-loop-worker
invariant-loop-worker g l =
    l.served ≡ min 18446744073709551615
    (sum_by (λ (w : Worker g.row.D.Denot g.row.A.Denot g.row.C.Denot). w.worked.served) (take l.worker-index l.workers))
