use Rattle.std.proofs.Common.{◌-◌, ◌≤◌}
use Rattle.am_history.specs.State.{opening}
use Rattle.am_audit_frames.specs.Walks.{Walked}
use Rattle.am_audit_frames.proofs.audit.audit_frames.Given as goal
use Rattle.am_http.specs.Sessions.{most_frames}

-- the walk has come to a place behind at most as many frames as are read
abbrev pub invariant-loop-walk : goal.invariant-loop-walk
invariant-loop-walk l = record {
  walked : Walked
      (record { start = opening l.fn.device; history = l.history })
      (record { frames = l.frames; responses = l.responses })
      l.walk;
  few : l.walk.count ≤ most_frames;
}

abbrev pub decreases-loop-walk : goal.decreases-loop-walk
decreases-loop-walk l = most_frames - l.walk.count
