use Rattle.std.proofs.Common.{◌≡◌, ◌++◌, drop}
use Rattle.am_model.specs.Receivers.{admitted}
use Rattle.am_live_broadcasts.proofs.sending.admitted.Given as goal

-- the spots so far, and those of the receivers that are left, are those of all
abbrev pub invariant-loop-receiving : goal.invariant-loop-receiving
invariant-loop-receiving l = l.spots.items ++ admitted (drop l.receiving-index l.offered) ≡ admitted l.offered
