use Rattle.std.proofs.Common.{◌≡◌, drop}
use Rattle.am_model.specs.Cuts.{reached_by_authority}
use Rattle.am_filter.proofs.cuts.reached_by_authority.Given as goal

-- none so far passes
abbrev pub invariant-loop-authority : goal.invariant-loop-authority
invariant-loop-authority l =
    reached_by_authority (drop l.authority-index l.authority-items) l.parts ≡ reached_by_authority l.authority-items l.parts
