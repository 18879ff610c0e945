use Rattle.std.proofs.Common.{◌≡◌, drop, option_copied}
use Rattle.std.specs.List.{filter}
use Rattle.am_model.specs.Links.{last_of, takes_link}
use Rattle.am_links.proofs.Lasts.{joined_last}
use Rattle.am_links.proofs.approvals.last_taking.Given as goal

-- the last so far, with the last of the rest, is the last of all
abbrev pub invariant-loop-candidate : goal.invariant-loop-candidate
invariant-loop-candidate l =
    joined_last (option_copied l.last)
    (last_of (filter (takes_link l.installed l.host) (drop l.candidate-index l.candidate-items)))
    ≡ last_of (filter (takes_link l.installed l.host) l.candidate-items)
