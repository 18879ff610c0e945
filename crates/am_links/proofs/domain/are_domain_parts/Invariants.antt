use Rattle.std.proofs.Common.{◌≡◌, length}
use denote.Shadow.{shadow}
use denote.Text.{Utf8}
use Rattle.am_model.specs.Links.{are_domain_parts, parts_of}
use Rattle.am_links.proofs.domain.are_domain_parts.Given as goal

-- the parts that are left decide
abbrev pub invariant-loop-part : goal.invariant-loop-part
invariant-loop-part l =
    shadow (Utf8 l.rest) × (are_domain_parts (parts_of l.rest) ≡ are_domain_parts (parts_of l.host))

-- the rest gets shorter
abbrev pub decreases-loop-part : goal.decreases-loop-part
decreases-loop-part l = length l.rest
