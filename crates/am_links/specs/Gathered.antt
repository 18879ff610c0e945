-- The last of some hits and the greatest priority of browsers, gathered from the front.
use Rattle.std.specs.Prelude.{ℤ, if◌then◌else◌, Option, Some, None}
use Rattle.std.specs.Int.{int_max}
use Rattle.am_types.specs.declared.resolve.Candidate.{Candidate}
use Rattle.am_types.specs.declared.resolve.Hit.{Hit}
use Rattle.am_model.specs.Links.{is_later}

-- the later of the last one so far, if there is one, and one more
abbrev pub later_after : Option Hit → Hit → Hit
later_after None hit = hit
later_after (Some last) hit = if is_later hit last then hit else last

-- the greatest priority so far, or that of a browser, if it is greater
abbrev pub with_browser : ℤ → Candidate → ℤ
with_browser most candidate =
    if candidate.finding.browses then int_max candidate.hit.priority most else most
