use Rattle.am_http.specs.Responses.{place_lines}
use Rattle.am_http.proofs.response.place_lines.Goals as goal

pub returns : goal.returns
unfolding place_lines
returns c = rw (← c.digit-stored.ensures.text) c.format.ensures.ok
