use Rattle.am_http.specs.Responses.{head}
use Rattle.am_http.proofs.response.head.Goals as goal

pub returns : goal.returns
unfolding head
returns c = rw (← c.phrase-phrase.ensures) c.format.ensures.ok
