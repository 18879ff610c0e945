-- What computes a whole response on literals.
use Rattle.std.specs.Prelude.{⊤}
use Rattle.std.specs.Fmt.{digits}
use Rattle.serde_json.proofs.OnLiterals.{serde_json_on_literals}
use Rattle.am_http.specs.Responses.{head, phrase, message, refusal, no_memory_body, no_memory_before}

-- what an answer unfolds to compute a response on a literal
unfoldable pub responses_on_literals : ⊤
unfolding digits serde_json_on_literals head phrase message refusal no_memory_body no_memory_before
responses_on_literals = tt
