-- The pieces in which the response is put where memory ran out.
use Rattle.std.proofs.Common.{◌≡◌, ℕ, Bool, List, ◌++◌, codes, decimal, refl, ap, ◌∙◌, append_assoc}
use Rattle.std.specs.Fmt.{digits}
use Rattle.serde_json.proofs.OnLiterals.{serde_json_on_literals}
use Rattle.am_http.specs.Responses.{head, phrase, digit, place_lines, message, no_memory_body, no_memory_at}

-- the head of a 507
no_memory_head : head 507 21
    ≡ codes "HTTP/1.1 507 Insufficient Storage\r\nContent-Type: application/json\r\nContent-Length: 21\r\n"
unfolding head phrase digits
no_memory_head = refl

-- the body of a 507
no_memory_text : no_memory_body ≡ codes "{\"error\":\"no_memory\"}"
unfolding no_memory_body serde_json_on_literals
no_memory_text = refl

-- the pieces one after another, as they are put
regrouped : (front at number stored truth line rest : List ℕ)
    → front ++ ((at ++ (number ++ (stored ++ (truth ++ line)))) ++ rest)
    ≡ ((((front ++ at) ++ number) ++ stored) ++ truth) ++ (line ++ rest)
regrouped front at number stored truth line rest = simp append_assoc

-- the response where memory ran out after the call, piece by piece
pub no_memory_at_pieces : (at : ℕ) (stored : Bool) → no_memory_at at stored ≡
    (((codes "HTTP/1.1 507 Insufficient Storage\r\nContent-Type: application/json\r\nContent-Length: 21\r\nAM-At: " ++ decimal at)
    ++ codes "\r\nAM-Stored: ") ++ digit stored)
    ++ codes "\r\n\r\n{\"error\":\"no_memory\"}"
unfolding no_memory_at message place_lines
no_memory_at_pieces at stored =
    let rest = codes "\r\n{\"error\":\"no_memory\"}" in
    ap (message 507 (place_lines at stored)) no_memory_text
    ∙ (ap (λ front. front ++ (place_lines at stored ++ rest)) no_memory_head
    ∙ regrouped
    (codes "HTTP/1.1 507 Insufficient Storage\r\nContent-Type: application/json\r\nContent-Length: 21\r\n")
    (codes "AM-At: ") (decimal at) (codes "\r\nAM-Stored: ") (digit stored) (codes "\r\n") rest)
