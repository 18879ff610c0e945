-- What is read as the body of a query is one.
use Rattle.std.proofs.Common.{◌≡◌, ℕ, true, List, [], ◌∷◌, Result, Ok, Err, refl, subst}
use Rattle.std.specs.Prelude.{IfOk, IsTrue, codes}
use Rattle.serde_json.specs.Data.{Data}
use Rattle.am_types.specs.declared.request.Request.{Request}
use Rattle.am_types.specs.declared.request.Request.TheVariants as asks
use Rattle.am_wire_routes.specs.declared.endpoint.Endpoint.TheVariants.{Query}
use Rattle.am_types.specs.declared.failure.Unmade.{Unmade}
use Rattle.am_wire_fields.specs.declared.fault.WireFault.{WireFault}
use Rattle.am_wire_fields.specs.Bodies.{value_of}
use Rattle.am_wire_fields.specs.Fields.{optional_truth}
use Rattle.am_types.specs.Reading.{◌>>=◌, Gives}
use Rattle.am_wire_intents.specs.Intents.{required_intent}
use Rattle.am_wire.specs.Words.{kind_of}
use Rattle.am_wire.specs.Activities.{fields_of, query_in}
use Rattle.am_wire.specs.Requests.{posted, request_in, request_of}
use Rattle.am_visible.specs.Answers.{is_query}

-- a second step that reads only queries does so after a first one
behind : {A : Type 0} (first : Result A WireFault) (next : A → Result Request WireFault)
    → ((x : A) (r : Request) → next x ≡ Ok r → is_query r ≡ true)
    → (r : Request) → (first >>= next) ≡ Ok r → is_query r ≡ true
behind (Ok x) next each r h = each x r h
behind (Err fault) next each r h = absurd cc

-- what was read is what a reading says
same : (x y : Request) → ◌≡◌ {A = Result Request WireFault} (Ok x) (Ok y) → x ≡ y
same x y h = cc

query_read : (body : Data) (r : Request) → query_in body ≡ Ok r → is_query r ≡ true
unfolding query_in
query_read body =
    behind (fields_of (codes "kind" ∷ codes "intent" ∷ codes "defaultOnly" ∷ []) body) _ (λ known.
    behind (kind_of body) _ (λ kind.
    behind (required_intent (codes "intent") body) _ (λ intent.
    behind (optional_truth (codes "defaultOnly") body) _ (λ default_only r h.
    subst (λ (one : Request). is_query one ≡ true) (same (asks.Query kind intent default_only) r h) refl))))

request_read : (text : List ℕ) (r : Request) → request_of Query text ≡ Ok r → is_query r ≡ true
unfolding request_of posted request_in
request_read text = behind (value_of text) _ query_read

-- an answer that is what reading a body of a query gives is one
pub query_given : (answer : Result Request (Unmade WireFault)) (text : List ℕ) → Gives answer (request_of Query text)
    → IfOk answer (λ r. IsTrue (is_query r))
query_given (Ok r) text h = request_read text r h
query_given (Err fault) text h = tt
