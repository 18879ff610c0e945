-- The answer to a frame, and the text that says it.
use Rattle.std.specs.Prelude.{◌≡◌, ℕ, ◌<◌, ◌⊎◌, List, [], ◌∷◌, Option, Some, None, Ok, Err, IsTrue, ⊤}
use Rattle.std.specs.Option.{option_to_list}
use Rattle.am_types.specs.declared.request.Request.{Request}
use Rattle.am_history.specs.Desks.{DeskView, Shows, SeesOthers}
use Rattle.am_http.specs.declared.answer.Answer.{Answer}
use Rattle.am_http.specs.declared.answer.Answer.TheVariants.{Refused, Reply, NoMemory as RanOut}
use Rattle.am_frames.specs.Head.{Frame}
use Rattle.am_http.specs.Exchanges.{Point}
use Rattle.am_http.specs.Links.{Server, Gives}
use Rattle.am_http.specs.Requests.{request_of, refusal_text, call_of}
use Rattle.am_http.specs.Responses.{response, no_memory_before, no_memory_at}

-- the place of the call that was answered, if it was made
abbrev pub point_of : Answer → Option Point
point_of (Refused refusal) = None
point_of (Reply shown) = Some (record { at = shown.at; stored = shown.stored })
point_of RanOut = None

-- behind a stored call a 64-bit number has a further place
abbrev pub HasNext : Option Point → Type 0
HasNext None = ⊤
HasNext (Some point) = IsTrue point.stored → point.at < 18446744073709551615

-- the answer to a frame that makes a request, whose call is made at that moment
abbrev pub AnswersAt : DeskView → DeskView → Frame → ℕ → Answer → Type 0
AnswersAt old new frame now (Refused refusal) = ⊥
AnswersAt old new frame now (Reply shown) =
    (request : Request) × (request_of frame ≡ Ok request) × Shows old new (call_of old.number frame now request) shown
AnswersAt old new frame now RanOut = SeesOthers old new.seen

-- the answer to a frame, and what the desk has seen and the clock tells after it. The clock is asked once for a call,
-- and not at all for a frame that makes no request; if memory ran out, it may have been asked or not
abbrev pub AnswersFrame : Server → Server → Frame → Answer → Type 0
AnswersFrame old new frame (Refused refusal) =
    (request_of frame ≡ Err refusal) × (new.desk.seen ≡ old.desk.seen) × Gives old.clock [] new.clock
AnswersFrame old new frame (Reply shown) =
    (now : ℕ) × (request : Request) × (request_of frame ≡ Ok request)
    × Shows old.desk new.desk (call_of old.desk.number frame now request) shown × Gives old.clock (now ∷ []) new.clock
AnswersFrame old new frame RanOut =
    SeesOthers old.desk new.desk.seen × ((now : Option ℕ) × Gives old.clock (option_to_list now) new.clock)

-- the text of an answer, or the text that memory ran out if there was none to print the answer
abbrev pub Says : Answer → List ℕ → Type 0
Says (Refused refusal) bytes = (bytes ≡ refusal_text refusal) ⊎ (bytes ≡ no_memory_before)
Says (Reply shown) bytes =
    (bytes ≡ response shown.at shown.stored shown.reply) ⊎ (bytes ≡ no_memory_at shown.at shown.stored)
Says RanOut bytes = bytes ≡ no_memory_before
