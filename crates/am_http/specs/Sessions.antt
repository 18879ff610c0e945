-- A whole connection: its frames, their responses, and how it ends.
use Rattle.std.specs.Prelude.{◌≡◌, ℕ, ◌+◌, ◌-◌, ◌*◌, ◌<◌, ◌≤◌, ◌⊎◌, Bool, true, false, List, [], ◌∷◌, ◌++◌, length, take, drop, Option, None, IfSome, ⊤, codes}
use Rattle.std.specs.List.{AllByRecursion}
use Rattle.std.specs.Option.{option_to_list}
use Rattle.std.specs.Io.KnownBytes.{Appends, Consumes, Keeps, prepend_known}
use Rattle.am_outside.specs.Counts.{HasRisen}
use Rattle.am_frames.specs.declared.frame.Defect.{Defect}
use Rattle.am_frames.specs.declared.frame.Defect.TheVariants.{BadHead, HeadTooLarge, TransferEncoding, LengthRequired, BodyTooLarge}
use Rattle.am_http.specs.declared.end.End.{End}
use Rattle.am_http.specs.declared.end.End.TheVariants.{Input, Close, Refused, Cut, Limit, Idle, ReadFault, WriteFault}
use Rattle.am_http.specs.declared.end.Served.{Served}
use Rattle.am_frames.specs.Head.{empty, whole, refused, cut}
use Rattle.am_frames.specs.Framing.{longest_frame, IsFraming}
use Rattle.am_http.specs.Frames.{Leaves, Drops}
use Rattle.am_http.specs.Exchanges.{Exchange, AreAnswered, Answered, Raises, frames_of, bytes_of, moments_of}
use Rattle.am_http.specs.Links.{Link, Midway, Server, rest_of, Gives}
use Rattle.am_http.specs.Responses.{refusal}
use Rattle.am_http.specs.Sending.{StopsInside, WritesPart}

-- the most frames that a connection may have
abbrev pub most_frames : ℕ
most_frames = 65536

-- the most bytes that a window holds: a frame of the greatest length
abbrev pub most_held : ℕ
most_held = longest_frame

-- the most bytes that a connection of so many frames takes from its source: as many as a window holds, for each frame
-- and once more
abbrev pub most_taken : ℕ → ℕ
most_taken limit = most_held * (limit + 1)

-- and a whole connection
abbrev pub most_bytes : ℕ
most_bytes = most_taken most_frames

-- a source that tells what is left gave at most n bytes
abbrev pub GivesAtMost : ℕ → Option (List ℕ) → Option (List ℕ) → Type 0
GivesAtMost n left left' = (given : List ℕ) × Consumes left left' given × (length given ≤ n)

-- the text for a defect of a frame, which ends the connection
abbrev pub defect_text : Defect → List ℕ
defect_text BadHead = refusal 400 (codes "bad_head") None
defect_text HeadTooLarge = refusal 431 (codes "head_too_large") None
defect_text TransferEncoding = refusal 501 (codes "transfer_encoding") None
defect_text LengthRequired = refusal 411 (codes "length_required") None
defect_text BodyTooLarge = refusal 413 (codes "body_too_large") None

-- no frame asks to close
abbrev pub StayOpen : List Exchange → Type 0
StayOpen es = AllByRecursion (λ (e : Exchange). e.frame.close ≡ false) es

-- after these exchanges a further frame is read: none asks to close, and there may be more of them
pub record MayGoOn (limit : ℕ) (es : List Exchange) : Type 0 where
  pub stays : StayOpen es
  pub below : length es < limit

-- the bytes that were taken and aren't used hold no whole frame
abbrev pub IsPartial : List ℕ → Type 0
IsPartial taken = IsFraming taken empty ⊎ IsFraming taken cut

-- a told rest has that defect
abbrev pub HasDefect : Option (List ℕ) → Defect → Type 0
HasDefect rest defect = IfSome rest (λ bytes. IsFraming bytes (refused defect))

-- the exchanges end with one that asks to close, and no other asks
abbrev pub CloseAtLast : List Exchange → Type 0
CloseAtLast es =
    (before : List Exchange) × (closing : Exchange)
    × (es ≡ before ++ closing ∷ []) × StayOpen before × (closing.frame.close ≡ true)

-- the end of a connection, after the frames that were answered: what is told to be left of the input, the part of it
-- that the source still has, and the text that is written last
pub record Tail : Type 0 where
  pub rest : Option (List ℕ)
  pub left : Option (List ℕ)
  pub last : List ℕ

-- the exchanges end with one whose response wasn't written whole, and nothing else is written. From the first byte of
-- its frame on, the source gave no more than what a window holds
abbrev pub EndsInResponse : List Exchange → Tail → Type 0
EndsInResponse es tail =
    (before : List Exchange) × (failed : Exchange) × (es ≡ before ++ failed ∷ []) × StayOpen before
    × GivesAtMost (most_held - failed.frame.length) tail.rest tail.left × (tail.last ≡ [])

-- the rest has a defect, whose text is written last. The source gave no more of it than what a window holds
abbrev pub EndsInDefect : ℕ → List Exchange → Tail → Type 0
EndsInDefect limit es tail =
    MayGoOn limit es × ((defect : Defect) × HasDefect tail.rest defect × (tail.last ≡ defect_text defect))
    × GivesAtMost most_held tail.rest tail.left

-- the source failed after bytes that hold no whole frame
abbrev pub EndsInFault : Tail → Type 0
EndsInFault tail = (taken : List ℕ) × IsPartial taken × Keeps tail.rest (prepend_known taken tail.left)

-- what each end means for the responses that were written whole, for the exchanges, of which there may be so many, and
-- for what follows them. The sink fails at the response of the last exchange, when all except this one were written
-- whole, or at the text for a defect, after all responses. After an idle connection the source still has all that is
-- left
abbrev pub VisitEnds : ℕ → End → ℕ → List Exchange → Tail → Type 0
VisitEnds limit Input answered es tail =
    (answered ≡ length es) × MayGoOn limit es × IfSome tail.rest (λ bytes. bytes ≡ []) × (tail.last ≡ [])
VisitEnds limit Close answered es tail = (answered ≡ length es) × CloseAtLast es × (tail.last ≡ [])
VisitEnds limit Refused answered es tail = (answered ≡ length es) × EndsInDefect limit es tail
VisitEnds limit Cut answered es tail =
    (answered ≡ length es) × MayGoOn limit es × IfSome tail.rest (λ bytes. IsFraming bytes cut) × (tail.last ≡ [])
VisitEnds limit Limit answered es tail =
    (answered ≡ length es) × StayOpen es × (length es ≡ limit) × (tail.last ≡ [])
VisitEnds limit Idle answered es tail =
    (answered ≡ length es) × MayGoOn limit es × Keeps tail.rest tail.left × (tail.last ≡ [])
VisitEnds limit ReadFault answered es tail =
    (answered ≡ length es) × MayGoOn limit es × EndsInFault tail × (tail.last ≡ [])
VisitEnds limit WriteFault answered es tail =
    ((answered + 1 ≡ length es) × EndsInResponse es tail) ⊎ ((answered ≡ length es) × EndsInDefect limit es tail)

-- the first of the two if the sink failed, otherwise the second
abbrev pub IfSinkFailed : End → Type 0 → Type 0 → Type 0
IfSinkFailed WriteFault stopped finished = stopped
IfSinkFailed _ stopped finished = finished

-- what the sink took: the responses and the text after them; or, if it failed, the first `answered` responses whole
-- and a part of what follows them, but not all of that
abbrev pub Writes : Served → Option (List ℕ) → Option (List ℕ) → List Exchange → List ℕ → Type 0
Writes served old new es last =
    IfSinkFailed served.end
    (StopsInside old new (bytes_of (take served.answered es)) (bytes_of (drop served.answered es) ++ last))
    (Appends old new (bytes_of es ++ last))

-- what each end of a whole connection means
abbrev pub EndsBy : End → ℕ → List Exchange → Tail → Type 0
EndsBy = VisitEnds most_frames

-- the cause of an end by a fault: the count of the source, or of the sink, rose
abbrev pub HasFault : End → Link → Link → Type 0
HasFault ReadFault old new = HasRisen old.source.faults new.source.faults
HasFault WriteFault old new = HasRisen old.sink.faults new.sink.faults
HasFault _ old new = ⊤

-- a connection that may have so many frames, up to its end or until it is idle, and how it went
pub record Visit (limit : ℕ) (old new : Link) (served : Served) : Type 0 where
  pub exchanges : List Exchange
  pub rest : Option (List ℕ)
  pub last : List ℕ
  pub answers : AreAnswered old.server.desk new.server.desk exchanges
  pub moments : Gives old.server.clock (moments_of exchanges) new.server.clock
  pub frames : Leaves old.source.left (frames_of exchanges) rest
  pub most : length exchanges ≤ limit
  pub taken : GivesAtMost (most_taken limit) old.source.left new.source.left
  pub end : VisitEnds limit served.end served.answered exchanges (record
      { rest = rest; left = new.source.left; last = last })
  pub output : Writes served old.sink.taken new.sink.taken exchanges last

-- a whole connection, and how it went
abbrev pub Session : Link → Link → Served → Type 0
Session = Visit most_frames

-- a connection so far, which goes on
pub record Going (old : Link) (now : Midway) (count : ℕ) : Type 0 where
  pub exchanges : List Exchange
  pub answers : AreAnswered old.server.desk now.link.server.desk exchanges
  pub moments : Gives old.server.clock (moments_of exchanges) now.link.server.clock
  pub frames : Leaves old.source.left (frames_of exchanges) (rest_of now)
  pub stays : StayOpen exchanges
  pub output : Appends old.sink.taken now.link.sink.taken (bytes_of exchanges)
  pub counted : length exchanges ≡ count

-- one more frame was answered by the desk at the clock's moment
pub record Serves (old new : Server) (exchange : Exchange) : Type 0 where
  pub answer : Answered old.desk new.desk exchange
  pub moment : Gives old.clock (option_to_list exchange.now) new.clock

-- the next frame was answered, its response written, and it asks to close or not
pub record Replies (waits close : Bool) (old new : Midway) : Type 0 where
  pub exchange : Exchange
  pub served : Serves old.link.server new.link.server exchange
  pub raises : Raises waits old.least new.least exchange.point
  pub frame : Drops (rest_of old) exchange.frame (rest_of new)
  pub closes : exchange.frame.close ≡ close
  pub output : Appends old.link.sink.taken new.link.sink.taken exchange.bytes

-- the next frame was answered, its response wasn't written whole, and the frame still stands in the window
pub record FailsAtAnswer (waits : Bool) (old new : Midway) : Type 0 where
  pub exchange : Exchange
  pub served : Serves old.link.server new.link.server exchange
  pub raises : Raises waits old.least new.least exchange.point
  pub frame : IfSome (rest_of old) (λ input. IsFraming input (whole exchange.frame))
  pub kept : Keeps (rest_of old) (rest_of new)
  pub here : IsFraming new.window (whole exchange.frame)
  pub fits : length new.window ≤ most_held
  pub output : WritesPart old.link.sink.taken new.link.sink.taken exchange.bytes

-- nothing was asked of the desk and of the clock
pub record IsUnasked (old new : Server) : Type 0 where
  pub seen : new.desk.seen ≡ old.desk.seen
  pub clock : Gives old.clock [] new.clock

-- the connection ended at something other than a whole frame, and this is what its sink took
pub record IsLast (old new : Midway) (Takes : Option (List ℕ) → Option (List ℕ) → Type 0) : Type 0 where
  pub unasked : IsUnasked old.link.server new.link.server
  pub least : new.least ≡ old.least
  pub output : Takes old.link.sink.taken new.link.sink.taken

-- the connection ended at a defect, for whose text this is what its sink took
abbrev pub StopsAtDefect : Midway → Midway → (Option (List ℕ) → Option (List ℕ) → List ℕ → Type 0) → Type 0
StopsAtDefect old new Takes =
    (defect : Defect) × HasDefect (rest_of old) defect
    × IsLast old new (λ taken taken'. Takes taken taken' (defect_text defect))
    × GivesAtMost most_held (rest_of old) new.link.source.left

-- the connection ended before a further frame was answered whole, where the desk waits for the least place or not
abbrev pub Stops : Bool → End → Midway → Midway → Type 0
Stops waits Input old new = IfSome (rest_of old) (λ bytes. bytes ≡ []) × IsLast old new Keeps
Stops waits Close old new = ⊥
Stops waits Refused old new = StopsAtDefect old new Appends
Stops waits Cut old new = IfSome (rest_of old) (λ bytes. IsFraming bytes cut) × IsLast old new Keeps
Stops waits Limit old new = ⊥
Stops waits Idle old new = Keeps (rest_of old) new.link.source.left × IsLast old new Keeps
Stops waits ReadFault old new = IsPartial new.window × Keeps (rest_of old) (rest_of new) × IsLast old new Keeps
Stops waits WriteFault old new = FailsAtAnswer waits old new ⊎ StopsAtDefect old new WritesPart
