-- The course of an ordered broadcast, followed through a history: what each entry did to its receivers.
use Rattle.std.specs.Prelude.{ℕ, ◌+◌, Bool, true, false, not, ◌&&◌, ◌==◌, List, [], ◌∷◌, ◌++◌, filter, if◌then◌else◌, Option, Some, None}
use Rattle.std.specs.List.{find}
use Rattle.am_types.specs.declared.device.Package.{Package}
use Rattle.am_types.specs.declared.broadcast.Spot.{Spot}
use Rattle.am_types.specs.declared.broadcast.Answer.{Answer}
use Rattle.am_types.specs.declared.history.Entry.{Entry}
use Rattle.am_types.specs.declared.request.Request.{Request}
use Rattle.am_types.specs.declared.request.Request.TheVariants as asks
use Rattle.am_types.specs.declared.reply.Reply.{Reply}
use Rattle.am_types.specs.declared.reply.Reply.TheVariants as replies
use Rattle.am_model.specs.Boards.{package_named}
use Rattle.am_model.specs.Broadcasts.{Broadcasts, InTurn, Delivery, Past, Current, Doing, Answered, Late, Gone, is_delivery_due}
use Rattle.am_model.specs.Sending.{is_registered}
use Rattle.am_history.specs.State.{State}
use Rattle.am_history.specs.Steps.{after_due, moment_after, step}
use Rattle.am_history.specs.History.{replay}

-- the receivers of an ordered broadcast in their order: those that are past, each with what it did, and those that are
-- left
pub record Course : Type 0 where
  pub past : List Past
  pub rest : List Spot

-- the receivers of an ordered broadcast in a queue
abbrev pub course_of : InTurn → Course
course_of b = record { past = b.past; rest = b.rest }

-- the first of the receivers that are left did this
abbrev pub passed_from : Doing → Course → List Spot → Course
passed_from doing course [] = course
passed_from doing course (spot ∷ others) =
    record { past = course.past ++ record { spot = spot; doing = doing } ∷ []; rest = others }

-- the first receiver that is left did this, and is past
abbrev pub passed : Doing → Course → Course
passed doing course = passed_from doing course course.rest

-- a delivery to the first of these receivers
abbrev pub delivery_to : Option Current → List Spot → Option Delivery
delivery_to None rest = None
delivery_to (Some current) [] = None
delivery_to (Some current) (spot ∷ others) =
    Some (record { number = current.number; spot = spot; deadline = current.deadline })

-- the delivery that a broadcast has
abbrev pub delivery_in : Option InTurn → Option Delivery
delivery_in None = None
delivery_in (Some b) = delivery_to b.current b.rest

-- the ordered broadcast of a number, if it is in a queue
abbrev pub turn_of : Broadcasts → ℕ → Option InTurn
turn_of all number = find (λ (b : InTurn). b.number == number) (all.foreground ++ all.background)

-- the delivery that the ordered broadcast of a number has, if it is in a queue
abbrev pub delivery_of : Broadcasts → ℕ → Option Delivery
delivery_of all number = delivery_in (turn_of all number)

-- the receiver that has the delivery is late, if it is due
abbrev pub passed_late : ℕ → Option Delivery → Course → Course
passed_late now None course = course
passed_late now (Some delivery) course = if is_delivery_due now delivery then passed Late course else course

-- the receiver that has the delivery answered, if it is that one
abbrev pub passed_answered : ℕ → Answer → Option Delivery → Course → Course
passed_answered number answer None course = course
passed_answered number answer (Some delivery) course =
    if delivery.number == number then passed (Answered answer) course else course

-- the receiver that has the delivery is gone, if it is struck
abbrev pub passed_gone : (Spot → Bool) → Option Delivery → Course → Course
passed_gone struck None course = course
passed_gone struck (Some delivery) course = if struck delivery.spot then passed Gone course else course

-- the course without those that are left and struck
abbrev pub without_struck : (Spot → Bool) → Course → Course
without_struck struck course = record course { rest = filter (λ (spot : Spot). not (struck spot)) course.rest }

-- receivers are struck: a struck one that has the delivery is gone, and the struck ones that are left are out
abbrev pub passed_struck : (Spot → Bool) → Option Delivery → Course → Course
passed_struck struck delivery course = without_struck struck (passed_gone struck delivery course)

-- the receiver belongs to that package
abbrev pub is_of_package : Option Package → Spot → Bool
is_of_package None spot = false
is_of_package (Some owner) spot = spot.uid == owner.uid

-- what a request that was done did to a broadcast that had that delivery: a finish answers it; a registered receiver
-- that is taken back is struck, and so are those of a package that is uninstalled or stopped; if the moment moves
-- ahead,
-- the receiver that has the delivery may be late by then
abbrev pub requested : State → Request → Option Delivery → Course → Course
requested state (asks.Finish number answer) delivery course = passed_answered number answer delivery course
requested state (asks.Unregister number) delivery course =
    passed_struck (λ (spot : Spot). is_registered number spot.aim) delivery course
requested state (asks.Uninstall name) delivery course =
    passed_struck (is_of_package (package_named state.board.packages name)) delivery course
requested state (asks.ForceStop name) delivery course =
    passed_struck (is_of_package (package_named state.board.packages name)) delivery course
requested state (asks.Advance more) delivery course = passed_late (state.moment + more) delivery course
requested state _ delivery course = course

-- the reply says that it was done
abbrev pub is_done : Reply → Bool
is_done replies.Plain = true
is_done (replies.Advanced due now) = true
is_done _ = false

-- the course of the broadcast of a number after an entry: first what was due at its moment, then its request if that
-- was done
abbrev pub after_entry : State → List Entry → Entry → ℕ → Course → Course
after_entry state before entry number course =
    let late = passed_late (moment_after state entry.now) (delivery_of state.broadcasts number) course in
    let due = after_due state entry.now in
    if is_done (step state before entry).0
    then requested due entry.request (delivery_of due.broadcasts number) late
    else late

-- the course of the broadcast of a number after the entries `later`, if the entries `before` came first
abbrev pub course_after : State → ℕ → List Entry → List Entry → Course → Course
course_after opening number before [] course = course
course_after opening number before (entry ∷ later) course =
    course_after opening number (before ++ entry ∷ []) later
    (after_entry (replay opening before) before entry number course)

-- the request finishes the delivery of that number
abbrev pub is_finish : Request → ℕ → Bool
is_finish (asks.Finish number answer) other = other == number
is_finish _ other = false

-- the request finishes that delivery, if there is one
abbrev pub is_finish_of : Request → Option Delivery → Bool
is_finish_of request None = false
is_finish_of request (Some delivery) = is_finish request delivery.number

-- the entry finished the delivery that the broadcast of a number had then
abbrev pub finishes : State → List Entry → Entry → ℕ → Bool
finishes state before entry number =
    is_done (step state before entry).0
    && is_finish_of entry.request (delivery_of (after_due state entry.now).broadcasts number)

-- those of the entries `later` that finished a delivery of the broadcast of a number, if the entries `before` came
-- first
abbrev pub finishing : State → ℕ → List Entry → List Entry → List Entry
finishing opening number before [] = []
finishing opening number before (entry ∷ later) =
    (if finishes (replay opening before) before entry number then entry ∷ [] else [])
    ++ finishing opening number (before ++ entry ∷ []) later
