-- What a worker does: it serves the links of its gate, one after the other, on its desk, and parks those that are idle.
use Rattle.std.specs.Prelude.{◌≡◌, ℕ, ◌+◌, ◌-◌, ◌≤◌, ◌<◌, ◌↔◌, Bool, true, false, IsTrue, if◌then◌else◌, List, [], ◌∷◌, length, drop, min, Option, Some, None, IfSome, unwrap_or, ⊤, Err, Ok, Result}
use Rattle.std.specs.List.{flat_map, AllByRecursion}
use Rattle.am_types.specs.declared.history.Entry.{Entry}
use Rattle.am_outside.specs.Counts.{HasRisen}
use Rattle.am_outside.specs.Memory.{one_more}
use Rattle.am_outside.specs.declared.clock.Clock.{Ghosts as ClockGhosts}
use Rattle.am_outside.specs.declared.failure.Failed.{Failed}
use Rattle.am_network.specs.declared.network.Acceptor.{Ghosts as AcceptorGhosts}
use Rattle.am_network.specs.declared.progress.Progress.{Progress}
use Rattle.am_network.specs.Links.{GateView, Handed, HandsOn, IsDone, LinkView, Links, Parks, Stand, failed, firsts, set_aside, taken_back}
use Rattle.am_desk.specs.declared.Desk.{Ghosts as DeskGhosts}
use Rattle.am_history.specs.State.{State}
use Rattle.am_history.specs.Desks.{DeskView, start_of}
use Rattle.am_history.specs.History.{Extends, entries_of}
use Rattle.am_http.specs.declared.end.End.{End}
use Rattle.am_http.specs.declared.end.End.TheVariants.{Input, Close, Refused, Cut, Limit, Idle, ReadFault, WriteFault}
use Rattle.am_http.specs.declared.end.Served.{Served}
use Rattle.am_http.specs.Exchanges.{AreAnswered, AreInOrder, Exchange, IsAnswer, floor_of, frames_of, moments_of, stored_entries}
use Rattle.am_http.specs.Frames.{Leaves}
use Rattle.am_http.specs.Links.{Gives, GoesOn, Moments}
use Rattle.am_http.specs.Sessions.{GivesAtMost, VisitEnds, Writes, most_frames, most_taken}
use Rattle.am_workers.specs.declared.working.Turn.{Turn}
use Rattle.am_workers.specs.declared.working.Worked.{Worked}

-- a link that was served for a while: as it was handed out, as it came back, the exchanges that went over it in
-- between, whether it was then parked, and not ended, and whether its gate was to park it and didn't
pub record Service : Type 0 where
  pub first : Handed
  pub last : LinkView
  pub exchanges : List Exchange
  pub parked : Bool
  pub refused : Bool

-- how far a link was before it was handed out
abbrev pub progress_before : Handed → Progress
progress_before handed = unwrap_or handed.before (record { answered = 0; least = 0 })

-- how many of its frames were answered before
abbrev pub answered_before : Handed → ℕ
answered_before handed = (progress_before handed).answered

-- the least place that its next answer may have
abbrev pub least_before : Handed → ℕ
least_before handed = (progress_before handed).least

-- how many frames of a link may still be answered
abbrev pub frames_left : Handed → ℕ
frames_left handed = most_frames - answered_before handed

-- the cause of an end by a fault, or of a rest: a count of the link rose
abbrev pub HasCause : End → LinkView → LinkView → Type 0
HasCause Input old new = ⊤
HasCause Close old new = ⊤
HasCause Refused old new = ⊤
HasCause Cut old new = ⊤
HasCause Limit old new = ⊤
HasCause Idle old new = HasRisen old.read_waits new.read_waits
HasCause ReadFault old new = HasRisen old.read_faults new.read_faults
HasCause WriteFault old new = HasRisen old.write_faults new.write_faults

-- the link was served as a connection: its frames are those that came over it, no more than it may still have, it took
-- their responses, and its end has its cause. It was to be parked exactly if it was idle
pub record IsServed (service : Service) : Type 0 where
  pub how : Served
  pub rest : Option (List ℕ)
  pub last : List ℕ
  pub frames : Leaves service.first.link.left (frames_of service.exchanges) rest
  pub most : length service.exchanges ≤ frames_left service.first
  pub taken : GivesAtMost (most_taken (frames_left service.first)) service.first.link.left service.last.left
  pub end : VisitEnds (frames_left service.first) how.end how.answered service.exchanges
      (record { rest = rest; left = service.last.left; last = last })
  pub output : Writes how service.first.link.taken service.last.taken service.exchanges last
  pub cause : HasCause how.end service.first.link service.last
  pub parked : service.parked ≡ true → how.end ≡ Idle
  pub refused : (service.refused ≡ true) ↔ ((how.end ≡ Idle) × (service.parked ≡ false))

-- along the link's exchanges places are in order, from the least place on with which it was handed out
abbrev pub IsInOrder : Service → Type 0
IsInOrder service = AreInOrder (least_before service.first) service.exchanges

-- how far the link is after that
abbrev pub progress_after : Service → Progress
progress_after service = record {
  answered = answered_before service.first + length service.exchanges;
  least = floor_of (least_before service.first) service.exchanges;
}

-- how many of the links were handed out for the first time
abbrev pub new_in : List Service → ℕ
new_in [] = 0
new_in (service ∷ others) = firsts service.first.before + new_in others

-- a gate's count of faults after these links: one more for each that it was to park and didn't
abbrev pub faults_after : ℕ → List Service → ℕ
faults_after faults [] = faults
faults_after faults (service ∷ others) = faults_after (if service.refused then one_more faults else faults) others

-- how many of the links were ended
abbrev pub ended_in : List Service → ℕ
ended_in [] = 0
ended_in (service ∷ others) = (if service.parked then 0 else 1) + ended_in others

-- the exchanges of all links, one link after the other
abbrev pub exchanges_of : List Service → List Exchange
exchanges_of services = flat_map (λ (service : Service). service.exchanges) services

-- a worker of that number served these links over a history that begins at `start`: each link as a connection, each
-- exchange answered at its place of the history, the places in order along all links and none below the floor; and the
-- entries of its number from the floor on are the stored calls of these links, each once and in order
pub record IsWorked (start : State) (floor number : ℕ) (history : List Entry) (services : List Service) : Type 0 where
  pub each : AllByRecursion IsServed services
  pub answers : AllByRecursion (IsAnswer start number history) (exchanges_of services)
  pub in_order : AreInOrder floor (exchanges_of services)
  pub within : floor_of floor (exchanges_of services) ≤ length history
  pub own : entries_of number (drop floor history) ≡ stored_entries history (exchanges_of services)

-- the gate once it has the link of the service back: parked, with how far it is, or ended
abbrev pub given_back : Option Links → Service → Option Links
given_back links service =
    if service.parked
    then set_aside links (record { link = service.last; progress = progress_after service })
    else taken_back links service.last

-- a gate that was so handed out these links, one after the other, each for the first time or as it was parked, and had
-- each back before the next; and then it is so
abbrev pub AreOfGate : Option Links → Option Links → List Service → Type 0
AreOfGate old new [] = new ≡ old
AreOfGate old new (service ∷ others) =
    (out : Option Links) × HandsOn old out service.first × AreOfGate (given_back out service) new others

-- the moments of the calls of these links, one link after the other
abbrev pub moments_of_all : List Service → List ℕ
moments_of_all services = moments_of (exchanges_of services)

-- the view of a gate
abbrev pub gate_of : {A R W : Type 0} → AcceptorGhosts A R W → A → GateView
gate_of g gate = record { links = g.links gate; faults = g.faults gate }

-- a worker: its desk, whether its calls wait for the least place, its gate, and the moments that its clock will answer, if
-- it tells them
pub record WorkerView : Type 0 where
  pub desk : DeskView
  pub waits : Bool
  pub gate : GateView
  pub clock : Moments

abbrev pub worker_of : {D A R W C : Type 0} → DeskGhosts D → AcceptorGhosts A R W → ClockGhosts C → D → A → C
    → WorkerView
worker_of d a c desk gate clock =
    record { desk = d.view desk; waits = d.waits; gate = gate_of a gate; clock = c.moments clock }

-- a worker served these links: the moments of their calls are those that its clock answered, one after the other. If its
-- desk waits, the places along each link are in order from where its last visit ended
pub record HasServed (old new : WorkerView) (services : List Service) : Type 0 where
  pub desk : GoesOn old.desk new.desk
  pub grows : Extends old.desk.seen new.desk.seen
  pub worked : IsWorked (start_of old.desk) (length old.desk.seen) old.desk.number new.desk.seen services
  pub in_order : IsTrue old.waits → AllByRecursion IsInOrder services
  pub links : AreOfGate old.gate.links new.gate.links services
  pub moments : Gives old.clock (moments_of_all services) new.clock
  pub faults : old.gate.faults ≤ new.gate.faults

-- whether a worker that took so many new links takes further ones: until it took as many as it may
abbrev pub TakesNew : Option ℕ → ℕ → Bool → Type 0
TakesNew None taken takes_new = takes_new ≡ true
TakesNew (Some most) taken true = taken < most
TakesNew (Some most) taken false = most ≤ taken

-- it may stop once no link is to come. If it takes no new one, none is parked
abbrev pub MayStop : Option ℕ → Option Links → ℕ → Type 0
MayStop most links taken = (takes_new : Bool) × TakesNew most taken takes_new × IfSome links (IsDone takes_new)

-- how a worker ended that took so many new links, whose gate had counted `faults` and had these links behind the last
-- that was served. If it failed, a call of its gate did, once, after that link; if it didn't, no call of its gate
-- failed, and it may stop
abbrev pub EndsSo : Bool → Option ℕ → ℕ → Option Links → GateView → ℕ → Type 0
EndsSo true most faults links gate taken = (gate.faults ≡ one_more faults) × (gate.links ≡ failed links)
EndsSo false most faults links gate taken =
    (gate.faults ≡ faults) × (gate.links ≡ links) × MayStop most links taken

-- a worker served its links, of which at most so many were new, until none was to come or its gate failed. `links` are
-- those of the gate behind the last that was served
pub record Works (most : Option ℕ) (old new : WorkerView) (worked : Worked) : Type 0 where
  pub services : List Service
  pub links : Option Links
  pub has : HasServed old (record new { gate = record (new.gate) { links = links } }) services
  pub few : IfSome most (λ m. new_in services ≤ m)
  pub served : worked.served ≡ min 18446744073709551615 (ended_in services)
  pub ends : EndsSo worked.failed most (faults_after old.gate.faults services) links new.gate (new_in services)

-- whether a worker that took so many new links takes further ones, where the most is a number of 32 bits
abbrev pub TellsShort : Option ℕ → ℕ → Bool → Type 0
TellsShort None taken short = short ≡ true
TellsShort (Some most) taken true = (taken < most) × (most < 4294967296)
TellsShort (Some most) taken false = (most ≤ taken) × (most < 4294967296)

-- the gate has a link back, whose connection ended so: parked or not if it was idle, and ended if not. So many links
-- were ended by that
pub record IsBack (end : End) (old new : GateView) (stand : Stand) (ended : ℕ) : Type 0 where
  pub parked : Bool
  pub refused : Bool
  pub rests : parked ≡ true → end ≡ Idle
  pub refuses : (refused ≡ true) ↔ ((end ≡ Idle) × (parked ≡ false))
  pub links : Parks parked old.links new.links stand
  pub faults : new.faults ≡ (if refused then one_more old.faults else old.faults)
  pub many : ended ≡ (if parked then 0 else 1)

-- what a turn over this link counts, where new links are taken or aren't, and the gate's faults before and after it
pub record IsCounted (takes_new : Bool) (old new : ℕ) (turn : Turn) (service : Service) : Type 0 where
  pub faults : new ≡ faults_after old (service ∷ [])
  pub taken : turn.taken ≡ new_in (service ∷ [])
  pub asked : takes_new ≡ false → turn.taken ≡ 0
  pub ended : turn.ended ≡ ended_in (service ∷ [])

-- the next link was served, at moments of the clock; or no link was to come. No call for a link failed
abbrev pub ServesNext : Bool → WorkerView → WorkerView → Option Turn → Type 0
ServesNext takes_new old new (Some turn) =
    (service : Service) × AreAnswered old.desk new.desk service.exchanges × IsServed service
    × AreOfGate old.gate.links new.gate.links (service ∷ []) × Gives old.clock (moments_of service.exchanges) new.clock
    × IsCounted takes_new old.gate.faults new.gate.faults turn service × (IsTrue old.waits → IsInOrder service)
ServesNext takes_new old new None =
    (new.desk ≡ old.desk) × (new.gate.links ≡ old.gate.links) × IfSome old.gate.links (IsDone takes_new)
    × Gives old.clock [] new.clock × (new.gate.faults ≡ old.gate.faults)

-- the same; or a call for a link failed, and nothing else was done
abbrev pub TriesNext : Bool → WorkerView → WorkerView → Result (Option Turn) Failed → Type 0
TriesNext takes_new old new (Ok next) = ServesNext takes_new old new next
TriesNext takes_new old new (Err e) =
    (new.desk ≡ old.desk) × (new.gate.links ≡ failed old.gate.links) × (new.gate.faults ≡ one_more old.gate.faults)
    × Gives old.clock [] new.clock
