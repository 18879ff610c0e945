-- Links, the gates at which they arrive, and the network that the gates belong to, as clauses see them.
use Rattle.std.specs.Prelude.{◌≡◌, ℕ, ◌+◌, ◌≤◌, ◌<◌, ◌⊎◌, Bool, true, false, List, [], ◌∷◌, ◌++◌, length, slice_get, Option, Some, None, IfSome, ⊤, min}
use Rattle.std.specs.List.{AllByRecursion}
use Rattle.am_outside.specs.Memory.{one_more}
use Rattle.am_outside.specs.declared.outside.Source.{Ghosts as SourceGhosts}
use Rattle.am_outside.specs.declared.outside.Sink.{Ghosts as SinkGhosts}
use Rattle.am_network.specs.declared.progress.Progress.{Progress}

-- a link: what is left of its bytes and what it took, if its two ends tell that, their counts of faults, their marks,
-- and how many times its reader said that a read would wait
pub record LinkView : Type 0 where
  pub left : Option (List ℕ)
  pub read_faults : ℕ
  pub read_mark : ℕ
  pub read_waits : ℕ
  pub taken : Option (List ℕ)
  pub write_faults : ℕ
  pub write_mark : ℕ

-- the view of a link with this reader and this writer
abbrev pub link_of : {R W : Type 0} → SourceGhosts R → SinkGhosts W → R → W → LinkView
link_of r w reader writer = record {
  left = r.left reader;
  read_faults = r.faults reader;
  read_mark = r.mark reader;
  read_waits = r.waits reader;
  taken = w.taken writer;
  write_faults = w.faults writer;
  write_mark = w.mark writer;
}

-- a link between two visits: how it is, and how far
pub record Stand : Type 0 where
  pub link : LinkView
  pub progress : Progress

-- a link as it is handed out: how it is, and how far it was before if it is handed out again
pub record Handed : Type 0 where
  pub link : LinkView
  pub before : Option Progress

-- how many links are handed out for the first time by that: one, or none if it is handed out again
abbrev pub firsts : Option Progress → ℕ
firsts None = 1
firsts (Some before) = 0

-- the links of a gate that tells them: the bytes that come over each, how many were handed out (always the first
-- ones), those that were taken back, those that are parked and come again, and how many had been handed out
-- when a call for the next link failed last, if one did
pub record Links : Type 0 where
  pub sent : List (List ℕ)
  pub handed : ℕ
  pub ended : List LinkView
  pub parked : List Stand
  pub failed_at : Option ℕ

-- a gate: its links, if it tells them, and its count of faults
pub record GateView : Type 0 where
  pub links : Option Links
  pub faults : ℕ

-- the link with this number, counted from 0, as it is handed out, with these bytes to come
abbrev pub new_link : ℕ → List ℕ → LinkView
new_link number bytes = record {
  left = Some bytes;
  read_faults = 0;
  read_mark = number;
  read_waits = 0;
  taken = Some [];
  write_faults = 0;
  write_mark = number;
}

-- no fault was counted yet
abbrev pub IsFaultless : LinkView → Type 0
IsFaultless link = (link.read_faults ≡ 0) × (link.write_faults ≡ 0)

-- no link is to come: none for the first time, and none again
abbrev pub IsClosed : Links → Type 0
IsClosed links = (length links.sent ≤ links.handed) × (links.parked ≡ [])

-- the two ends of a link have one mark
abbrev pub HasOneMark : LinkView → Type 0
HasOneMark link = link.read_mark ≡ link.write_mark

-- every link that was handed out was taken back, or is parked with two ends of one mark
abbrev pub AreBack : Links → Type 0
AreBack links =
    (length links.ended + length links.parked ≡ links.handed)
    × AllByRecursion (λ (stand : Stand). HasOneMark stand.link) links.parked

-- no link is parked
abbrev pub IsNoneParked : Links → Type 0
IsNoneParked links = links.parked ≡ []

-- the gate handed out its next link for the first time, or none if no link is to come
abbrev pub HandsOut : Option Links → Option Links → Option LinkView → Type 0
HandsOut None new handed = (new ≡ None) × IfSome handed IsFaultless
HandsOut (Some links) new None = IsClosed links × (new ≡ Some links)
HandsOut (Some links) new (Some link) =
    (bytes : List ℕ) × (slice_get links.sent links.handed ≡ Some bytes)
    × (link ≡ new_link links.handed bytes) × (new ≡ Some (record links { handed = links.handed + 1 }))

-- the gate handed out its next link for the first time
abbrev pub HandsNew : Links → Option Links → Handed → Type 0
HandsNew links new handed = HandsOut (Some links) new (Some handed.link) × (handed.before ≡ None)

-- it handed out a parked link again, as it was parked
abbrev pub HandsAgain : Links → Option Links → Handed → Type 0
HandsAgain links new handed =
    (before : List Stand) × (stand : Stand) × (after : List Stand)
    × (links.parked ≡ before ++ stand ∷ after) × (new ≡ Some (record links { parked = before ++ after }))
    × (handed ≡ record { link = stand.link; before = Some stand.progress })

-- the gate handed out a link, for the first time or again
abbrev pub HandsOn : Option Links → Option Links → Handed → Type 0
HandsOn None new handed = new ≡ None
HandsOn (Some links) new handed = HandsNew links new handed ⊎ HandsAgain links new handed

-- no link is to come if new ones are taken, or aren't
abbrev pub IsDone : Bool → Links → Type 0
IsDone true links = IsClosed links
IsDone false links = IsNoneParked links

-- the gate handed out a link, and for the first time only if new ones are taken; or none if no link is to come
abbrev pub HandsNext : Bool → Option Links → Option Links → Option Handed → Type 0
HandsNext takes_new old new (Some handed) =
    HandsOn old new handed × (takes_new ≡ false → firsts handed.before ≡ 0)
HandsNext takes_new old new None = (new ≡ old) × IfSome old (IsDone takes_new)

-- the links of a gate once a call for the next link failed and handed out none
abbrev pub failed : Option Links → Option Links
failed None = None
failed (Some links) = Some (record links { failed_at = Some links.handed })

-- no link was handed out for the first time after the last call that failed
abbrev pub HasFailedLast : Links → Type 0
HasFailedLast links = links.failed_at ≡ Some links.handed

-- the reader of a gate that tells its links has given nothing yet
abbrev pub IsUnread : Option Links → Option (List ℕ) → Type 0
IsUnread None given = ⊤
IsUnread (Some links) given = given ≡ Some []

-- the same of a link that was handed out, unless it was again
abbrev pub IsUnreadAtFirst : Option Links → Option Progress → Option (List ℕ) → Type 0
IsUnreadAtFirst links None given = IsUnread links given
IsUnreadAtFirst links (Some before) given = ⊤

-- a link may be taken back or parked: one that was handed out is not back yet, and its two ends have one mark
abbrev pub MayTakeBack : Option Links → LinkView → Type 0
MayTakeBack None link = ⊤
MayTakeBack (Some links) link =
    (length links.ended + length links.parked < links.handed) × HasOneMark link

-- the gate with a link that was taken back
abbrev pub taken_back : Option Links → LinkView → Option Links
taken_back None link = None
taken_back (Some links) link = Some (record links { ended = links.ended ++ link ∷ [] })

-- the gate with a link that was parked
abbrev pub set_aside : Option Links → Stand → Option Links
set_aside None stand = None
set_aside (Some links) stand = Some (record links { parked = links.parked ++ stand ∷ [] })

-- the gate parked the link, or ended it, and says which
abbrev pub Parks : Bool → Option Links → Option Links → Stand → Type 0
Parks true old new stand = new ≡ set_aside old stand
Parks false old new stand = new ≡ taken_back old stand.link

-- the gate's count of faults once it parked the link, or didn't
abbrev pub parking_counted : Bool → ℕ → ℕ
parking_counted true faults = faults
parking_counted false faults = one_more faults

-- no link was handed out, none was taken back or parked, and no call for the next link failed
abbrev pub AreUntouched : Links → Type 0
AreUntouched links =
    (links.handed ≡ 0) × (links.ended ≡ []) × (links.parked ≡ []) × (links.failed_at ≡ None)

-- a gate as it is made: no fault was counted, and its links are untouched
abbrev pub IsNewGate : GateView → Type 0
IsNewGate gate = (gate.faults ≡ 0) × IfSome gate.links AreUntouched

-- what a network was asked for last, if it tells that: a port, how many gates it answered, and which were released
-- since, in their order
pub record Listening : Type 0 where
  pub port : ℕ
  pub gates : ℕ
  pub released : List GateView

-- a gate may be released: fewer were released than were answered
abbrev pub MayRelease : Option Listening → Type 0
MayRelease told = IfSome told (λ listening. length listening.released < listening.gates)

-- the network once a gate was released
abbrev pub released : Option Listening → GateView → Option Listening
released None gate = None
released (Some listening) gate = Some (record listening { released = listening.released ++ gate ∷ [] })

-- the network once it answered that many gates at a port
abbrev pub listening_at : Option Listening → ℕ → ℕ → Option Listening
listening_at None port gates = None
listening_at (Some before) port gates = Some (record { port = port; gates = gates; released = [] })

-- a count raised by another, which stays at the greatest 64-bit number
abbrev pub raised_by : ℕ → ℕ → ℕ
raised_by faults count = min 18446744073709551615 (count + faults)
