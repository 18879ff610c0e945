-- Gates in memory that park links, and a network of them, as their calls see them.
use Rattle.std.specs.Prelude.{ℕ, ◌+◌, Bool, true, false, List, [], ◌∷◌, ◌++◌, map, drop, slice_get, All, Option, Some, None, Result, Ok, Err}
use Rattle.am_outside.specs.declared.failure.Failed.{Failed}
use Rattle.am_outside.specs.Memory.{one_more}
use Rattle.am_network.specs.declared.memory_link.MemoryWriter.{MemoryWriter}
use Rattle.am_network.specs.declared.progress.Progress.{Progress}
use Rattle.am_network.specs.declared.resting_reader.RestingReader.{RestingReader}
use Rattle.am_network.specs.Links.{GateView, Handed, IsNewGate, LinkView, Links, Stand}
use Rattle.am_network.specs.Memory.{IsUnused}
use Rattle.am_trials_network.specs.declared.resting_link.ParkedLink.{ParkedLink}
use Rattle.am_trials_network.specs.declared.resting_link.RestingLink.{RestingLink}
use Rattle.am_trials_network.specs.declared.resting_link.RestingPlan.{RestingPlan}

-- the two ends of a planned link are unused
abbrev pub HasUnusedEnds : RestingPlan → Type 0
HasUnusedEnds planned = IsUnused (record { reader = planned.reader; writer = planned.writer })

-- the ends of each planned link are unused
abbrev pub AreUnused : List RestingPlan → Type 0
AreUnused = All HasUnusedEnds

-- the two ends of a planned link, with the link's number as their mark. The reader was never asked whether it is ready
abbrev pub ends_of : ℕ → RestingPlan → RestingReader × MemoryWriter
ends_of number planned = (
  record {
    reader = record { source = planned.reader; mark = number };
    pauses = planned.pauses;
    asks = 0;
    waits = 0;
  },
  record { sink = planned.writer; mark = number },
)

-- a link with these two ends, as clauses on any gate see it
abbrev pub ends_view : RestingReader × MemoryWriter → LinkView
ends_view ends = record {
  left = Some ends.0.reader.source.left;
  read_faults = ends.0.reader.source.faults;
  read_mark = ends.0.reader.mark;
  read_waits = ends.0.waits;
  taken = Some ends.1.sink.taken;
  write_faults = ends.1.sink.faults;
  write_mark = ends.1.mark;
}

-- a link that was ended, as clauses on any gate see it
abbrev pub link_view : RestingLink → LinkView
link_view link = ends_view (link.reader, link.writer)

-- a link that is parked, as clauses on any gate see it
abbrev pub parked_view : ParkedLink → Stand
parked_view parked = record { link = link_view parked.link; progress = parked.progress }

-- what a gate that parks links hands out: the two ends of a link, and how far it was before if it is handed out again
abbrev pub HandedEnds : Type 0
HandedEnds = RestingReader × MemoryWriter × Option Progress

-- what it hands out, as clauses on any gate see it
abbrev pub handed_view : HandedEnds → Handed
handed_view handed = record { link = ends_view (handed.0, handed.1); before = handed.2 }

-- the two ends of a link that is handed out for the first time
abbrev pub ends_first : ℕ → RestingPlan → HandedEnds
ends_first number planned = ((ends_of number planned).0, (ends_of number planned).1, None)

-- the two ends of a parked link with its progress, as it was parked
abbrev pub ends_again : ParkedLink → HandedEnds
ends_again parked = (parked.link.reader, parked.link.writer, Some parked.progress)

-- what a gate in memory that parks links holds: the links that were planned, how many of them were handed out, those
-- that were ended, those that are parked in the order in which they came, the numbers of the calls for a link that fail,
-- how many such calls there were and failed, and how many links had been handed out at the last failure
pub record RestingInMemory : Type 0 where
  pub plan : List RestingPlan
  pub handed : ℕ
  pub ended : List RestingLink
  pub parked : List ParkedLink
  pub failing : List ℕ
  pub calls : ℕ
  pub faults : ℕ
  pub failed_at : Option ℕ

-- the gate of a plan, as it is at first
abbrev pub new_gate : List RestingPlan → List ℕ → RestingInMemory
new_gate planned failing = record {
  plan = planned;
  handed = 0;
  ended = [];
  parked = [];
  failing = failing;
  calls = 0;
  faults = 0;
  failed_at = None;
}

-- the links of a gate, as clauses on any gate see them
abbrev pub links_of : RestingInMemory → Links
links_of gate = record {
  sent = map (λ planned. planned.reader.left) gate.plan;
  handed = gate.handed;
  ended = map link_view gate.ended;
  parked = map parked_view gate.parked;
  failed_at = gate.failed_at;
}

-- a gate, as clauses on any network see it
abbrev pub gate_view : RestingInMemory → GateView
gate_view gate = record { links = Some (links_of gate); faults = gate.faults }

-- the gate once a call for a link failed
abbrev pub failed_once : RestingInMemory → RestingInMemory
failed_once gate = record gate {
  calls = one_more gate.calls;
  faults = one_more gate.faults;
  failed_at = Some gate.handed;
}

-- the gate once a call for a link was counted
abbrev pub called_once : RestingInMemory → RestingInMemory
called_once gate = record gate { calls = one_more gate.calls }

-- the gate once a call for a link was counted, which may have failed
abbrev pub counted : {X : Type 0} → RestingInMemory → Result X Failed → RestingInMemory
counted gate (Ok done) = called_once gate
counted gate (Err e) = failed_once gate

-- the gate once its next link was handed out for the first time, or none
abbrev pub handed_first : {E : Type 0} → RestingInMemory → Option E → RestingInMemory
handed_first gate None = gate
handed_first gate (Some ends) = record gate { handed = gate.handed + 1 }

-- the link that is to come for the first time, if new ones are taken
abbrev pub coming : Bool → RestingInMemory → Option RestingPlan
coming true gate = slice_get gate.plan gate.handed
coming false gate = None

-- what a gate hands out next: a link for the first time, or else the one that is parked the longest
abbrev pub next_of : ℕ → Option RestingPlan → List ParkedLink → Option HandedEnds
next_of handed (Some planned) parked = Some (ends_first handed planned)
next_of handed None [] = None
next_of handed None (first ∷ others) = Some (ends_again first)

-- the gate once it handed that out
abbrev pub handed_next : RestingInMemory → Option RestingPlan → RestingInMemory
handed_next gate (Some planned) = record gate { handed = gate.handed + 1 }
handed_next gate None = record gate { parked = drop 1 gate.parked }

-- the gate with a link that was ended
abbrev pub with_ended : RestingInMemory → RestingLink → RestingInMemory
with_ended gate link = record gate { ended = gate.ended ++ link ∷ [] }

-- the gate with a link that was parked
abbrev pub with_parked : RestingInMemory → ParkedLink → RestingInMemory
with_parked gate link = record gate { parked = gate.parked ++ link ∷ [] }

-- the gate is new, as clauses on any network say it
abbrev pub IsNew : RestingInMemory → Type 0
IsNew gate = IsNewGate (gate_view gate)

-- each gate is new
abbrev pub AreNew : List RestingInMemory → Type 0
AreNew = All IsNew
