-- Gates and a network in memory, as their calls see them.
use Rattle.std.specs.Prelude.{◌≡◌, ℕ, zero, suc, ◌+◌, Bool, true, false, List, [], ◌∷◌, ◌++◌, map, drop, length, slice_index_or, All, Option, Some, None, Result, Ok, Err}
use Rattle.am_outside.specs.declared.failure.Failed.{Failed}
use Rattle.am_outside.specs.Memory.{one_more}
use Rattle.am_network.specs.declared.network.ListenFail.{ListenFail}
use Rattle.am_network.specs.declared.network.ListenFail.TheVariants.{Failed as NetworkFailed, NoMemory}
use Rattle.am_network.specs.declared.memory_link.LinkPlan.{LinkPlan}
use Rattle.am_network.specs.declared.memory_link.MemoryReader.{MemoryReader}
use Rattle.am_network.specs.declared.memory_link.MemoryWriter.{MemoryWriter}
use Rattle.am_network.specs.declared.memory_link.MemoryLink.{MemoryLink}
use Rattle.am_network.specs.declared.memory_gate.GatePlan.{GatePlan}
use Rattle.am_network.specs.declared.progress.Progress.{Progress}
use Rattle.am_network.specs.Links.{GateView, Handed, LinkView, Links, Listening, raised_by}

-- the ends of a planned link are unused: nothing was given, nothing was taken, and no fault was counted
abbrev pub IsUnused : LinkPlan → Type 0
IsUnused link =
    (link.reader.given ≡ []) × (link.reader.faults ≡ 0) × (link.writer.taken ≡ []) × (link.writer.faults ≡ 0)

-- the ends of each link are unused
abbrev pub AreUnused : List LinkPlan → Type 0
AreUnused = All IsUnused

-- the two ends of a planned link, with the link's number as their mark
abbrev pub ends_of : ℕ → LinkPlan → MemoryReader × MemoryWriter
ends_of number link =
    (record { source = link.reader; mark = number }, record { sink = link.writer; mark = number })

-- a link with these two ends, as clauses on any gate see it
abbrev pub ends_view : MemoryReader × MemoryWriter → LinkView
ends_view ends = record {
  left = Some ends.0.source.left;
  read_faults = ends.0.source.faults;
  read_mark = ends.0.mark;
  read_waits = 0;
  taken = Some ends.1.sink.taken;
  write_faults = ends.1.sink.faults;
  write_mark = ends.1.mark;
}

-- a link that is handed out, as clauses on any gate see it
abbrev pub handed_view : MemoryReader × MemoryWriter × Option Progress → Handed
handed_view handed = record { link = ends_view (handed.0, handed.1); before = handed.2 }

-- a link that was taken back, as clauses on any gate see it
abbrev pub link_view : MemoryLink → LinkView
link_view link = ends_view (link.reader, link.writer)

-- what a gate in memory holds: the planned links, how many of them were handed out, those that were taken
-- back, the numbers of the calls for a link that fail, how many such calls there were, how many failed or were to park a
-- link, and how many links had been handed out at the last failure
pub record GateInMemory : Type 0 where
  pub plan : List LinkPlan
  pub handed : ℕ
  pub ended : List MemoryLink
  pub failing : List ℕ
  pub accepts : ℕ
  pub faults : ℕ
  pub failed_at : Option ℕ

-- the ends of each link of each plan are unused
abbrev pub ArePlans : List GatePlan → Type 0
ArePlans = All (λ planned. AreUnused planned.links)

-- the gate of a plan, as it is at first
abbrev pub new_gate : GatePlan → GateInMemory
new_gate planned = record {
  plan = planned.links;
  handed = 0;
  ended = [];
  failing = planned.failing;
  accepts = 0;
  faults = 0;
  failed_at = None;
}

-- the links of a gate, as clauses on any gate see them. It parks none
abbrev pub links_of : GateInMemory → Links
links_of gate = record {
  sent = map (λ link. link.reader.left) gate.plan;
  handed = gate.handed;
  ended = map link_view gate.ended;
  parked = [];
  failed_at = gate.failed_at;
}

-- a gate, as clauses on any network see it
abbrev pub gate_view : GateInMemory → GateView
gate_view gate = record { links = Some (links_of gate); faults = gate.faults }

-- the gate once a call of `accept` failed
abbrev pub failed_once : GateInMemory → GateInMemory
failed_once gate = record gate {
  accepts = one_more gate.accepts;
  faults = one_more gate.faults;
  failed_at = Some gate.handed;
}

-- the gate once a call of `accept` was counted, which may have failed
abbrev pub counted : {X : Type 0} → GateInMemory → Result X Failed → GateInMemory
counted gate (Ok done) = record gate { accepts = one_more gate.accepts }
counted gate (Err e) = failed_once gate

-- the gate once a link was handed out, or none
abbrev pub handed_out : {E : Type 0} → GateInMemory → Option E → GateInMemory
handed_out gate None = gate
handed_out gate (Some ends) = record gate { handed = gate.handed + 1 }

-- the gate after a call of `accept`
abbrev pub after_accept : {E : Type 0} → GateInMemory → Result (Option E) Failed → GateInMemory
after_accept gate (Ok handed) = handed_out (record gate { accepts = one_more gate.accepts }) handed
after_accept gate (Err e) = failed_once gate

-- the gate after a call of `next_link`, which isn't counted if no new link is taken
abbrev pub after_next : {E : Type 0} → Bool → GateInMemory → Result (Option E) Failed → GateInMemory
after_next true gate done = after_accept gate done
after_next false gate done = gate

-- the gate with a link that it was to park, and ended
abbrev pub unparked : GateInMemory → MemoryLink → GateInMemory
unparked gate link = record gate { ended = gate.ended ++ link ∷ []; faults = one_more gate.faults }

-- what a network in memory holds: the gates that are to come, what it was asked for last, the gates that were released
-- since, the numbers of the calls of `listen` that fail, how many such calls there were and failed, and how many faults
-- the released gates had
pub record NetworkInMemory : Type 0 where
  pub coming : List GatePlan
  pub port : ℕ
  pub gates : ℕ
  pub released : List GateInMemory
  pub failing : List ℕ
  pub listens : ℕ
  pub faults : ℕ
  pub gate_faults : ℕ

-- a network of planned gates that was not called yet
abbrev pub new_network : List GatePlan → List ℕ → NetworkInMemory
new_network planned failing = record {
  coming = planned;
  port = 0;
  gates = 0;
  released = [];
  failing = failing;
  listens = 0;
  faults = 0;
  gate_faults = 0;
}

-- the plan of a gate that is closed from the start
abbrev pub no_plan : GatePlan
no_plan = record { links = []; failing = [] }

-- so many gates: those of the plans in their order, and then closed ones
abbrev pub gates_of : ℕ → List GatePlan → List GateInMemory
gates_of zero planned = []
gates_of (suc others) planned = new_gate (slice_index_or planned 0 no_plan) ∷ gates_of others (drop 1 planned)

-- how many links each of so many gates has
abbrev pub rooms_of : ℕ → List GatePlan → List ℕ
rooms_of zero planned = []
rooms_of (suc others) planned = length (slice_index_or planned 0 no_plan).links ∷ rooms_of others (drop 1 planned)

-- what the network was asked for last, as clauses on any network see it
abbrev pub listening_of : NetworkInMemory → Listening
listening_of network =
    record { port = network.port; gates = network.gates; released = map gate_view network.released }

-- the network once it answered so many of its gates, the next ones, at a port
abbrev pub listening_again : NetworkInMemory → ℕ → ℕ → NetworkInMemory
listening_again network port gates =
    record network { coming = drop gates network.coming; port = port; gates = gates; released = [] }

-- the network once a call of `listen` was counted, which may have failed
abbrev pub counted_listen : {X : Type 0} → NetworkInMemory → Result X ListenFail → NetworkInMemory
counted_listen network (Ok done) = record network { listens = one_more network.listens }
counted_listen network (Err NetworkFailed) =
    record network { listens = one_more network.listens; faults = one_more network.faults }
counted_listen network (Err NoMemory) = record network { listens = one_more network.listens }

-- the network after a call of `listen` for that many gates at a port
abbrev pub after_listen : {M : Type 0} → NetworkInMemory → ℕ → ℕ → Result M ListenFail → NetworkInMemory
after_listen network port gates (Ok made) =
    listening_again (record network { listens = one_more network.listens }) port gates
after_listen network port gates (Err NetworkFailed) =
    record network { listens = one_more network.listens; faults = one_more network.faults }
after_listen network port gates (Err NoMemory) = record network { listens = one_more network.listens }

-- the network once a gate was released
abbrev pub after_release : NetworkInMemory → GateInMemory → NetworkInMemory
after_release network gate = record network {
  released = network.released ++ gate ∷ [];
  gate_faults = raised_by gate.faults network.gate_faults;
}
