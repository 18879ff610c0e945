-- A manager that many workers serve over a network.
use Rattle.std.specs.Prelude.{◌≡◌, ℕ, suc, ◌+◌, ◌≤◌, Bool, true, List, [], ◌∷◌, length, map, min, Option, Some, None, IfSome, All, IsTrue, ⊤, sum_by}
use Rattle.std.specs.List.{AllByRecursion, list_any}
use Rattle.am_types.specs.declared.history.Entry.{Entry}
use Rattle.am_outside.specs.Counts.{HasRisen}
use Rattle.am_network.specs.declared.network.Network.{Ghosts as NetworkGhosts}
use Rattle.am_network.specs.Links.{GateView, IsNewGate, Links, Listening, raised_by, released}
use Rattle.am_history.specs.Desks.{Origin, opening_of}
use Rattle.am_history.specs.History.{IsLegal}
use Rattle.am_history.specs.Steps.{has_formed_row}
use Rattle.am_baton.specs.Shared.{IsNumbered}
use Rattle.am_http.specs.Links.{Gives, Moments}
use Rattle.am_workers.specs.declared.working.Worked.{Worked}
use Rattle.am_workers.specs.Work.{AreOfGate, EndsSo, IsInOrder, IsWorked, Service, ended_in, faults_after, moments_of_all, new_in}

-- a network as clauses see it: what it was asked for last, if it tells that, how often it was asked, and its two counts
-- of faults
pub record NetworkView : Type 0 where
  pub listening : Option Listening
  pub listens : ℕ
  pub faults : ℕ
  pub gate_faults : ℕ

abbrev pub network_of : {N G R W : Type 0} → NetworkGhosts N G R W → N → NetworkView
network_of g network = record {
  listening = g.listening network;
  listens = g.listens network;
  faults = g.faults network;
  gate_faults = g.gate_faults network;
}

-- so many gates may be released
abbrev pub MayReleaseAll : Option Listening → ℕ → Type 0
MayReleaseAll told count = IfSome told (λ listening. length listening.released + count ≤ listening.gates)

-- the network once these gates were released, one after the other
abbrev pub all_released : Option Listening → List GateView → Option Listening
all_released told [] = told
all_released told (gate ∷ others) = all_released (released told gate) others

-- its count of the gates' faults after that
abbrev pub faults_raised : ℕ → List GateView → ℕ
faults_raised count [] = count
faults_raised count (gate ∷ others) = faults_raised (raised_by gate.faults count) others

-- as many gates as there are workers were released, each of them new: it had handed out no link, and no call of it had
-- failed. Nothing else was done to the network
pub record IsUnserved (workers : ℕ) (old new : NetworkView) : Type 0 where
  pub gates : List GateView
  pub count : length gates ≡ workers
  pub fresh : AllByRecursion IsNewGate gates
  pub told : new.listening ≡ all_released old.listening gates
  pub listens : new.listens ≡ old.listens
  pub faults : new.faults ≡ old.faults
  pub gate_faults : new.gate_faults ≡ old.gate_faults

-- what a manager had as its serving began: where it comes from, its history, and the moments that the clock of the
-- serving will answer, if it tells them
pub record Begun : Type 0 where
  pub origin : Origin
  pub history : List Entry
  pub clock : Moments

-- and what it had as its serving ended, with what the workers did
pub record Ended : Type 0 where
  pub history : List Entry
  pub totals : Worked

-- one gate as it was released, its links once its worker had served the last of them, those that it served, and whether
-- a call of the gate failed
pub record Gatework : Type 0 where
  pub gate : GateView
  pub links : Option Links
  pub services : List Service
  pub failed : Bool

-- all the links that a gate has handed out and had back since it was made are these
abbrev pub AreAllLinks : Links → List Service → Type 0
AreAllLinks links services =
    AreOfGate (Some (record { sent = links.sent; handed = 0; ended = []; parked = []; failed_at = None })) (Some links)
    services

-- the worker of that number served the links of its gate over the history, which are all that the gate handed out, of
-- which at most so many were new. Along each link places are in order from where its last visit ended. The moments of their
-- calls are those of the serving's clock, one after the other from the first. It stopped when no link was to come, or since
-- a call of its gate failed
pub record IsGateServed (most : Option ℕ) (begun : Begun) (ended : Ended) (number : ℕ) (work : Gatework) : Type 0 where
  pub worked : IsWorked (opening_of begun.origin) (length begun.history) number ended.history work.services
  pub in_order : AllByRecursion IsInOrder work.services
  pub links : IfSome work.links (λ links. AreAllLinks links work.services)
  pub few : IfSome most (λ m. new_in work.services ≤ m)
  pub told : Moments
  pub moments : Gives begun.clock (moments_of_all work.services) told
  pub ends : EndsSo work.failed most (faults_after 0 work.services) work.links work.gate (new_in work.services)

-- each gate was served by the worker of its number, where the first has that number
abbrev pub AreServed : Option ℕ → Begun → Ended → ℕ → List Gatework → Type 0
AreServed most begun ended number [] = ⊤
AreServed most begun ended number (work ∷ others) =
    IsGateServed most begun ended number work × AreServed most begun ended (suc number) others

-- the gates of these works
abbrev pub gates_of : List Gatework → List GateView
gates_of works = map (λ (work : Gatework). work.gate) works

-- the row that the entry's request has kept, if any, has a row's form
abbrev pub IsFormed : Entry → Type 0
IsFormed entry = IsTrue (has_formed_row entry.request)

-- the manager was served by that many workers over as many gates of the network: its history goes on from the one that
-- it had, and could have been made from its opening state; each entry behind carries a worker's number and is formed;
-- each worker served its gate over this history; the gates were released in order; the totals are those of all workers;
-- and they say that a gate failed exactly if one did
pub record ServesAll (most : Option ℕ) (workers : ℕ) (begun : Begun) (ended : Ended) (old new : NetworkView) : Type 0
  where
    pub legal : IsLegal (opening_of begun.origin) ended.history
    pub numbered : IsNumbered workers begun.history ended.history
    pub formed : All IsFormed numbered.0
    pub works : List Gatework
    pub count : length works ≡ workers
    pub served : AreServed most begun ended 0 works
    pub told : new.listening ≡ all_released old.listening (gates_of works)
    pub total : ended.totals.served
        ≡ min 18446744073709551615 (sum_by (λ (work : Gatework). ended_in work.services) works)
    pub failed : ended.totals.failed ≡ list_any (λ (work : Gatework). work.failed) works
    pub risen : ended.totals.failed ≡ true → HasRisen old.gate_faults new.gate_faults
    pub listens : new.listens ≡ old.listens
    pub faults : new.faults ≡ old.faults
    pub gate_faults : new.gate_faults ≡ faults_raised old.gate_faults (gates_of works)
