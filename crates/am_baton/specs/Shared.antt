-- What the desks that share a manager know, and the rule that ties them to it.
use Rattle.std.specs.Prelude.{◌≡◌, ℕ, suc, ◌+◌, ◌<◌, ◌≤◌, ◌⊎◌, Bool, true, false, List, [], ◌∷◌, ◌++◌, length, slice_index_or, All, None}
use mathlib.Core.Option.{some}
use lib.ListN.{get_elem?}
use Rattle.atomic_table.specs.Seated.{TableId}
use Rattle.am_types.specs.declared.device.Rules.TheVariants.{Profile}
use Rattle.am_types.specs.declared.history.Entry.{Entry}
use Rattle.am_keeper.specs.Rows.{no_rows}
use Rattle.am_history.specs.Desks.{Origin, Sharing, DeskView}
use Rattle.am_history.specs.History.{Extends, entries_of}
use Rattle.am_machine.specs.Managed.{Managed}
use Rattle.am_baton.specs.declared.baton.Baton.{Baton}

-- what the desks of one manager have in common: where it comes from, how many desks there are, and the history that it
-- had when they were made
pub record Start : Type 0 where
  pub origin : Origin
  pub desks : ℕ
  pub handed : List Entry

-- one of these desks: its number, and the entries of the history that it has seen
pub record Mark : Type 0 where
  pub start : Start
  pub number : ℕ
  pub seen : List Entry

-- what a pass knows: whether nothing was put into the queue yet, whether it stands for a desk, whether the manager is
-- out with it, whether the next desk is made of it, its desk, and the desks whose passes it took in
pub record Known : Type 0 where
  pub fresh : Bool
  pub live : Bool
  pub holds : Bool
  pub makes : Bool
  pub mark : Mark
  pub ended : List Mark

-- a queue's table as numbers
abbrev pub key_of : TableId → List ℕ
key_of t = t.words ∷ (t.slots ∷ (t.views_name ∷ (t.atom ∷ (t.block ∷ (t.offset ∷ t.slot_names)))))

abbrev pub no_origin : Origin
no_origin = record {
  device = record {
    rules = Profile;
    system_key = [];
    root_key = None;
    browser = None;
    protected = [];
    exempt = [];
    packages = [];
    grants = [];
    links = [];
  };
  rows = no_rows;
  place = None;
}

abbrev pub no_mark : Mark
no_mark = record { start = record { origin = no_origin; desks = 0; handed = [] }; number = 0; seen = [] }

-- a desk as it is made
abbrev pub new_mark : Start → ℕ → Mark
new_mark start number = record { start = start; number = number; seen = start.handed }

-- which desks share, by the queue's table
abbrev pub sharing_of : TableId → Start → Sharing
sharing_of table start = record { id = key_of table; desks = start.desks; handed = start.handed }

-- the desk as its caller sees it
abbrev pub desk_of : TableId → Mark → DeskView
desk_of table mark = record {
  origin = mark.start.origin;
  number = mark.number;
  sharing = sharing_of table mark.start;
  seen = mark.seen;
}

-- the first pass, before the manager was put into the queue
abbrev pub fresh : Known
fresh = record { fresh = true; live = false; holds = false; makes = false; mark = no_mark; ended = [] }

-- a pass that another took in
abbrev pub spent : Known
spent = record { fresh = false; live = false; holds = false; makes = false; mark = no_mark; ended = [] }

-- the pass of a desk with which the manager isn't out
abbrev pub idle : Bool → Mark → List Mark → Known
idle makes mark ended =
    record { fresh = false; live = true; holds = false; makes = makes; mark = mark; ended = ended }

-- the pass of a desk with which the manager is out
abbrev pub holding : Bool → Mark → List Mark → Known
holding makes mark ended =
    record { fresh = false; live = true; holds = true; makes = makes; mark = mark; ended = ended }

-- the desk has seen the whole of that history
abbrev pub with_seen : Mark → List Entry → Mark
with_seen mark history = record mark { seen = history }

-- the next desk, as it is made
abbrev pub next_mark : Mark → Mark
next_mark mark = new_mark mark.start (mark.number + 1)

-- one of the desks has this number
abbrev pub HasNumber : ℕ → List Mark → Type 0
HasNumber k [] = ⊥
HasNumber k (mark ∷ marks) = (k ≡ mark.number) ⊎ HasNumber k marks

-- the pass stands for the desk with this number
abbrev pub StandsFor : Known → ℕ → Type 0
StandsFor v k = (k ≡ v.mark.number) ⊎ HasNumber k v.ended

-- at most one entry was added, which carries that number
abbrev pub AddsOne : ℕ → List Entry → List Entry → Type 0
AddsOne number old new = (new ≡ old) ⊎ ((entry : Entry) × (entry.desk ≡ number) × (new ≡ old ++ entry ∷ []))

-- each entry after those that were handed over carries a number below `next`
abbrev pub IsNumbered : ℕ → List Entry → List Entry → Type 0
IsNumbered next handed history =
    (added : List Entry) × (history ≡ handed ++ added) × All (λ (entry : Entry). entry.desk < next) added

-- what a desk has seen is the beginning of the history, with all of the desk's own entries
pub record IsFront (mark : Mark) (history : List Entry) : Type 0 where
  pub begins : Extends mark.start.handed mark.seen
  pub grows : Extends mark.seen history
  pub own : entries_of mark.number history ≡ entries_of mark.number mark.seen

-- the shared manager at one moment: what its desks have in common, its history, the number of the next desk, where the
-- manager is (0 in the queue, else one more than the number of the pass with which it is out), and the pass that stands
-- for each number
pub record Moment : Type 0 where
  pub start : Start
  pub now : List Entry
  pub next : ℕ
  pub taker : ℕ
  pub seat : ℕ → ℕ

-- the desk is one of those that share, and the pass stands for it
pub record Belongs (moment : Moment) (port : ℕ) (mark : Mark) : Type 0 where
  pub same : mark.start ≡ moment.start
  pub front : IsFront mark moment.now
  pub made : mark.number < moment.next
  pub seated : moment.seat mark.number ≡ port

-- what a pass knows fits the moment
pub record Fits (moment : Moment) (port : ℕ) (v : Known) : Type 0 where
  pub begun : v.fresh ≡ false
  pub own : v.live ≡ true → Belongs moment port v.mark
  pub others : v.live ≡ true → All (Belongs moment port) v.ended
  pub out : v.holds ≡ true → moment.taker ≡ suc port
  pub whole : v.holds ≡ true → v.mark.seen ≡ moment.now
  pub last : v.makes ≡ true → (v.live ≡ true) × (v.mark.number + 1 ≡ moment.next)

module _ {K : Type 0} where
  -- the manager lies in the queue, with the history of the moment, or it is out
  abbrev pub Lies : List (Baton K) → Moment → Type 0
  Lies [] moment = 0 < moment.taker
  Lies (b ∷ []) moment =
      (moment.taker ≡ 0) × (b.manager.value.origin ≡ moment.start.origin) × (b.desks ≡ moment.start.desks)
      × (b.manager.value.history ≡ moment.now)
  Lies (b ∷ c ∷ bs) moment = ⊥

-- the manager is shared
pub record IsShared {K : Type 0} (items : List (Baton K)) (views : List Known) : Type 0 where
  pub moment : Moment
  pub lies : Lies items moment
  pub numbered : IsNumbered moment.next moment.start.handed moment.now
  pub few : moment.next ≤ moment.start.desks
  pub fits : (port : ℕ) (v : Known) → get_elem? views port ≡ some v → Fits moment port v
  pub found : (port : ℕ) → moment.taker ≡ suc port →
      (v : Known) × (get_elem? views port ≡ some v) × (v.live ≡ true) × (v.holds ≡ true)

module _ {K : Type 0} where
  -- there is one manager with one history, of which each desk has seen the beginning
  abbrev pub OneManager : List (Baton K) → List Known → Type 0
  OneManager items views = ((items ≡ []) × (views ≡ fresh ∷ [])) ⊎ IsShared items views

  -- what the desks of a manager have in common as they are made
  abbrev pub start_of : Baton K → Start
  start_of b = record { origin = b.manager.value.origin; desks = b.desks; handed = b.manager.value.history }

  -- the first put begins the sharing, by the desk of number 0
  abbrev pub Begun : Known → Baton K → Known → Type 0
  Begun v b w = w ≡ idle true (new_mark (start_of b) 0) []

  -- the manager was put back, and the desk has seen its history
  abbrev pub Put : Known → Baton K → Known → Type 0
  Put v b w = w ≡ idle v.makes (with_seen v.mark b.manager.value.history) v.ended

-- the manager was taken: it is the one that the pass's desks share, and each has seen the beginning of its history
pub record Taken {K : Type 0} (v : Known) (b : Baton K) (w : Known) : Type 0 where
  pub origin : b.manager.value.origin ≡ v.mark.start.origin
  pub desks : b.desks ≡ v.mark.start.desks
  pub front : IsFront v.mark b.manager.value.history
  pub others : All (λ (mark : Mark). (mark.start ≡ v.mark.start) × IsFront mark b.manager.value.history) v.ended
  pub numbered : IsNumbered v.mark.start.desks v.mark.start.handed b.manager.value.history
  pub made : v.mark.number < v.mark.start.desks
  pub view : w ≡ holding v.makes (with_seen v.mark b.manager.value.history) v.ended

-- the desk with this number, as it is made
abbrev pub new_desk : Origin → Sharing → ℕ → DeskView
new_desk origin sharing number =
    record { origin = origin; number = number; sharing = sharing; seen = sharing.handed }

-- they are all the desks that share a manager of that origin, as they are made, in the order of their numbers
pub record AreNew (origin : Origin) (sharing : Sharing) (desks : List DeskView) : Type 0 where
  pub count : length desks ≡ sharing.desks
  pub each : (k : ℕ) (other : DeskView) → k < length desks → slice_index_or desks k other ≡ new_desk origin sharing k

-- they are all the desks of that sharing, in the order of their numbers
pub record AreAll (sharing : Sharing) (desks : List DeskView) : Type 0 where
  pub some : 1 ≤ sharing.desks
  pub count : length desks ≡ sharing.desks
  pub each : (k : ℕ) (other : DeskView) → k < length desks →
      ((slice_index_or desks k other).number ≡ k) × ((slice_index_or desks k other).sharing ≡ sharing)

-- the manager is the one that the desk shared: it has the desk's origin, the desk saw the beginning of its history with
-- all the desk's entries and no others of its number, and each entry after those that were handed over is some desk's
pub record IsClosed {K : Type 0} (desk : DeskView) (manager : Managed K) : Type 0 where
  pub origin : manager.origin ≡ desk.origin
  pub begins : Extends desk.sharing.handed desk.seen
  pub grows : Extends desk.seen manager.history
  pub own : entries_of desk.number manager.history ≡ entries_of desk.number desk.seen
  pub others : IsNumbered desk.sharing.desks desk.sharing.handed manager.history
