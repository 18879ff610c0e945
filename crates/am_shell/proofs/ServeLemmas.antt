-- What a session is, on the only desk of a manager, and what it leaves.
use Rattle.std.proofs.Common.{◌≡◌, ℕ, List, [], Option, Some, Result, Ok, Err, IsTrue, refl, sym, ap, ◌∙◌, subst}
use Rattle.std.specs.Prelude.{All}
use Rattle.am_types.specs.declared.device.Device.{Device}
use Rattle.am_types.specs.declared.history.Entry.{Entry}
use Rattle.am_keeper.specs.declared.rows.Rows.{Rows}
use Rattle.am_model.specs.Sound.{IsSound}
use Rattle.am_history.specs.History.{replay}
use Rattle.am_history.specs.Desks.{DeskView, Origin, opening_of}
use Rattle.am_laws_kept.specs.Found.{OpensAs}
use Rattle.am_laws_kept.specs.Laws.{KeptIsFound}
use Rattle.am_http.specs.declared.end.End.{End}
use Rattle.am_http.specs.Links.{Streams, link_of}
use Rattle.am_machine.specs.Managed as machine
use Rattle.am_words.specs.declared.command.StepWords.{StepWords}
use Rattle.am_words.specs.declared.command.SessionWords.{SessionWords}
use Rattle.am_shell.specs.Clocks.{ServesOn}
use Rattle.am_shell.specs.Kept.{IsOrigin, IsUnchanged, Leaves}
use Rattle.am_console.specs.declared.setback.Setback.TheVariants as setbacks
use Rattle.am_console.specs.Devices.{Describes}
use Rattle.am_shell.specs.declared.undone.Undone.{Undone}
use Rattle.am_shell.specs.declared.undone.Undone.TheVariants as undone
use Rattle.am_shell.specs.Sessions.{sole_desk, Happens, Serves, ServesOr, Works}
use Rattle.am_shell.specs.World.{StoreView, World, streams_in}
use Rattle.am_workers.specs.Serving.{IsFormed}
use Rattle.am_workers.proofs.FormedLemmas.{all_formed}
use Rattle.am_shell.proofs.StoreLemmas.{leaves_asked}

-- the only desk of a manager
abbrev pub desk_of : {K : Type 0} → machine.Served K → DeskView
desk_of made = record {
  origin = made.managed.origin;
  number = 0;
  sharing = record { id = []; desks = 1; handed = made.handed };
  seen = made.managed.history;
}

-- one that is made of a manager that just began
first_desk : {K : Type 0} (made : machine.Served K) (manager : machine.Managed K)
    → made ≡ record { managed = manager; handed = manager.history } → manager.history ≡ [] → desk_of made
    ≡ sole_desk manager.origin []
first_desk {K} made manager is fresh =
    ap desk_of is
    ∙ ap (λ (seen : List Entry). record {
      origin = manager.origin;
      number = 0;
      sharing = record
          { id = []; desks = 1; handed = seen };
      seen = seen;
    }) fresh

-- a connection over that desk is the session of the manager
abbrev serves : (origin : Origin) (asked : Option StepWords) (before after : Streams) (first desk : DeskView)
    (end : End)
    → first ≡ sole_desk origin [] → ServesOn asked end (link_of first before) (link_of desk after)
    → Serves origin asked before after end
serves origin asked before after first desk end is went =
    let on : ServesOn asked end (link_of (sole_desk origin []) before) (link_of desk after) =
    subst (λ (d : DeskView). ServesOn asked end (link_of d before) (link_of desk after)) is went in
    record {
      desk = desk;
      served = on.served;
      told = on.told;
      went = on.went;
      legal = on.went.same.desk.legal tt;
      calls = on.went.session.answers.alone refl;
      own = on.went.session.answers.own ∙ sym (on.went.session.answers.alone refl);
      clock = on.clock;
    }

-- the session's calls are formed
formed : (origin : Origin) (asked : Option StepWords) (before after : Streams) (end : End)
    (s : Serves origin asked before after end)
    → All IsFormed s.desk.seen
formed origin asked before after end s =
    subst (λ (entries : List Entry). All IsFormed entries) (sym s.calls)
    (all_formed (opening_of origin) 0 s.desk.seen s.went.session.exchanges s.went.session.answers.answers)

-- with the rows that the session has kept the device opens as the session left it
pub found : (origin : Origin) (device : Device) (place : Option (List ℕ)) (history : List Entry) (old new : StoreView)
    → KeptIsFound → IsSound device
    → IsOrigin origin device place old → Leaves origin place history old new → All IsFormed history → IsTrue old.tells
    → (at : List ℕ) → place ≡ Some at → OpensAs device (new.rows at) (replay (opening_of origin) history)
found origin device place history old new law sound begins left forms tells at is =
    subst (λ (rows : Rows). OpensAs device rows (replay (opening_of origin) history)) (sym (left.kept tells at is))
    (law device origin.rows (opening_of origin) history sound begins.in_order begins.opens forms)

-- the work of a session
pub works : {K : Type 0} (asked : SessionWords) (device : Device) (before after : World) (now : StoreView)
    (end : End)
    (place : Option (List ℕ)) (manager out : machine.Managed K) (made last : machine.Served K) → KeptIsFound
    → IsSound device → place ≡ asked.store
    → IsOrigin manager.origin device place before.store → manager.history ≡ [] → IsUnchanged before.store now
    → made ≡ record { managed = manager; handed = manager.history }
    → ServesOn asked.clock end (link_of (desk_of made) (streams_in before)) (link_of (desk_of last) (streams_in after))
    → out ≡ last.managed → Leaves out.origin out.origin.place out.history now after.store
    → Works asked device before after end
works {K} asked device before after now end place manager out made last law sound asks begun fresh same is went handed
    left =
    let begins : IsOrigin manager.origin device asked.store before.store =
    subst (λ (p : Option (List ℕ)). IsOrigin manager.origin device p before.store) asks begun in
    let session : Serves manager.origin asked.clock (streams_in before) (streams_in after) end =
    serves manager.origin asked.clock (streams_in before) (streams_in after) (desk_of made) (desk_of last) end
    (first_desk made manager is fresh) went in
    let one : last.managed.origin ≡ manager.origin = session.went.same.desk.desk.origin in
    let kept : Leaves manager.origin asked.store last.managed.history before.store after.store =
    leaves_asked manager.origin asked.store last.managed.history before.store now after.store same begins.at_place
    (subst (λ (o : Origin). Leaves o o.place last.managed.history now after.store) one
    (subst (λ (m : machine.Managed K). Leaves m.origin m.origin.place m.history now after.store) handed left)) in
    record {
      origin = manager.origin;
      begins = begins;
      session = session;
      store = kept;
      found = found manager.origin device asked.store last.managed.history before.store after.store law sound begins
          kept
          (formed manager.origin asked.clock (streams_in before) (streams_in after) end session);
    }

-- the store has attached the place of the keeper that comes back
pub attached_back : {K : Type 0} (old now : StoreView) (place : Option (List ℕ)) (Attached : List ℕ → Type 0)
    (manager out : machine.Managed K)
    (made last : machine.Served K) → (IsTrue old.tells → (at : List ℕ) → place ≡ Some at → Attached at)
    → IsUnchanged old now
    → manager.origin.place ≡ place → made ≡ record { managed = manager; handed = manager.history }
    → last.managed.origin ≡ made.managed.origin → out ≡ last.managed
    → IsTrue now.tells → (at : List ℕ) → out.origin.place ≡ Some at → Attached at
attached_back {K} old now place Attached manager out made last attached same at_place is one handed tells at stands =
    let told : IsTrue old.tells = sym same.tells ∙ tells in
    let back : out.origin.place ≡ manager.origin.place =
    ap (λ (m : machine.Managed K). m.origin.place) handed ∙ (ap (λ (o : Origin). o.place) one
    ∙ ap (λ (s : machine.Served K). s.managed.origin.place) is) in
    attached told at (sym at_place ∙ (sym back ∙ stands))

-- the session of the device that the file describes is that of the file
pub serves_file : (o : Result End Undone) (asked : SessionWords) (device : Device) (before after : World)
    → Describes before.files.files asked.device (Ok device) → ServesOr o asked device before after
    → Happens o asked before after
serves_file (Ok end) asked device before after file s = record { device = device; file = file; works = s }
serves_file (Err undone.StoreFault) asked device before after file s =
    (record { device = device; file = file; risen = s.0 }, s.1)
serves_file (Err (undone.RowsRefused line)) asked device before after file s =
    (record { device = device; file = file; refused = s.0 }, s.1)
serves_file (Err (undone.Setback setbacks.NoMemory)) asked device before after file s = (tt, s.1)
serves_file (Err (undone.Setback setback)) asked device before after file s = absurd s.0
serves_file (Err why) asked device before after file s = absurd s.0
