-- What a serving is, and how it is told.
use Rattle.std.proofs.Common.{◌≡◌, ℕ, List, [], ◌++◌, length, Option, Result, Ok, Err, refl, sym, ap, ◌∙◌, subst, arith, append_assoc, length-append}
use Rattle.std.specs.Prelude.{All}
use Rattle.am_types.specs.declared.device.Device.{Device}
use Rattle.am_types.specs.declared.history.Entry.{Entry}
use Rattle.am_model.specs.Sound.{IsSound}
use Rattle.std.specs.Io.KnownBytes.{Appends}
use Rattle.am_outside.specs.declared.failure.Failed.{Failed}
use Rattle.am_outside.specs.Memory.{one_more}
use Rattle.am_network.specs.Links.{listening_at}
use Rattle.am_history.specs.Desks.{Origin}
use Rattle.am_laws_kept.specs.Laws.{KeptIsFound}
use Rattle.am_machine.specs.Managed as machine
use Rattle.am_workers.specs.Serving.{Ended, IsFormed, NetworkView, ServesAll}
use Rattle.am_shell.specs.declared.serving.Done.{Done}
use Rattle.am_words.specs.declared.command.ServingWords.{ServingWords}
use Rattle.am_http.specs.Links.{Moments}
use Rattle.am_http.specs.Sending.{Sends, WritesPart}
use Rattle.am_http.proofs.SendLemmas.{appends_trans, part_more}
use Rattle.am_shell.specs.Clocks.{serving_moments}
use Rattle.am_shell.specs.Kept.{IsOrigin, IsUnchanged, Leaves}
use Rattle.am_shell.specs.World.{StoreView, World, voices_in}
use Rattle.am_console.specs.declared.setback.Setback.TheVariants as setbacks
use Rattle.am_shell.specs.declared.undone.Undone.TheVariants as undone
use Rattle.am_shell.specs.Servings.{Happens, IsLeft, RunsServing, TellsServing, Works, listened, unheard}
use Rattle.am_shell.specs.declared.undone.Undone.{Undone}
use Rattle.am_workers.proofs.ServingLemmas.{serves_timed}
use Rattle.am_shell.proofs.ServeLemmas.{found}
use Rattle.am_shell.proofs.StoreLemmas.{leaves_asked}

-- the network as it listened
pub listened_so : (before mid after : NetworkView) (port gates : ℕ) → mid.listening
    ≡ listening_at before.listening port gates → mid.listens ≡ one_more before.listens
    → mid.gate_faults ≡ before.gate_faults → after.faults ≡ mid.faults → mid ≡ listened before port gates after.faults
listened_so before mid after port gates told listens gate_faults faults =
    ap (λ l. record { listening = l; listens = mid.listens; faults = mid.faults; gate_faults = mid.gate_faults }) told
    ∙ ap (λ n. record {
      listening = listening_at before.listening port gates;
      listens = n;
      faults = mid.faults;
      gate_faults = mid.gate_faults;
    }) listens
    ∙ ap (λ n. record {
      listening = listening_at before.listening port gates;
      listens = one_more before.listens;
      faults
          = n;
      gate_faults = mid.gate_faults;
    }) (sym faults)
    ∙ ap (λ n. record {
      listening = listening_at before.listening port gates;
      listens = one_more before.listens;
      faults
          = after.faults;
      gate_faults = n;
    }) gate_faults

-- and as it didn't
pub unheard_so : (before after : NetworkView) → after.listening ≡ before.listening → after.listens
    ≡ one_more before.listens → after.gate_faults ≡ before.gate_faults
    → after ≡ unheard before after.faults
unheard_so before after told listens gate_faults =
    ap (λ l. record { listening = l; listens = after.listens; faults = after.faults; gate_faults = after.gate_faults })
    told
    ∙ ap (λ n. record {
      listening = before.listening;
      listens = n;
      faults = after.faults;
      gate_faults =
          after.gate_faults;
    }) listens
    ∙ ap (λ n. record {
      listening = before.listening;
      listens = one_more before.listens;
      faults = after.faults;
      gate_faults = n;
    }) gate_faults

-- a serving that ended
pub works_serving : {K : Type 0} (asked : ServingWords) (device : Device) (before after : World) (now : StoreView)
    (mid : NetworkView) (done : Done) (place : Option (List ℕ))
    (count : ℕ) (clock : Moments) (manager out : machine.Managed K) → KeptIsFound → IsSound device → place ≡ asked.store
    → count ≡ asked.workers
    → IsOrigin manager.origin device place before.store → manager.history ≡ [] → IsUnchanged before.store now
    → mid.listening ≡ listening_at before.network.listening asked.port asked.workers → mid.listens
    ≡ one_more before.network.listens
    → mid.gate_faults ≡ before.network.gate_faults → ((calls : ℕ) → clock calls
    ≡ serving_moments asked.at before.clock calls)
    → ServesAll asked.connections count (record { origin = manager.origin; history = manager.history; clock = clock })
    (record { history = out.history; totals = done.totals }) mid after.network
    → out.origin ≡ manager.origin → Leaves out.origin out.origin.place out.history now after.store → done.history
    ≡ length out.history → Works asked device before after done
works_serving {K} asked device before after now mid done place count clock manager out law sound asks many begun fresh
    same told listens gate_faults timed served one left counted =
    let begins : IsOrigin manager.origin device asked.store before.store =
    subst (λ (p : Option (List ℕ)). IsOrigin manager.origin device p before.store) asks begun in
    let ended : Ended = record { history = out.history; totals = done.totals } in
    let moments = serving_moments asked.at before.clock in
    let by : ServesAll asked.connections count (record {
      origin = manager.origin;
      history = manager.history;
      clock =
          moments;
    }) ended mid after.network =
    serves_timed asked.connections count (record { origin = manager.origin; history = manager.history; clock = clock })
    moments ended mid after.network timed served in
    let whole : ServesAll asked.connections asked.workers (record {
      origin = manager.origin;
      history = [];
      clock =
          moments;
    }) ended mid after.network =
    subst (λ (n : ℕ). ServesAll asked.connections n (record { origin = manager.origin; history = []; clock = moments })
    ended mid after.network) many
    (subst (λ (h : List Entry). ServesAll asked.connections count (record
    { origin = manager.origin; history = h; clock = moments }) ended mid after.network) fresh by) in
    let there : ServesAll asked.connections asked.workers (record {
      origin = manager.origin;
      history = [];
      clock =
          moments;
    }) ended
    (listened before.network asked.port asked.workers after.network.faults) after.network =
    subst (λ (n : NetworkView). ServesAll asked.connections asked.workers
    (record { origin = manager.origin; history = []; clock = moments }) ended n after.network)
    (listened_so before.network mid after.network asked.port asked.workers told listens gate_faults whole.faults) whole
    in
    let kept : Leaves manager.origin asked.store out.history before.store after.store =
    leaves_asked manager.origin asked.store out.history before.store now after.store same begins.at_place
    (subst (λ (o : Origin). Leaves o o.place out.history now after.store) one left) in
    record {
      origin = manager.origin;
      ended = ended;
      begins = begins;
      serves = there;
      store = kept;
      found = found manager.origin device asked.store out.history before.store after.store law sound begins kept
          (subst (All IsFormed) (sym whole.numbered.1) whole.formed);
      length = counted;
      totals = refl;
    }

-- a keeper that comes back without a call leaves the rows
pub left_again : {K : Type 0} (asked : ServingWords) (device : Device) (before now after : StoreView)
    (place : Option (List ℕ)) (manager : machine.Managed K)
    → place ≡ asked.store → IsOrigin manager.origin device place before → manager.history ≡ [] → IsUnchanged before now
    → Leaves manager.origin manager.origin.place manager.history now after → IsLeft asked device before after
left_again {K} asked device before now after place manager asks begun fresh same left =
    let begins : IsOrigin manager.origin device asked.store before =
    subst (λ (p : Option (List ℕ)). IsOrigin manager.origin device p before) asks begun in
    record {
      origin = manager.origin;
      begins = begins;
      store = leaves_asked manager.origin asked.store [] before now after same begins.at_place
          (subst (λ (h : List Entry). Leaves manager.origin manager.origin.place h now after) fresh left);
    }

-- a part of what comes first is a part of the whole
pub cut : (old new : Option (List ℕ)) (xs ys : List ℕ) → WritesPart old new xs → WritesPart old new (xs ++ ys)
cut old new xs ys part = (
  part.0,
  part.1 ++ ys,
  ap (λ l. l ++ ys) part.2 ∙ append_assoc part.0 part.1 ys,
  (let some_left = part.3 in omega (arith, some_left, length-append part.1 ys)),
  part.4,
)

-- a piece that was sent behind what came first whole
pub sends_behind : (old mid new : Option (List ℕ)) (xs ys : List ℕ) (result : Result (Unit {0}) Failed)
    → Appends old mid xs → Sends mid new ys result → Sends old new (xs ++ ys) result
sends_behind old mid new xs ys (Ok done) first sent = appends_trans old mid new xs ys first sent
sends_behind old mid new xs ys (Err e) first sent = part_more old mid new xs ys first sent

-- a serving that went so and is told so
pub runs : (work : Result Done Undone) (asked : ServingWords) (before after : World) (status : ℕ)
    → Happens work asked before after → TellsServing work (voices_in before) (voices_in after) status
    → RunsServing asked before after status
runs work asked before after status happened told = record { work = work; happened = happened; told = told }
