-- What all workers did together, over the history of the manager that they shared.
use Rattle.std.proofs.Common.{◌≡◌, ℕ, zero, suc, ◌+◌, ◌≤◌, ◌<◌, Bool, true, false, IsTrue, ◌||◌, List, [], ◌∷◌, ◌++◌, length, drop, map, min, Option, Some, None, refl, sym, ap, ◌∙◌, subst, inl, inr, arith, length-append, slice_get}
use Rattle.std.specs.Prelude.{All, IfSome, ◌==◌, cond, sum_by, slice_index_or, unwrap_or}
use Rattle.std.specs.List.{AllByRecursion, AllZip, list_any}
use Rattle.std.proofs.lemmas.List.{get_or-map, length-map}
use Rattle.std.proofs.lemmas.List.Sums.{sum_by-cons}
use Rattle.std.proofs.lemmas.Option.{slice_get-get_or}
use Rattle.std.proofs.lemmas.List.Elements.{All-nil, All-cons, All-head, All-tail}
use Rattle.am_types.specs.declared.history.Entry.{Entry}
use Rattle.am_outside.specs.Counts.{HasRisen}
use Rattle.am_network.specs.Links.{AreUntouched, GateView, Handed, HandsOn, IsNewGate, LinkView, Links, Listening, raised_by, released}
use Rattle.am_history.specs.State.{State}
use Rattle.am_history.specs.Desks.{DeskView, IsSameDesk, Origin, Sharing, opening_of, start_of}
use Rattle.am_history.specs.History.{Extends, IsLegal, entries_of}
use Rattle.am_baton.specs.Shared.{IsNumbered, new_desk}
use Rattle.am_workers.specs.declared.working.Worked.{Worked}
use Rattle.am_http.specs.Exchanges.{Exchange}
use Rattle.am_http.specs.Links.{Moments}
use Rattle.am_workers.specs.Work.{AreOfGate, EndsSo, IsWorked, Service, WorkerView, Works, ended_in, exchanges_of, faults_after, given_back, moments_of_all, new_in}
use Rattle.am_workers.specs.Serving.{AreAllLinks, AreServed, Begun, Ended, Gatework, IsFormed, IsGateServed, MayReleaseAll, NetworkView, ServesAll, all_released, faults_raised, gates_of}
use Rattle.am_workers.proofs.ClockLemmas.{gives_as}
use Rattle.am_workers.proofs.FormedLemmas.{all_formed}
use Rattle.am_workers.proofs.WorkLemmas.{drop_behind, extends_length, faults_stay, worked_stays}

-- the bytes that come over a gate's links
abbrev sent_of : Option Links → Option (List (List ℕ))
sent_of None = None
sent_of (Some links) = Some links.sent

-- they are the same once a link was handed out
sent_out : (old out : Option Links) (first : Handed) → HandsOn old out first → sent_of out ≡ sent_of old
sent_out None out first handed = ap sent_of handed
sent_out (Some links) out first (inl new) = ap sent_of new.0.3
sent_out (Some links) out first (inr again) = ap sent_of again.4

-- and is back
sent_back : (out : Option Links) (first : Handed) (last : LinkView) (exchanges : List Exchange) (parked refused : Bool)
    → sent_of (given_back out
    (record { first = first; last = last; exchanges = exchanges; parked = parked; refused = refused })) ≡ sent_of out
sent_back None first last exchanges true refused = refl
sent_back None first last exchanges false refused = refl
sent_back (Some links) first last exchanges true refused = refl
sent_back (Some links) first last exchanges false refused = refl

same_sent : (old new : Option Links) (services : List Service) → AreOfGate old new services → sent_of new ≡ sent_of old
same_sent old new [] its = ap sent_of its
same_sent old new (s ∷ ss) its =
    same_sent (given_back its.0 s) new ss its.2
    ∙ (sent_back its.0 s.first s.last s.exchanges s.parked s.refused ∙ sent_out old its.0 s.first its.1)

-- a gate that was new has handed out these links alone
all_links : (old new : Links) (services : List Service) → AreUntouched old
    → AreOfGate (Some old) (Some new) services → AreAllLinks new services
all_links old new services untouched its =
    let sent : new.sent ≡ old.sent = ap (λ (o : Option (List (List ℕ))). unwrap_or o new.sent)
    (same_sent (Some old) (Some new) services its) in
    let first : Links = record { sent = new.sent; handed = 0; ended = []; parked = []; failed_at = None } in
    let same : old ≡ first =
    ap (λ s. record {
      sent = s;
      handed = old.handed;
      ended = old.ended;
      parked = old.parked;
      failed_at =
          old.failed_at;
    }) (sym sent)
    ∙ ap (λ n. record {
      sent = new.sent;
      handed = n;
      ended = old.ended;
      parked = old.parked;
      failed_at = old.failed_at;
    }) untouched.0
    ∙ ap (λ ls. record { sent = new.sent; handed = 0; ended = ls; parked = old.parked; failed_at = old.failed_at })
    untouched.1
    ∙ ap (λ ps. record { sent = new.sent; handed = 0; ended = []; parked = ps; failed_at = old.failed_at }) untouched.2
    ∙ ap (λ at. record { sent = new.sent; handed = 0; ended = []; parked = []; failed_at = at }) untouched.3 in
    subst (λ (l : Links). AreOfGate (Some l) (Some new) services) same its

whole_gate : (old new : Option Links) (services : List Service) → IfSome old AreUntouched → AreOfGate old new services
    → IfSome new (λ links. AreAllLinks links services)
whole_gate None None services is its = tt
whole_gate None (Some new) services is its = absurd (let e = same_sent None (Some new) services its in cc)
whole_gate (Some old) None services is its = tt
whole_gate (Some old) (Some new) services is its = all_links old new services is its

-- a worker that failed raised its gate's count
risen_by : (failed : Bool) (most : Option ℕ) (faults count : ℕ) (services : List Service) (links : Option Links)
    (gate : GateView) → EndsSo failed most (faults_after faults services) links gate count → failed ≡ true
    → HasRisen faults gate.faults
risen_by true most faults count services links gate ends is =
    let e = ends.0 in let more = faults_stay faults services in omega (arith, e, more)
risen_by false most faults count services links gate ends is = absurd (let x = is in cc)

-- what a worker begins with: the desk that was made with that number and waits, a new gate, and a clock that tells what
-- this one tells
abbrev pub BeginsAt : Origin → Sharing → Moments → ℕ → WorkerView → Type 0
BeginsAt origin sharing clock k worker =
    (worker.desk ≡ new_desk origin sharing k) × IsNewGate worker.gate × ((calls : ℕ) → worker.clock calls ≡ clock calls)
    × IsTrue worker.waits

-- the worker of a desk that was made with that number, over the history of the whole
pub gate_served : (most : Option ℕ) (origin : Origin) (sharing : Sharing) (clock : Moments) (k : ℕ) (ended : Ended)
    (old new : WorkerView) (worked : Worked)
    → BeginsAt origin sharing clock k old → (w : Works most old new worked)
    → Extends new.desk.seen ended.history → entries_of new.desk.number ended.history
    ≡ entries_of new.desk.number new.desk.seen
    → IsGateServed most (record { origin = origin; history = sharing.handed; clock = clock }) ended k
    (record { gate = new.gate; links = w.links; services = w.services; failed = worked.failed })
gate_served most origin sharing clock k ended old new worked begins w grows own =
    let made = begins.0 in
    let is_new = begins.1 in
    let P : DeskView → Type 0 = λ (d : DeskView). IsWorked (start_of d) (length d.seen) d.number new.desk.seen
    w.services in
    let there : IsWorked (opening_of origin) (length sharing.handed) k new.desk.seen w.services = subst P made
    w.has.worked in
    let number : new.desk.number ≡ k = w.has.desk.desk.number ∙ ap (λ (d : DeskView). d.number) made in
    let grown = w.has.grows in
    let seen : old.desk.seen ≡ sharing.handed = ap (λ (d : DeskView). d.seen) made in
    let floored : length sharing.handed ≤ length new.desk.seen =
    extends_length sharing.handed new.desk.seen (subst (λ (h : List Entry). Extends h new.desk.seen) seen grown) in
    record {
      worked = worked_stays (opening_of origin) (length sharing.handed) k new.desk.seen ended.history w.services floored
          grows
          (subst (λ n. entries_of n ended.history ≡ entries_of n new.desk.seen) number own) there;
      in_order = w.has.in_order begins.3;
      links = whole_gate old.gate.links w.links w.services is_new.1 w.has.links;
      few = w.few;
      told = new.clock;
      moments = gives_as clock old.clock (moments_of_all w.services) new.clock begins.2 w.has.moments;
      ends = subst (λ n. EndsSo worked.failed most (faults_after n w.services) w.links new.gate (new_in w.services))
          is_new.0 w.ends;
    }

-- a clock that tells the same will do
pub serves_timed : (most : Option ℕ) (count : ℕ) (begun : Begun) (clock : Moments) (ended : Ended)
    (old new : NetworkView) → ((calls : ℕ) → begun.clock calls ≡ clock calls)
    → ServesAll most count begun ended old new → ServesAll most count (record begun { clock = clock }) ended old new
serves_timed most count begun clock ended old new same serves =
    subst (λ (c : Moments). ServesAll most count (record begun { clock = c }) ended old new) (λ i calls. same calls i)
    serves

-- what the entries of each number are, all are
pub formed_all : (n : ℕ) (entries : List Entry) → All (λ (entry : Entry). entry.desk < n) entries
    → ((k : ℕ) → k < n → All IsFormed (entries_of k entries)) → All IsFormed entries
formed_all n [] below each = All-nil IsFormed
formed_all n (x ∷ xs) below each =
    All-cons IsFormed x xs
    (All-head IsFormed x (entries_of x.desk xs) (subst (All IsFormed) (own_first x xs)
    (each x.desk (All-head (λ (entry : Entry). entry.desk < n) x xs below))))
    (formed_all n xs (All-tail (λ (entry : Entry). entry.desk < n) x xs below)
    (λ k within. others k x xs (each k within)))
  where
    own_first : (x : Entry) (xs : List Entry) → entries_of x.desk (x ∷ xs) ≡ x ∷ entries_of x.desk xs
    own_first x xs = ap (λ (b : Bool). cond b (x ∷ entries_of x.desk xs) (entries_of x.desk xs))
        (let e : (x.desk == x.desk) ≡ true = grind (arith) in e)

    by : (b : Bool) (k : ℕ) (x : Entry) (xs : List Entry) → (x.desk == k) ≡ b → All IsFormed (entries_of k (x ∷ xs))
        → All IsFormed (entries_of k xs)
    by true k x xs e all = All-tail IsFormed x (entries_of k xs) (subst (All IsFormed)
        (ap (λ (b : Bool). cond b (x ∷ entries_of k xs) (entries_of k xs)) e) all)
    by false k x xs e all = subst (All IsFormed) (ap (λ (b : Bool). cond b (x ∷ entries_of k xs) (entries_of k xs)) e)
        all

    others : (k : ℕ) (x : Entry) (xs : List Entry) → All IsFormed (entries_of k (x ∷ xs))
        → All IsFormed (entries_of k xs)
    others k x xs all = by (x.desk == k) k x xs refl all

-- the entries of a worker's number are formed
worker_formed : (start : State) (floor number : ℕ) (history : List Entry) (services : List Service)
    → IsWorked start floor number history services
    → All IsFormed (entries_of number (drop floor history))
worker_formed start floor number history services worked =
    subst (All IsFormed) (sym worked.own) (all_formed start number history (exchanges_of services) worked.answers)

served_at : (most : Option ℕ) (begun : Begun) (ended : Ended) (number : ℕ) (works : List Gatework)
    → AreServed most begun ended number works
    → (k : ℕ) → k < length works → (work : Gatework) × IsGateServed most begun ended (number + k) work
served_at most begun ended number [] served k within = absurd (omega arith)
served_at most begun ended number (work ∷ works) served zero within =
    (work, subst (λ n. IsGateServed most begun ended n work) (omega arith) served.0)
served_at most begun ended number (work ∷ works) served (suc k) within =
    let there = served_at most begun ended (suc number) works served.1 k (omega arith) in
    (there.0, subst (λ n. IsGateServed most begun ended n there.0) (omega arith) there.1)

-- so all entries that the workers added are formed
pub all_are_formed : (most : Option ℕ) (begun : Begun) (ended : Ended) (works : List Gatework)
    → AreServed most begun ended 0 works
    → (count : ℕ) → length works ≡ count → (numbered : IsNumbered count begun.history ended.history)
    → All IsFormed numbered.0
all_are_formed most begun ended works served count many numbered =
    let behind : drop (length begun.history) ended.history ≡ numbered.0 = drop_behind begun.history ended.history
    numbered.0 numbered.1 in
    formed_all count numbered.0 numbered.2
    (λ k within.
    let there = served_at most begun ended 0 works served k (omega (arith, many, within)) in
    subst (λ (h : List Entry). All IsFormed (entries_of k h)) behind
    (worker_formed (opening_of begun.origin) (length begun.history) k ended.history there.0.services
    (subst (λ (n : ℕ). IsWorked (opening_of begun.origin) (length begun.history) n ended.history there.0.services)
    (omega arith) there.1.worked)))

-- once one was released, the others may be
pub may_rest : (told now : Option Listening) (gate : GateView) (count : ℕ) → now ≡ released told gate
    → MayReleaseAll told (suc count) → MayReleaseAll now count
may_rest None now gate count is may =
    let P : Option Listening → Type 0 = λ (l : Option Listening). MayReleaseAll l count in
    subst P (sym is) tt
may_rest (Some before) now gate count is may =
    let P : Option Listening → Type 0 = λ (l : Option Listening). MayReleaseAll l count in
    subst P (sym is) (omega (arith, may, length-append before.released (gate ∷ [])))

-- the gates that were released, and one more
pub released_more : (told : Option Listening) (gates : List GateView) (gate : GateView)
    → all_released told (gates ++ gate ∷ []) ≡ released (all_released told gates) gate
released_more told [] gate = refl
released_more told (first ∷ gates) gate = released_more (released told first) gates gate

module _ {D G W : Type 0} (desk : W → D) (gate : W → G) where
  -- the desk and the gate of the worker at a place
  pub desk_at : (olds : List W) (desks : List D) (k : ℕ) (other : W) → map desk olds ≡ desks → k < length olds
      → desk (slice_index_or olds k other) ≡ slice_index_or desks k (desk other)
  desk_at olds desks k other is within =
      sym (get_or-map desk olds k other (desk other) within) ∙ ap (λ ds. slice_index_or ds k (desk other)) is

  pub gate_at : (P : G → Type 0) (olds : List W) (gates : List G) → map gate olds ≡ gates
      → ((k : ℕ) (g : G) → slice_get gates k ≡ Some g → P g)
      → (k : ℕ) (other : W) → k < length olds → P (gate (slice_index_or olds k other))
  gate_at P olds gates is each k other within =
      let long : k < length (map gate olds) = subst (λ n. k < n) (sym (length-map olds gate)) within in
      each k (gate (slice_index_or olds k other))
      (ap (λ gs. slice_get gs k) (sym is) ∙ (slice_get-get_or (map gate olds) k (gate other) long
      ∙ ap Some (get_or-map gate olds k other (gate other) within)))

module _ {W : Type 0} (view : W → WorkerView) (did : W → Worked) where
  -- a worker before and after its work
  abbrev pub WorksAs : Option ℕ → W → W → Type 0
  WorksAs most old new = Works most (view old) (view new) (did new)

  -- what holds at each place, holds along both lists
  pub along : (R : W → W → Type 0) (olds news : List W) → length news ≡ length olds
      → ((k : ℕ) (other : W) → k < length olds → R (slice_index_or olds k other) (slice_index_or news k other))
      → AllZip R olds news
  along R [] [] count each = tt
  along R [] (y ∷ ys) count each = absurd (omega (arith, count))
  along R (x ∷ xs) [] count each = absurd (omega (arith, count))
  along R (x ∷ xs) (y ∷ ys) count each = (
    each 0 x (omega arith),
    along R xs ys (let c = count in omega (arith, c)) (λ k other within. each (suc k) other (omega arith)),
  )

  -- what became of the gates
  abbrev pub works_of : (most : Option ℕ) (olds news : List W) → AllZip (WorksAs most) olds news → List Gatework
  works_of most [] [] all = []
  works_of most [] (y ∷ ys) all = []
  works_of most (x ∷ xs) [] all = []
  works_of most (x ∷ xs) (y ∷ ys) all = record {
    gate = (view y).gate;
    links = all.0.links;
    services = all.0.services;
    failed = (did y).failed;
  } ∷ works_of most xs ys all.1

  pub works_count : (most : Option ℕ) (olds news : List W) (all : AllZip (WorksAs most) olds news)
      → length (works_of most olds news all) ≡ length olds
  works_count most [] [] all = refl
  works_count most [] (y ∷ ys) all = absurd all
  works_count most (x ∷ xs) [] all = absurd all
  works_count most (x ∷ xs) (y ∷ ys) all = ap suc (works_count most xs ys all.1)

  pub works_gates : (most : Option ℕ) (olds news : List W) (all : AllZip (WorksAs most) olds news)
      → map (λ (w : W). (view w).gate) news ≡ gates_of (works_of most olds news all)
  works_gates most [] [] all = refl
  works_gates most [] (y ∷ ys) all = absurd all
  works_gates most (x ∷ xs) [] all = absurd all
  works_gates most (x ∷ xs) (y ∷ ys) all = ap (λ gs. (view y).gate ∷ gs) (works_gates most xs ys all.1)

  -- how many links they served together
  both_held : (a n b m : ℕ) → a ≡ min 18446744073709551615 n → min 18446744073709551615 b ≡ min 18446744073709551615 m
      → min 18446744073709551615 (a + b) ≡ min 18446744073709551615 (n + m)
  both_held a n b m first next = grind (arith, first, next)

  pub works_total : (most : Option ℕ) (olds news : List W) (all : AllZip (WorksAs most) olds news)
      → min 18446744073709551615 (sum_by (λ (w : W). (did w).served) news)
      ≡ min 18446744073709551615 (sum_by (λ (work : Gatework). ended_in work.services) (works_of most olds news all))
  works_total most [] [] all = refl
  works_total most [] (y ∷ ys) all = absurd all
  works_total most (x ∷ xs) [] all = absurd all
  works_total most (x ∷ xs) (y ∷ ys) all =
      ap (λ n. min 18446744073709551615 n) (sum_by-cons (λ (w : W). (did w).served) y ys)
      ∙ both_held (did y).served (ended_in all.0.services) (sum_by (λ (w : W). (did w).served) ys)
      (sum_by (λ (work : Gatework). ended_in work.services) (works_of most xs ys all.1)) all.0.served
      (works_total most xs ys all.1)
      ∙ ap (λ n. min 18446744073709551615 n)
      (sym (sum_by-cons (λ (work : Gatework). ended_in work.services)
      (record { gate = (view y).gate; links = all.0.links; services = all.0.services; failed = (did y).failed })
      (works_of most xs ys all.1)))

  -- a count that gates raised is no lower
  not_lower : (count : ℕ) (gates : List GateView) → min count 18446744073709551615 ≤ faults_raised count gates
  not_lower count [] = omega arith
  not_lower count (gate ∷ gates) = let rest = not_lower (raised_by gate.faults count) gates in grind (arith, rest)

  raised_once : (old new count : ℕ) → HasRisen old new → min (count + 1) 18446744073709551615 ≤ min
      (raised_by new count) 18446744073709551615
  raised_once old new count risen = grind (arith, risen)

  -- if one of the gates failed, the count rose
  pub works_raise : (most : Option ℕ) (olds news : List W) (count : ℕ) → AllZip (WorksAs most) olds news
      → list_any (λ (w : W). (did w).failed) news ≡ true → HasRisen count
      (faults_raised count (map (λ (w : W). (view w).gate) news))
  works_raise most [] [] count all failed = absurd (let e = failed in cc)
  works_raise most [] (y ∷ ys) count all failed = absurd all
  works_raise most (x ∷ xs) [] count all failed = absurd all
  works_raise most (x ∷ xs) (y ∷ ys) count all failed =
      by (did y).failed refl failed (λ none. works_raise most xs ys (raised_by (view y).gate.faults count) all.1 none)
    where
      gates : List GateView
      gates = map (λ (w : W). (view w).gate) ys

      by : (b : Bool) → (did y).failed ≡ b → ((did y).failed || list_any (λ (w : W). (did w).failed) ys) ≡ true
          → (list_any (λ (w : W). (did w).failed) ys ≡ true
          → HasRisen (raised_by (view y).gate.faults count) (faults_raised (raised_by (view y).gate.faults count)
          gates))
          → HasRisen count (faults_raised (raised_by (view y).gate.faults count) gates)
      by true is any later =
          let once = raised_once (view x).gate.faults (view y).gate.faults count
          (risen_by (did y).failed most (view x).gate.faults (new_in all.0.services) all.0.services all.0.links
          (view y).gate all.0.ends is) in
          let rest = not_lower (raised_by (view y).gate.faults count) gates in
          omega (arith, once, rest)
      by false is any later =
          let risen = later (sym (ap (λ (b : Bool). b || list_any (λ (w : W). (did w).failed) ys) is) ∙ any) in
          grind (arith, risen)

  -- a gate failed if a worker says so
  pub any_failed : (most : Option ℕ) (olds news : List W) (all : AllZip (WorksAs most) olds news)
      → list_any (λ (w : W). (did w).failed) news ≡ list_any (λ (work : Gatework). work.failed)
      (works_of most olds news all)
  any_failed most [] [] all = refl
  any_failed most [] (y ∷ ys) all = absurd all
  any_failed most (x ∷ xs) [] all = absurd all
  any_failed most (x ∷ xs) (y ∷ ys) all = ap (λ b. (did y).failed || b) (any_failed most xs ys all.1)

  -- what the workers begin with, of which the first has that number
  abbrev pub BeginFrom : Origin → Sharing → Moments → ℕ → List W → Type 0
  BeginFrom origin sharing clock k [] = Unit {0}
  BeginFrom origin sharing clock k (w ∷ ws) = BeginsAt origin sharing clock k (view w)
      × BeginFrom origin sharing clock (suc k) ws

  pub begin_from : (origin : Origin) (sharing : Sharing) (clock : Moments) (k : ℕ) (olds : List W)
      → ((i : ℕ) (other : W) → i < length olds → BeginsAt origin sharing clock (k + i)
      (view (slice_index_or olds i other))) → BeginFrom origin sharing clock k olds
  begin_from origin sharing clock k [] each = tt
  begin_from origin sharing clock k (x ∷ xs) each = (
    subst (λ n. BeginsAt origin sharing clock n (view x)) (omega arith) (each 0 x (omega arith)),
    begin_from origin sharing clock (suc k) xs
        (λ i other within. subst (λ n. BeginsAt origin sharing clock n (view (slice_index_or xs i other))) (omega arith)
        (each (suc i) other (omega arith))),
  )

  -- what closing tells of a worker's desk
  abbrev pub Closes : List Entry → W → Type 0
  Closes history w = Extends (view w).desk.seen history × (entries_of (view w).desk.number history
      ≡ entries_of (view w).desk.number (view w).desk.seen)

  -- so all gates were served over the history of the whole
  pub works_served : (most : Option ℕ) (origin : Origin) (sharing : Sharing) (clock : Moments) (ended : Ended) (k : ℕ)
      (olds news : List W) (all : AllZip (WorksAs most) olds news)
      → BeginFrom origin sharing clock k olds → AllByRecursion (Closes ended.history) news
      → AreServed most (record { origin = origin; history = sharing.handed; clock = clock }) ended k
      (works_of most olds news all)
  works_served most origin sharing clock ended k [] [] all begins closes = tt
  works_served most origin sharing clock ended k [] (y ∷ ys) all begins closes = absurd all
  works_served most origin sharing clock ended k (x ∷ xs) [] all begins closes = absurd all
  works_served most origin sharing clock ended k (x ∷ xs) (y ∷ ys) all begins closes = (
    gate_served most origin sharing clock k ended (view x) (view y) (did y) begins.0 all.0 closes.0.0 closes.0.1,
    works_served most origin sharing clock ended (suc k) xs ys all.1 begins.1 closes.1,
  )

  -- a worker's desk stays the same desk
  pub same_desks : (most : Option ℕ) (olds news : List W) → AllZip (WorksAs most) olds news → (k : ℕ) (other : DeskView)
      → k < length (map (λ (w : W). (view w).desk) olds)
      → IsSameDesk (slice_index_or (map (λ (w : W). (view w).desk) olds) k other)
      (slice_index_or (map (λ (w : W). (view w).desk) news) k other)
  same_desks most [] [] all k other within = absurd (omega arith)
  same_desks most [] (y ∷ ys) all k other within = absurd all
  same_desks most (x ∷ xs) [] all k other within = absurd all
  same_desks most (x ∷ xs) (y ∷ ys) all zero other within = all.0.has.desk.desk
  same_desks most (x ∷ xs) (y ∷ ys) all (suc k) other within = same_desks most xs ys all.1 k other (omega arith)

  pub as_many : (most : Option ℕ) (olds news : List W) → AllZip (WorksAs most) olds news → length news ≡ length olds
  as_many most [] [] all = refl
  as_many most [] (y ∷ ys) all = absurd all
  as_many most (x ∷ xs) [] all = absurd all
  as_many most (x ∷ xs) (y ∷ ys) all = ap suc (as_many most xs ys all.1)

  -- what is told of all desks is told of each worker's
  pub of_workers : (P : DeskView → Type 0) (news : List W) → AllByRecursion P (map (λ (w : W). (view w).desk) news)
      → AllByRecursion (λ (w : W). P (view w).desk) news
  of_workers P [] all = tt
  of_workers P (y ∷ ys) all = (all.0, of_workers P ys all.1)

  -- all workers together served the manager
  pub serves_all : (most : Option ℕ) (count : ℕ) (origin : Origin) (sharing : Sharing) (clock : Moments) (ended : Ended)
      (olds news : List W) (old new : NetworkView)
      → AllZip (WorksAs most) olds news → length olds ≡ count → sharing.desks ≡ count
      → BeginFrom origin sharing clock 0 olds
      → IsLegal (opening_of origin) ended.history → IsNumbered sharing.desks sharing.handed ended.history
      → AllByRecursion (Closes ended.history) news
      → ended.totals.served ≡ min 18446744073709551615 (sum_by (λ (w : W). (did w).served) news)
      → ended.totals.failed ≡ list_any (λ (w : W). (did w).failed) news
      → new.listening ≡ all_released old.listening (map (λ (w : W). (view w).gate) news) → new.listens ≡ old.listens
      → new.faults ≡ old.faults
      → new.gate_faults ≡ faults_raised old.gate_faults (map (λ (w : W). (view w).gate) news)
      → ServesAll most count (record { origin = origin; history = sharing.handed; clock = clock }) ended old new
  serves_all most count origin sharing clock ended olds news old new all many desks begins legal numbered closes total
      failed told listens faults gate_faults =
      let works = works_of most olds news all in
      let begun : Begun = record { origin = origin; history = sharing.handed; clock = clock } in
      let gates = works_gates most olds news all in
      let as_count : length works ≡ count = works_count most olds news all ∙ many in
      let served : AreServed most begun ended 0 works =
      works_served most origin sharing clock ended 0 olds news all begins closes in
      let here : IsNumbered count sharing.handed ended.history = subst (λ n. IsNumbered n sharing.handed ended.history)
      desks numbered in
      record {
        legal = legal;
        numbered = (here.0, here.1, here.2);
        formed = all_are_formed most begun ended works served count as_count (here.0, here.1, here.2);
        works = works;
        count = as_count;
        served = served;
        told = told ∙ ap (all_released old.listening) gates;
        total = total ∙ works_total most olds news all;
        failed = failed ∙ any_failed most olds news all;
        risen = λ is. subst (λ n. HasRisen old.gate_faults n) (sym gate_faults)
            (works_raise most olds news old.gate_faults all (sym failed ∙ is));
        listens = listens;
        faults = faults;
        gate_faults = gate_faults ∙ ap (faults_raised old.gate_faults) gates;
      }
