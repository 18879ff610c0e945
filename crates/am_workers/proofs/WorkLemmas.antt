-- How a worker serves one more link, and what holds of its links over a longer history.
use Rattle.std.proofs.Common.{◌≡◌, ℕ, zero, suc, ◌+◌, ◌≤◌, ◌<◌, Bool, true, false, IsTrue, List, [], ◌∷◌, ◌++◌, length, drop, Option, Some, None, Ok, Err, refl, sym, ap, ◌∙◌, subst, inl, inr, arith, length-append, append-nil}
use Rattle.std.specs.Prelude.{IfSome, ◌-◌, ◌↔◌, min, if◌then◌else◌}
use Rattle.std.specs.List.{AllByRecursion}
use Rattle.std.specs.Option.{option_to_list}
use Rattle.std.proofs.lemmas.Grind.{flat_map-append}
use Rattle.am_types.specs.declared.history.Entry.{Entry}
use Rattle.am_outside.specs.declared.failure.Failed.{Failed}
use Rattle.am_outside.specs.Counts.{HasRisen}
use Rattle.am_outside.specs.Memory.{one_more}
use Rattle.am_network.specs.declared.progress.Progress.{Progress}
use Rattle.am_network.specs.Links.{AreBack, GateView, Handed, HandsNext, HandsOn, HasOneMark, IsDone, LinkView, Links, MayTakeBack, Parks, Stand, failed, firsts, parking_counted, set_aside, taken_back}
use Rattle.am_history.specs.State.{State}
use Rattle.am_history.specs.Desks.{DeskView, IsSameDesk, opening_of, start_of}
use Rattle.am_history.specs.History.{Extends, IsLegal, entries_of}
use Rattle.am_http.specs.Exchanges.{AreAnswered, AreInOrder, Exchange, IsAbove, IsAnswer, Point, RaisesAlong, entry_at, floor_after, floor_of, frames_of, moments_of, stored_entries}
use Rattle.am_http.specs.Frames.{Leaves}
use Rattle.am_http.specs.declared.end.End.{End}
use Rattle.am_http.specs.declared.end.End.TheVariants.{Idle, ReadFault, WriteFault}
use Rattle.am_http.specs.declared.end.Served.{Served}
use Rattle.am_http.specs.Links.{Gives, GoesOn, Link}
use Rattle.am_http.specs.Sessions.{GivesAtMost, HasFault, Visit, VisitEnds, Writes, most_frames, most_taken}
use Rattle.am_http.proofs.ExchangeLemmas.{all_more, answers_stay, entries_of-append, extends_refl, extends_trans, same_view, stored_entries_stay}
use Rattle.am_workers.specs.Work.{AreOfGate, HasCause, HasServed, IsBack, IsCounted, IsInOrder, IsServed, IsWorked, Service, ServesNext, TakesNew, TellsShort, TriesNext, WorkerView, Works, answered_before, ended_in, exchanges_of, faults_after, frames_left, given_back, least_before, moments_of_all, new_in, progress_before}
use Rattle.am_workers.specs.declared.working.Turn.{Turn}
use Rattle.am_workers.proofs.ClockLemmas.{gives_trans, gives_still}

-- a point above a floor is above a lower one
above_lower : (low high : ℕ) (point : Option Point) → low ≤ high → IsAbove high point → IsAbove low point
above_lower low high None below above = tt
above_lower low high (Some point) below above = omega (arith, below, above)

-- and so are the floors behind it
after_lower : (low high : ℕ) (point : Option Point) → low ≤ high → floor_after low point ≤ floor_after high point
after_lower low high None below = below
after_lower low high (Some point) below = omega arith

in_order_lower : (low high : ℕ) (es : List Exchange) → low ≤ high → AreInOrder high es → AreInOrder low es
in_order_lower low high [] below order = tt
in_order_lower low high (e ∷ es) below order = (
  above_lower low high e.point below order.0,
  in_order_lower (floor_after low e.point) (floor_after high e.point) es (after_lower low high e.point below) order.1,
)

floor_lower : (low high : ℕ) (es : List Exchange) → low ≤ high → floor_of low es ≤ floor_of high es
floor_lower low high [] below = below
floor_lower low high (e ∷ es) below =
    floor_lower (floor_after low e.point) (floor_after high e.point) es (after_lower low high e.point below)

-- places in order along exchanges, and along more behind them
in_order_both : (floor : ℕ) (xs ys : List Exchange) → AreInOrder floor xs → AreInOrder (floor_of floor xs) ys
    → AreInOrder floor (xs ++ ys)
in_order_both floor [] ys first next = next
in_order_both floor (x ∷ xs) ys first next = (first.0, in_order_both (floor_after floor x.point) xs ys first.1 next)

floor_both : (floor : ℕ) (xs ys : List Exchange) → floor_of floor (xs ++ ys) ≡ floor_of (floor_of floor xs) ys
floor_both floor [] ys = refl
floor_both floor (x ∷ xs) ys = floor_both (floor_after floor x.point) xs ys

-- what holds of all exchanges, and of more behind them
all_both : {X : Type 0} (P : X → Type 0) (xs ys : List X) → AllByRecursion P xs → AllByRecursion P ys
    → AllByRecursion P (xs ++ ys)
all_both P [] ys first next = next
all_both P (x ∷ xs) ys first next = (first.0, all_both P xs ys first.1 next)

-- what is behind a place of a longer history
drop_longer : (n : ℕ) (xs ys : List Entry) → n ≤ length xs → drop n (xs ++ ys) ≡ drop n xs ++ ys
drop_longer zero xs ys within = refl
drop_longer (suc n) [] ys within = absurd (omega arith)
drop_longer (suc n) (x ∷ xs) ys within = drop_longer n xs ys (omega arith)

drop_all : (xs : List Entry) → drop (length xs) xs ≡ []
drop_all [] = refl
drop_all (x ∷ xs) = drop_all xs

pub drop_behind : (xs whole ys : List Entry) → whole ≡ xs ++ ys → drop (length xs) whole ≡ ys
drop_behind xs whole ys is = ap (drop (length xs)) is ∙ drop_longer (length xs) xs ys (omega arith)
    ∙ ap (λ zs. zs ++ ys) (drop_all xs)

-- a longer history is longer
pub extends_length : (xs ys : List Entry) → Extends xs ys → length xs ≤ length ys
extends_length xs ys grows = let e = ap (λ (h : List Entry). length h) grows.1 in omega
    (arith, e, length-append xs grows.0)

-- what was put behind a list is known by the whole
behind : {X : Type 0} (xs ys zs : List X) → xs ++ ys ≡ xs ++ zs → ys ≡ zs
behind [] ys zs same = same
behind (x ∷ xs) ys zs same = behind xs ys zs (ap (drop 1) same)

-- the links of one worker, and one more
exchanges_more : (services : List Service) (service : Service) → exchanges_of (services ++ service ∷ [])
    ≡ exchanges_of services ++ service.exchanges
exchanges_more services service =
    flat_map-append (λ (s : Service). s.exchanges) services (service ∷ [])
    ∙ ap (λ es. exchanges_of services ++ es) (append-nil service.exchanges)

-- the moments of their calls, and of one more
moments_more : (services : List Service) (service : Service) → moments_of_all (services ++ service ∷ [])
    ≡ moments_of_all services ++ moments_of service.exchanges
moments_more services service =
    ap moments_of (exchanges_more services service)
    ∙ flat_map-append (λ (e : Exchange). option_to_list e.now) (exchanges_of services) service.exchanges

-- a worker that served no link yet
pub worked_none : (start : State) (number : ℕ) (history : List Entry)
    → IsWorked start (length history) number history []
worked_none start number history =
    record {
      each = tt;
      answers = tt;
      in_order = tt;
      within = omega arith;
      own = ap (entries_of number) (drop_all history);
    }

-- the relation over a longer history, to which none of the worker's entries were added
pub worked_stays : (start : State) (floor number : ℕ) (history longer : List Entry) (services : List Service)
    → floor ≤ length history
    → Extends history longer → entries_of number longer ≡ entries_of number history
    → IsWorked start floor number history services → IsWorked start floor number longer services
worked_stays start floor number history longer services floored grows others worked =
    let added = grows.0 in
    let es = exchanges_of services in
    let none : entries_of number added ≡ [] =
    behind (entries_of number history) (entries_of number added) []
    (sym (entries_of-append number history added) ∙ ap (entries_of number) (sym grows.1) ∙ others
    ∙ sym (append-nil (entries_of number history))) in
    let P : List Entry → Type 0 = λ (h : List Entry). IsWorked start floor number h services in
    subst P (sym grows.1)
    (record {
      each = worked.each;
      answers = answers_stay start number history added es worked.answers;
      in_order = worked.in_order;
      within = omega (arith, worked.within, length-append history added);
      own = ap (entries_of number) (drop_longer floor history added floored)
          ∙ entries_of-append number (drop floor history) added
          ∙ ap (λ xs. entries_of number (drop floor history) ++ xs) none
          ∙ append-nil (entries_of number (drop floor history))
          ∙ worked.own
          ∙ sym (stored_entries_stay start number history added es worked.answers);
    })

-- the entries that a link's calls added
added_own : (number : ℕ) (old added stored : List Entry) → entries_of number (old ++ added) ≡ entries_of number old
    ++ stored → entries_of number added ≡ stored
added_own number old added stored own =
    behind (entries_of number old) (entries_of number added) stored (sym (entries_of-append number old added) ∙ own)

-- one more link over a history that goes on
worked_more : (start : State) (floor number : ℕ) (history added : List Entry) (services : List Service)
    (service : Service) → floor ≤ length history
    → IsWorked start floor number history services → IsServed service
    → AllByRecursion (IsAnswer start number (history ++ added)) service.exchanges
    → AreInOrder (length history) service.exchanges
    → floor_of (length history) service.exchanges ≤ length (history ++ added)
    → entries_of number (history ++ added) ≡ entries_of number history
    ++ stored_entries (history ++ added) service.exchanges
    → IsWorked start floor number (history ++ added) (services ++ service ∷ [])
worked_more start floor number history added services service floored worked served answers in_order within own =
    let es = exchanges_of services in
    let new = history ++ added in
    let P : List Exchange → Type 0 = λ (all : List Exchange). AllByRecursion (IsAnswer start number new) all in
    let Q : List Exchange → Type 0 = λ (all : List Exchange). AreInOrder floor all in
    let R : List Exchange → Type 0 = λ (all : List Exchange). floor_of floor all ≤ length new in
    let whole = exchanges_more services service in
    let lower = floor_lower (floor_of floor es) (length history) service.exchanges worked.within in
    record {
      each = all_more IsServed services service worked.each served;
      answers = subst P (sym whole) (all_both (IsAnswer start number new) es service.exchanges
          (answers_stay start number history added es worked.answers) answers);
      in_order = subst Q (sym whole) (in_order_both floor es service.exchanges worked.in_order
          (in_order_lower (floor_of floor es) (length history) service.exchanges worked.within in_order));
      within = subst R (sym whole) (omega (arith, floor_both floor es service.exchanges, lower, within));
      own = ap (entries_of number) (drop_longer floor history added floored)
          ∙ entries_of-append number (drop floor history) added
          ∙ ap (λ xs. entries_of number (drop floor history) ++ xs)
          (added_own number history added (stored_entries new service.exchanges) own)
          ∙ ap (λ xs. xs ++ stored_entries new service.exchanges) (worked.own
          ∙ sym (stored_entries_stay start number history added es worked.answers))
          ∙ sym (flat_map-append (λ (e : Exchange). entry_at new e.point) es service.exchanges)
          ∙ ap (stored_entries new) (sym whole);
    }

-- the links that a gate handed out, and one more
of_gate_more : (first old new : Option Links) (services : List Service) (service : Service)
    → AreOfGate first old services
    → AreOfGate old new (service ∷ []) → AreOfGate first new (services ++ service ∷ [])
of_gate_more first old new [] service so_far next =
    subst (λ (l : Option Links). AreOfGate l new (service ∷ [])) so_far next
of_gate_more first old new (s ∷ ss) service so_far next =
    (so_far.0, so_far.1, of_gate_more (given_back so_far.0 s) old new ss service so_far.2 next)

-- how many of them were ended
ended_more : (services : List Service) (service : Service)
    → ended_in (services ++ service ∷ []) ≡ ended_in services + ended_in (service ∷ [])
ended_more [] service = omega arith
ended_more (s ∷ ss) service = omega (arith, ended_more ss service)

-- how many were handed out for the first time
new_more : (services : List Service) (service : Service)
    → new_in (services ++ service ∷ []) ≡ new_in services + new_in (service ∷ [])
new_more [] service = omega arith
new_more (s ∷ ss) service = omega (arith, new_more ss service)

-- the faults of their gate
faults_more : (faults : ℕ) (services : List Service) (service : Service)
    → faults_after faults (services ++ service ∷ []) ≡ faults_after (faults_after faults services) (service ∷ [])
faults_more faults [] service = refl
faults_more faults (s ∷ ss) service = faults_more (if s.refused then one_more faults else faults) ss service

-- they are no fewer
pub faults_stay : (faults : ℕ) (services : List Service)
    → min faults 18446744073709551615 ≤ faults_after faults services
faults_stay faults [] = omega arith
faults_stay faults (s ∷ ss) = by s.refused (faults_stay (if s.refused then one_more faults else faults) ss)
  where
    by : (refused : Bool)
        → min (if refused then one_more faults else faults) 18446744073709551615
        ≤ faults_after (if refused then one_more faults else faults) ss
        → min faults 18446744073709551615 ≤ faults_after (if refused then one_more faults else faults) ss
    by true rest = omega (arith, rest)
    by false rest = rest

-- of one link at most one is new
firsts_few : (before : Option Progress) → firsts before ≤ 1
firsts_few None = omega arith
firsts_few (Some count) = omega arith

-- a worker that served no link yet
pub served_none : (worker : WorkerView) → HasServed worker worker []
served_none worker =
    record {
      desk = record { desk = record { origin = refl; number = refl; sharing = refl }; legal = λ h. h };
      grows = extends_refl worker.desk.seen;
      worked = worked_none (start_of worker.desk) worker.desk.number worker.desk.seen;
      in_order = λ waits. tt;
      links = refl;
      moments = λ calls. refl;
      faults = omega arith;
    }

-- the worker if nothing was served since, but for a call of its gate that may have failed
pub served_same : (first old new : WorkerView) (services : List Service) → HasServed first old services
    → new.desk ≡ old.desk → Gives old.clock [] new.clock → old.gate.faults ≤ new.gate.faults
    → HasServed first (record new { gate = record (new.gate) { links = old.gate.links } }) services
served_same first old new services has desk clock faults =
    let P : DeskView → Type 0 = λ (d : DeskView). GoesOn first.desk d in
    let Q : DeskView → Type 0 = λ (d : DeskView). Extends first.desk.seen d.seen in
    let R : DeskView → Type 0 = λ (d : DeskView). IsWorked (start_of first.desk) (length first.desk.seen)
    first.desk.number d.seen services in
    record {
      desk = subst P (sym desk) has.desk;
      grows = subst Q (sym desk) has.grows;
      worked = subst R (sym desk) has.worked;
      in_order = has.in_order;
      links = has.links;
      moments = gives_still first.clock (moments_of_all services) old.clock new.clock has.moments clock;
      faults = omega (arith, has.faults, faults);
    }

same_trans : (a b c : DeskView) → IsSameDesk a b → IsSameDesk b c → IsSameDesk a c
same_trans a b c first next =
    record {
      origin = next.origin ∙ first.origin;
      number = next.number ∙ first.number;
      sharing = next.sharing ∙ first.sharing;
    }

goes_on_trans : (a b c : DeskView) → GoesOn a b → GoesOn b c → GoesOn a c
goes_on_trans a b c first next =
    record {
      desk = same_trans a b c first.desk next.desk;
      legal = λ h.
          subst (λ origin. IsLegal (opening_of origin) b.seen → IsLegal (opening_of origin) c.seen) first.desk.origin
          next.legal (first.legal h);
    }

-- the answers over a desk that is the same
answered_as : (first old new : DeskView) (es : List Exchange) → IsSameDesk first old → AreAnswered old new es
    → AreAnswered (record { origin = first.origin; number = first.number; sharing = first.sharing; seen = old.seen })
    new es
answered_as first old new es same answers =
    subst (λ (d : DeskView). AreAnswered d new es) (same_view first old same) answers

-- one more link was served
pub served_more : (first old new : WorkerView) (services : List Service) (service : Service)
    → HasServed first old services
    → GoesOn old.desk new.desk → AreAnswered old.desk new.desk service.exchanges → IsServed service
    → AreOfGate old.gate.links new.gate.links (service ∷ []) → Gives old.clock (moments_of service.exchanges) new.clock
    → old.gate.faults ≤ new.gate.faults → (IsTrue first.waits → IsInOrder service)
    → HasServed first new (services ++ service ∷ [])
served_more first old new services service has goes answers served links moments faults in_order =
    let there = answered_as first.desk old.desk new.desk service.exchanges has.desk.desk answers in
    let added = there.grows.0 in
    let is_new : new.desk.seen ≡ old.desk.seen ++ added = there.grows.1 in
    let start = start_of first.desk in
    let number = first.desk.number in
    let floor = length first.desk.seen in
    let P : List Entry → Type 0 = λ (h : List Entry). AllByRecursion (IsAnswer start number h) service.exchanges in
    let Q : List Entry → Type 0 = λ (h : List Entry). floor_of (length old.desk.seen) service.exchanges ≤ length h in
    let R : List Entry → Type 0 = λ (h : List Entry). entries_of number h ≡ entries_of number old.desk.seen
    ++ stored_entries h service.exchanges in
    let S : List Entry → Type 0 = λ (h : List Entry). IsWorked start floor number h (services ++ service ∷ []) in
    let floored : floor ≤ length old.desk.seen = extends_length first.desk.seen old.desk.seen has.grows in
    record {
      desk = goes_on_trans first.desk old.desk new.desk has.desk goes;
      grows = extends_trans first.desk.seen old.desk.seen new.desk.seen has.grows there.grows;
      worked = subst S (sym is_new)
          (worked_more start floor number old.desk.seen added services service floored has.worked served
          (subst P is_new there.answers) there.in_order (subst Q is_new there.floor) (subst R is_new there.own));
      in_order = λ waits. all_more IsInOrder services service (has.in_order waits) (in_order waits);
      links = of_gate_more first.gate.links old.gate.links new.gate.links services service has.links links;
      moments = subst (λ ms. Gives first.clock ms new.clock) (sym (moments_more services service))
          (gives_trans first.clock (moments_of_all services) old.clock (moments_of service.exchanges) new.clock
          has.moments moments);
      faults = omega (arith, has.faults, faults);
    }

-- no link was to come, so nothing was served
pub tries_none : (takes_new : Bool) (old new : WorkerView) → new.desk ≡ old.desk
    → HandsNext takes_new old.gate.links new.gate.links None
    → new.gate.faults ≡ old.gate.faults
    → Gives old.clock [] new.clock → TriesNext takes_new old new (Ok None)
tries_none takes_new old new desk handed faults clock = (desk, handed.0, handed.1, clock, faults)

-- nor if the gate failed
pub tries_failed : (takes_new : Bool) (old new : WorkerView) (e : Failed) → new.desk ≡ old.desk
    → new.gate.links ≡ failed old.gate.links
    → new.gate.faults ≡ one_more old.gate.faults
    → Gives old.clock [] new.clock → TriesNext takes_new old new (Err e)
tries_failed takes_new old new e desk links faults clock = (desk, links, faults, clock)

-- a connection's link, as its gate sees it, with the count of its reader's waits
abbrev pub view_of : Link → ℕ → LinkView
view_of link waits = record {
  left = link.source.left;
  read_faults = link.source.faults;
  read_mark = link.source.mark;
  read_waits = waits;
  taken = link.sink.taken;
  write_faults = link.sink.faults;
  write_mark = link.sink.mark;
}

cause_of : (end : End) (first last : Link) (before after : ℕ) → HasFault end first last
    → (end ≡ Idle → HasRisen before after)
    → HasCause end (view_of first before) (view_of last after)
cause_of Idle first last before after fault rests = rests refl
cause_of ReadFault first last before after fault rests = fault
cause_of WriteFault first last before after fault rests = fault
cause_of end first last before after fault rests = tt

-- after an idle connection that was served so, a further frame may come
idle_below : (limit : ℕ) (first last : Link) (served : Served) (visit : Visit limit first last served)
    → served.end ≡ Idle → (served.answered ≡ length visit.exchanges) × (served.answered < limit)
idle_below limit first last served visit idle =
    let P : End → Type 0 = λ (e : End). VisitEnds limit e served.answered visit.exchanges
    (record { rest = visit.rest; left = last.source.left; last = visit.last }) in
    let there : VisitEnds limit Idle served.answered visit.exchanges
    (record { rest = visit.rest; left = last.source.left; last = visit.last }) = subst P idle visit.end in
    (there.0, omega (arith, there.0, there.1.below))

-- so its frames are no more than a connection may have
pub few_frames : (before : ℕ) (first last : Link) (served : Served) → Visit (most_frames - before) first last served
    → served.end ≡ Idle → before + served.answered ≤ most_frames
few_frames before first last served visit idle =
    let below = (idle_below (most_frames - before) first last served visit idle).1 in omega (arith, below)

-- a link that was handed out so, and served by a connection
abbrev pub served_as : (handed : Handed) (first last : Link) (after : ℕ) (served : Served)
    → Visit (frames_left handed) first last served → Bool → Bool → Service
served_as handed first last after served visit parked refused =
    record {
      first = handed;
      last = view_of last after;
      exchanges = visit.exchanges;
      parked = parked;
      refused = refused;
    }

-- it was served as it should be
link_served : (handed : Handed) (first last : Link) (before after : ℕ) (served : Served) (parked refused : Bool)
    (visit : Visit (frames_left handed) first last served) → handed.link ≡ view_of first before
    → HasFault served.end first last → (served.end ≡ Idle → HasRisen before after)
    → (parked ≡ true → served.end ≡ Idle) → ((refused ≡ true) ↔ ((served.end ≡ Idle) × (parked ≡ false)))
    → IsServed (served_as handed first last after served visit parked refused)
link_served handed first last before after served parked refused visit is fault rests idle refuses =
    let limit = frames_left handed in
    let F : LinkView → Type 0 = λ (v : LinkView). Leaves v.left (frames_of visit.exchanges) visit.rest in
    let G : LinkView → Type 0 = λ (v : LinkView). GivesAtMost (most_taken limit) v.left last.source.left in
    let O : LinkView → Type 0 = λ (v : LinkView). Writes served v.taken last.sink.taken visit.exchanges visit.last in
    let C : LinkView → Type 0 = λ (v : LinkView). HasCause served.end v (view_of last after) in
    record {
      how = served;
      rest = visit.rest;
      last = visit.last;
      frames = subst F (sym is) visit.frames;
      most = visit.most;
      taken = subst G (sym is) visit.taken;
      end = visit.end;
      output = subst O (sym is) visit.output;
      cause = subst C (sym is) (cause_of served.end first last before after fault rests);
      parked = idle;
      refused = refuses;
    }

-- its gate has it back: parked, with how far it is, or ended
given : (handed : Handed) (mid new : Option Links) (first last : Link) (after least : ℕ) (served : Served)
    (parked refused : Bool) (visit : Visit (frames_left handed) first last served)
    → least ≡ floor_of (least_before handed) visit.exchanges
    → (parked ≡ true → served.end ≡ Idle)
    → Parks parked mid new
    (record {
      link = view_of last after;
      progress = record { answered = answered_before handed + served.answered; least = least };
    })
    → new ≡ given_back mid (served_as handed first last after served visit parked refused)
given handed mid new first last after least served true refused visit floor idle back =
    let count = (idle_below (frames_left handed) first last served visit (idle refl)).0 in
    let at : ℕ → ℕ → Option Links = λ n l. set_aside mid
    (record {
      link = view_of last after;
      progress = record { answered = answered_before handed + n; least = l };
    }) in
    back ∙ (ap (λ n. at n least) count ∙ ap (at (length visit.exchanges)) floor)
given handed mid new first last after least served false refused visit floor idle back = back

-- so many links ended by that
ended_one : (parked : Bool) (ended : ℕ) → ended ≡ (if parked then 0 else 1) → ended ≡ (if parked then 0 else 1) + 0
ended_one true ended is = is
ended_one false ended is = is

-- what the turn over it counts
counted : (takes_new : Bool) (old new : ℕ) (turn : Turn) (service : Service)
    → new ≡ (if service.refused then one_more old else old) → turn.taken ≡ firsts service.first.before
    → (takes_new ≡ false → firsts service.first.before ≡ 0) → turn.ended ≡ (if service.parked then 0 else 1)
    → IsCounted takes_new old new turn service
counted takes_new old new turn service faults taken asked many =
    record {
      faults = faults;
      taken = omega (arith, taken);
      asked = λ no. taken ∙ asked no;
      ended = ended_one service.parked turn.ended many;
    }

-- a link that was to be parked since it was idle is back
pub back_by_park : (end : End) (old new : GateView) (stand : Stand) (ended : ℕ) (parked : Bool) → end ≡ Idle
    → Parks parked old.links new.links stand → new.faults ≡ parking_counted parked old.faults
    → ended ≡ (if parked then 0 else 1) → IsBack end old new stand ended
back_by_park end old new stand ended true idle links faults many =
    record {
      parked = true;
      refused = false;
      rests = λ is. idle;
      refuses = (λ is. absurd (let e = is in cc), λ both. absurd (let e = both.1 in cc));
      links = links;
      faults = faults;
      many = many;
    }
back_by_park end old new stand ended false idle links faults many =
    record {
      parked = false;
      refused = true;
      rests = λ is. idle;
      refuses = (λ is. (idle, refl), λ both. refl);
      links = links;
      faults = faults;
      many = many;
    }

-- one that was ended since it wasn't idle is back
pub back_by_finish : (end : End) (old new : GateView) (stand : Stand) (ended : ℕ) → (end ≡ Idle → ⊥)
    → new.links ≡ taken_back old.links stand.link → new.faults ≡ old.faults → ended ≡ 1
    → IsBack end old new stand ended
back_by_finish end old new stand ended other links faults many =
    record {
      parked = false;
      refused = false;
      rests = λ is. absurd (let e = is in cc);
      refuses = (λ is. absurd (let e = is in cc), λ both. absurd (other both.0));
      links = links;
      faults = faults;
      many = many;
    }

-- a connection over a link that was handed out and is back
pub serves_link : (waits takes_new : Bool) (handed : Handed) (old : Option Links) (mid new : GateView)
    (first last : Link) (before after least : ℕ) (served : Served) (turn : Turn)
    (visit : Visit (frames_left handed) first last served)
    → RaisesAlong waits (least_before handed) least visit.exchanges
    → handed.link ≡ view_of first before → HasFault served.end first last → (served.end ≡ Idle → HasRisen before after)
    → HandsNext takes_new old mid.links (Some handed)
    → IsBack served.end mid new
    (record {
      link = view_of last after;
      progress = record { answered = answered_before handed + served.answered; least = least };
    }) turn.ended
    → turn.taken ≡ firsts handed.before
    → (service : Service) × AreAnswered first.server.desk last.server.desk service.exchanges × IsServed service
    × AreOfGate old new.links (service ∷ [])
    × Gives first.server.clock (moments_of service.exchanges) last.server.clock
    × IsCounted takes_new mid.faults new.faults turn service × (IsTrue waits → IsInOrder service)
serves_link waits takes_new handed old mid new first last before after least served turn visit raised is fault rests out
    back taken =
    let service = served_as handed first last after served visit back.parked back.refused in (
      service,
      visit.answers,
      link_served handed first last before after served back.parked back.refused visit is fault rests back.rests
          back.refuses,
      (
        mid.links,
        out.0,
        given handed mid.links new.links first last after least served back.parked back.refused visit raised.1
            back.rests back.links,
      ),
      visit.moments,
      counted takes_new mid.faults new.faults turn service back.faults taken out.1 back.many,
      raised.0,
    )

-- a connection over a link that was so far
abbrev pub VisitsFrom : Bool → Progress → ℕ → (first last : Link) → Served → Type 0
VisitsFrom waits progress least first last served =
    (visit : Visit (most_frames - progress.answered) first last served)
    × RaisesAlong waits progress.least least visit.exchanges

-- the same, where it is told how far the link was, and the gate was so before it handed the link out
pub serves_counted : (waits takes_new : Bool) (handed : Handed) (old mid new : GateView) (first last : Link)
    (before after least : ℕ) (progress : Progress) (served : Served) (turn : Turn) → progress ≡ progress_before handed
    → VisitsFrom waits progress least first last served
    → handed.link ≡ view_of first before → HasFault served.end first last → (served.end ≡ Idle → HasRisen before after)
    → HandsNext takes_new old.links mid.links (Some handed) → mid.faults ≡ old.faults
    → IsBack served.end mid new
    (record {
      link = view_of last after;
      progress = record { answered = progress.answered + served.answered; least = least };
    }) turn.ended
    → turn.taken ≡ firsts handed.before
    → (service : Service) × AreAnswered first.server.desk last.server.desk service.exchanges × IsServed service
    × AreOfGate old.links new.links (service ∷ [])
    × Gives first.server.clock (moments_of service.exchanges) last.server.clock
    × IsCounted takes_new old.faults new.faults turn service × (IsTrue waits → IsInOrder service)
serves_counted waits takes_new handed old mid new first last before after least progress served turn same visit is fault
    rests out calm back taken =
    let V : Progress → Type 0 = λ (p : Progress). VisitsFrom waits p least first last served in
    let B : Progress → Type 0 = λ (p : Progress). IsBack served.end mid new
    (record {
      link = view_of last after;
      progress = record { answered = p.answered + served.answered; least = least };
    }) turn.ended in
    let there : VisitsFrom waits (progress_before handed) least first last served = subst V same visit in
    let all = serves_link waits takes_new handed old.links mid new first last before after least served turn there.0
    there.1 is fault rests out (subst B same back) taken in (
      all.0,
      all.1,
      all.2,
      all.3,
      all.4,
      subst (λ (n : ℕ). IsCounted takes_new n new.faults turn all.0) calm all.5,
      all.6,
    )

-- while a link is out, all others are back
abbrev pub IsOneOut : Links → Type 0
IsOneOut links =
    (length links.ended + length links.parked + 1 ≡ links.handed)
    × AllByRecursion (λ (stand : Stand). HasOneMark stand.link) links.parked

all_left : {X : Type 0} (P : X → Type 0) (before : List X) (x : X) (after : List X)
    → AllByRecursion P (before ++ x ∷ after) → AllByRecursion P (before ++ after)
all_left P [] x after all = all.1
all_left P (y ∷ before) x after all = (all.0, all_left P before x after all.1)

all_at : {X : Type 0} (P : X → Type 0) (before : List X) (x : X) (after : List X)
    → AllByRecursion P (before ++ x ∷ after) → P x
all_at P [] x after all = all.0
all_at P (y ∷ before) x after all = all_at P before x after all.1

one_out : (links : Links) (mid : Option Links) (first : Handed) → HandsOn (Some links) mid first → AreBack links
    → (now : Links) × (mid ≡ Some now) × IsOneOut now × HasOneMark first.link
one_out links mid first (inl new) back = (
  record links { handed = links.handed + 1 },
  new.0.3,
  (omega (arith, back.0), back.1),
  (let P : LinkView → Type 0 = λ (l : LinkView). HasOneMark l in subst P (sym new.0.2) refl),
)
one_out links mid first (inr again) back =
    let P : Stand → Type 0 = λ (s : Stand). HasOneMark s.link in
    let stand = again.1 in
    let all = subst (λ (ss : List Stand). AllByRecursion P ss) again.3 back.1 in
    let many = ap (λ (ss : List Stand). length ss) again.3 in (
      record links { parked = again.0 ++ again.2 },
      again.4,
      (
        omega (arith, back.0, many, length-append again.0 (stand ∷ again.2), length-append again.0 again.2),
        all_left P again.0 stand again.2 all,
      ),
      subst (λ (h : Handed). HasOneMark h.link) (sym again.5) (all_at P again.0 stand again.2 all),
    )

-- it may be taken back or parked
pub may_be_back : (old mid : Option Links) (first : Handed) (last : LinkView) → HandsOn old mid first
    → IfSome old AreBack → last.read_mark ≡ first.link.read_mark → last.write_mark ≡ first.link.write_mark
    → MayTakeBack mid last
may_be_back None mid first last handed all read write =
    let P : Option Links → Type 0 = λ (l : Option Links). MayTakeBack l last in
    subst P (sym handed) tt
may_be_back (Some links) mid first last handed all read write =
    let P : Option Links → Type 0 = λ (l : Option Links). MayTakeBack l last in
    let out = one_out links mid first handed all in
    subst P (sym out.1) (omega (arith, out.2.0), read ∙ out.3 ∙ sym write)

-- and then every link is back again
back_so : (now : Links) (parked : Bool) (new : Option Links) (stand : Stand) → IsOneOut now
    → HasOneMark stand.link → Parks parked (Some now) new stand → IfSome new AreBack
back_so now true new stand out mark back =
    let P : Option Links → Type 0 = λ (l : Option Links). IfSome l AreBack in
    let Q : Stand → Type 0 = λ (s : Stand). HasOneMark s.link in
    subst P (sym back) (
      omega (arith, out.0, length-append now.parked (stand ∷ [])),
      all_both Q now.parked (stand ∷ []) out.1 (mark, tt),
    )
back_so now false new stand out mark back =
    let P : Option Links → Type 0 = λ (l : Option Links). IfSome l AreBack in
    subst P (sym back) (omega (arith, out.0, length-append now.ended (stand.link ∷ [])), out.1)

back_none : (parked : Bool) (new : Option Links) (stand : Stand) → Parks parked None new stand → IfSome new AreBack
back_none true new stand back = let P : Option Links → Type 0 = λ (l : Option Links). IfSome l AreBack in subst P
    (sym back) tt
back_none false new stand back = let P : Option Links → Type 0 = λ (l : Option Links). IfSome l AreBack in subst P
    (sym back) tt

pub back_again : (old mid new : Option Links) (first : Handed) (last : Stand) (parked : Bool) → HandsOn old mid first
    → IfSome old AreBack → last.link.read_mark ≡ first.link.read_mark → last.link.write_mark ≡ first.link.write_mark
    → Parks parked mid new last → IfSome new AreBack
back_again None mid new first last parked handed all read write back =
    back_none parked new last (subst (λ (l : Option Links). Parks parked l new last) handed back)
back_again (Some links) mid new first last parked handed all read write back =
    let out = one_out links mid first handed all in
    back_so out.0 parked new last out.2 (read ∙ out.3 ∙ sym write)
    (subst (λ (l : Option Links). Parks parked l new last) out.1 back)

-- a worker that has served one link more, by such a turn
pub record ServedMore (takes_new : Bool) (first new : WorkerView) (services : List Service) (turn : Turn) : Type 0
  where
    pub all : List Service
    pub has : HasServed first new all
    pub faults : new.gate.faults ≡ faults_after first.gate.faults all
    pub taken : new_in all ≡ new_in services + turn.taken
    pub asked : takes_new ≡ false → turn.taken ≡ 0
    pub one : turn.taken ≤ 1
    pub ended : ended_in all ≡ ended_in services + turn.ended

-- one more link was served, if there was one
pub one_more_served : (takes_new : Bool) (first old new : WorkerView) (services : List Service) (next : Option Turn)
    (turn : Turn) → next ≡ Some turn → HasServed first old services
    → old.gate.faults ≡ faults_after first.gate.faults services → ServesNext takes_new old new next
    → GoesOn old.desk new.desk → old.gate.faults ≤ new.gate.faults → old.waits ≡ first.waits
    → ServedMore takes_new first new services turn
one_more_served takes_new first old new services next turn is has calm serves goes never_falls same_waits =
    let P : Option Turn → Type 0 = λ (o : Option Turn). ServesNext takes_new old new o in
    let there : ServesNext takes_new old new (Some turn) = subst P is serves in
    let service = there.0 in
    let counts = there.5 in
    let taken = counts.taken in
    record {
      all = services ++ service ∷ [];
      has = served_more first old new services service has goes there.1 there.2 there.3 there.4 never_falls
          (subst (λ (b : Bool). IsTrue b → IsInOrder service) same_waits there.6);
      faults = counts.faults ∙ ap (λ n. faults_after n (service ∷ [])) calm
          ∙ sym (faults_more first.gate.faults services service);
      taken = new_more services service ∙ ap (λ n. new_in services + n) (sym taken);
      asked = counts.asked;
      one = omega (arith, taken, firsts_few service.first.before);
      ended = ended_more services service ∙ ap (λ n. ended_in services + n) (sym counts.ended);
    }

-- how many links were ended, with those that were counted now
pub counted_more : (served count ended : ℕ) → served ≡ min 18446744073709551615 count
    → min (served + ended) 18446744073709551615 ≡ min 18446744073709551615 (count + ended)
counted_more served count ended is = grind (arith, is)

-- at most so many links were new
abbrev pub IsFew : Option ℕ → ℕ → Type 0
IsFew most taken = IfSome most (λ m. taken ≤ m)

pub few_none : (most : Option ℕ) → IsFew most 0
few_none None = tt
few_none (Some most) = omega arith

-- a worker takes a new link if it took fewer, as it has counted them
pub takes_new_as : (most : Option ℕ) (count taken : ℕ) (short : Bool) → TellsShort most taken short
    → taken ≡ min 18446744073709551615 count → TakesNew most count short
takes_new_as None count taken short tells held = tells
takes_new_as (Some most) count taken true tells held = let below = tells.0 in let bound = tells.1 in grind
    (arith, below, bound, held)
takes_new_as (Some most) count taken false tells held = let below = tells.0 in grind (arith, below, held)

-- one that takes another at most then still took few
pub few_still : (most : Option ℕ) (count more all : ℕ) (takes_new : Bool) → TakesNew most count takes_new
    → IsFew most count → more ≤ 1 → (takes_new ≡ false → more ≡ 0) → all ≡ count + more → IsFew most all
few_still None count more all takes_new takes few one asked is = tt
few_still (Some most) count more all true takes few one asked is = omega (arith, takes, one, is)
few_still (Some most) count more all false takes few one asked is =
    let none : more ≡ 0 = asked refl in omega (arith, few, none, is)

-- a worker that stops since no link is to come
pub works_closed : (most : Option ℕ) (takes_new : Bool) (first old new : WorkerView) (services : List Service)
    (served : ℕ) → HasServed first old services
    → old.gate.faults ≡ faults_after first.gate.faults services → IsFew most (new_in services)
    → TakesNew most (new_in services) takes_new
    → served ≡ min 18446744073709551615 (ended_in services)
    → TriesNext takes_new old new (Ok None) → Works most first new (record { served = served; failed = false })
works_closed most takes_new first old new services served has calm few takes held next =
    let still = next.4 in
    record {
      services = services;
      links = old.gate.links;
      has = served_same first old new services has next.0 next.3 (omega (arith, still));
      few = few;
      served = held;
      ends = (still ∙ calm, next.1, (takes_new, takes, next.2));
    }

-- since its gate failed
pub works_failed : (most : Option ℕ) (takes_new : Bool) (first old new : WorkerView) (services : List Service)
    (served : ℕ) (e : Failed) → HasServed first old services
    → old.gate.faults ≡ faults_after first.gate.faults services → IsFew most (new_in services)
    → served ≡ min 18446744073709551615 (ended_in services)
    → TriesNext takes_new old new (Err e) → old.gate.faults ≤ new.gate.faults
    → Works most first new (record { served = served; failed = true })
works_failed most takes_new first old new services served e has calm few held next never_falls =
    record {
      services = services;
      links = old.gate.links;
      has = served_same first old new services has next.0 next.3 never_falls;
      few = few;
      served = held;
      ends = (next.2 ∙ ap one_more calm, next.1);
    }
