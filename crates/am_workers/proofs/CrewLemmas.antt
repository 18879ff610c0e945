-- The workers of a shared manager, from the making of its desks to their closing.
use Rattle.std.proofs.Common.{◌≡◌, ℕ, zero, suc, ◌+◌, ◌≤◌, ◌<◌, true, List, [], ◌∷◌, ◌++◌, take, refl, length, map, min, Option, Some, None, sym, ap, ◌∙◌, subst, arith, slice_get}
use Rattle.std.specs.Prelude.{All, IfSome, slice_index_or, sum_by}
use Rattle.std.specs.List.{AllByRecursion, AllZip, list_any}
use Rattle.std.proofs.lemmas.List.{length-map}
use Rattle.std.proofs.lemmas.List.Elements.{recursion_from_All}
use Rattle.am_types.specs.declared.history.Entry.{Entry}
use Rattle.am_network.specs.Links.{AreBack, AreUntouched, HasOneMark, IsNewGate, Links, Stand}
use Rattle.am_history.specs.Desks.{DeskView, Origin, Sharing, opening_of}
use Rattle.am_history.specs.History.{Extends, IsLegal, entries_of}
use Rattle.am_baton.specs.Shared.{AreAll, AreNew, IsNumbered, new_desk}
use Rattle.am_baton.proofs.Desks.{new_all, still_all}
use Rattle.am_http.specs.Links.{Moments}
use Rattle.am_workers.specs.declared.worker.Worker.{Worker}
use Rattle.am_workers.specs.declared.working.Worked.{Worked as Totals}
use Rattle.am_workers.specs.Work.{WorkerView}
use Rattle.am_workers.specs.Serving.{NetworkView, ServesAll, all_released, faults_raised}
use Rattle.am_workers.proofs.ServingLemmas.{WorksAs, along, begin_from, desk_at, gate_at, of_workers, same_desks, serves_all}

-- two lists that are empty have no elements
none_in_both : (links : Links) → AreUntouched links → AreBack links
none_in_both links is =
    let ended = ap length is.1 in
    let parked = ap length is.2 in (
      omega (arith, ended, parked, is.0),
      subst (λ (ss : List Stand). AllByRecursion
          (λ (stand : Stand). HasOneMark stand.link) ss) (sym is.2) tt,
    )

-- every link of a new gate is back
new_is_back : (links : Option Links) → IfSome links AreUntouched → IfSome links AreBack
new_is_back None is = tt
new_is_back (Some links) is = none_in_both links is

-- the elements of a vector once others were written over them
pub back_written : {X : Type 0} (n : ℕ) (news items : List X) → n ≡ length news → take n (news ++ items) ≡ news
back_written zero [] items long = refl
back_written zero (x ∷ xs) items long = absurd (omega (arith, long))
back_written (suc n) [] items long = absurd (omega (arith, long))
back_written (suc n) (x ∷ xs) items long = ap (λ ys. x ∷ ys) (back_written n xs items (omega (arith, long)))

-- a worker whose desk waits, as clauses see it
abbrev pub view : {G C : Type 0} → (G → Option Links) → (G → ℕ) → (C → Moments) → Worker DeskView G C → WorkerView
view links faults moments w =
    record {
      desk = w.desk;
      waits = true;
      gate = record { links = links w.gate; faults = faults w.gate };
      clock = moments w.clock;
    }

-- the gates are new
abbrev pub AreNewGates : {G : Type 0} → (G → Option Links) → (G → ℕ) → List G → Type 0
AreNewGates {G} links faults gates = (k : ℕ) (gate : G) → slice_get gates k ≡ Some gate
    → IsNewGate (record { links = links gate; faults = faults gate })

-- so every link is back before they work
pub all_back : {G C : Type 0} (links : G → Option Links) (faults : G → ℕ) (olds : List (Worker DeskView G C))
    (gates : List G) → map (λ (w : Worker DeskView G C). w.gate) olds ≡ gates → AreNewGates links faults gates
    → All (λ (w : Worker DeskView G C). IfSome (links w.gate) AreBack) olds
all_back {G} {C} links faults olds gates is new k other within =
    new_is_back (links (slice_index_or olds k other).gate)
    (gate_at (λ (w : Worker DeskView G C). w.desk) (λ (w : Worker DeskView G C). w.gate)
    (λ gate. IsNewGate (record { links = links gate; faults = faults gate })) olds gates is new k other within).1

-- their clocks tell the same before they work
pub clocks_of : {G C : Type 0} (moments : C → Moments) (clock : Moments) (olds items : List (Worker DeskView G C))
    → olds ≡ items
    → All (λ (w : Worker DeskView G C). (calls : ℕ) → moments w.clock calls ≡ clock calls) items
    → All (λ (w : Worker DeskView G C). (calls : ℕ) → moments w.clock calls ≡ clock calls) olds
clocks_of {G} {C} moments clock olds items is all =
    subst (λ (ws : List (Worker DeskView G C)). All (λ (w : Worker DeskView G C). (calls : ℕ) → moments w.clock calls
    ≡ clock calls) ws) (sym is) all

-- how each worked
abbrev pub Worked : {G C : Type 0} → (G → Option Links) → (G → ℕ) → (C → Moments) → Option ℕ
    → List (Worker DeskView G C) → List (Worker DeskView G C) → Type 0
Worked {G} {C} links faults moments most olds news = AllZip (WorksAs (view links faults moments)
    (λ (w : Worker DeskView G C). w.worked) most) olds news

-- workers who had the new desks of one sharing and have worked, and the desks that they leave
pub record IsCrew {G C : Type 0} (links : G → Option Links) (faults : G → ℕ) (moments : C → Moments) (most : Option ℕ)
    (origin : Origin) (sharing : Sharing)
    (desks last : List DeskView) (olds news : List (Worker DeskView G C)) : Type 0 where
  pub some_desk : 1 ≤ sharing.desks
  pub made : AreNew origin sharing desks
  pub of_desks : map (λ (w : Worker DeskView G C). w.desk) olds ≡ desks
  pub worked : Worked links faults moments most olds news
  pub many : length news ≡ length olds
  pub ends : last ≡ map (λ (w : Worker DeskView G C). w.desk) news

-- they are that, once their desks were taken from them
pub crew : {G C : Type 0} (links : G → Option Links) (faults : G → ℕ) (moments : C → Moments) (most : Option ℕ)
    (origin : Origin) (sharing : Sharing) (desks last room : List DeskView)
    (olds news over moved : List (Worker DeskView G C)) (n : ℕ) → 1 ≤ sharing.desks → AreNew origin sharing desks
    → map (λ (w : Worker DeskView G C). w.desk) olds ≡ desks → length news ≡ length olds → length olds ≡ n
    → ((k : ℕ) (other : Worker DeskView G C) → k < length olds → WorksAs (view links faults moments)
    (λ (w : Worker DeskView G C). w.worked) most (slice_index_or olds k other) (slice_index_or news k other))
    → moved ≡ take n (news ++ over) → last ≡ room ++ map (λ (w : Worker DeskView G C). w.desk) moved → room ≡ []
    → IsCrew links faults moments most origin sharing desks last olds news
crew {G} {C} links faults moments most origin sharing desks last room olds news over moved n some_desk made of_desks
    many long works taken left empty = record {
      some_desk = some_desk;
      made = made;
      of_desks = of_desks;
      worked = along (view links faults moments) (λ (w : Worker DeskView G C). w.worked)
          (WorksAs (view links faults moments) (λ (w : Worker DeskView G C). w.worked) most) olds news many works;
      many = many;
      ends = left ∙ ap (λ r. r ++ map (λ (w : Worker DeskView G C). w.desk) moved) empty
          ∙ ap (map (λ (w : Worker DeskView G C). w.desk)) (taken ∙ back_written n news over (sym (many ∙ long)));
    }

-- the desks at the end are all desks of the sharing
pub all_desks : {G C : Type 0} (links : G → Option Links) (faults : G → ℕ) (moments : C → Moments) (most : Option ℕ)
    (origin : Origin) (sharing : Sharing) (desks last : List DeskView) (olds news : List (Worker DeskView G C))
    → IsCrew links faults moments most origin sharing desks last olds news
    → AreAll sharing last
all_desks {G} {C} links faults moments most origin sharing desks last olds news team =
    let first : AreAll sharing (map (λ (w : Worker DeskView G C). w.desk) olds) = subst (AreAll sharing)
    (sym team.of_desks) (new_all origin sharing desks team.some_desk team.made) in
    subst (AreAll sharing) (sym team.ends)
    (still_all sharing (map (λ (w : Worker DeskView G C). w.desk) olds) (map (λ (w : Worker DeskView G C). w.desk) news)
    (length-map news (λ (w : Worker DeskView G C). w.desk) ∙ (team.many
    ∙ sym (length-map olds (λ (w : Worker DeskView G C). w.desk))))
    first (same_desks (view links faults moments) (λ (w : Worker DeskView G C). w.worked) most olds news team.worked))

-- the manager comes from where it came
pub same_origin : {G C : Type 0} (links : G → Option Links) (faults : G → ℕ) (moments : C → Moments) (most : Option ℕ)
    (origin out : Origin) (sharing : Sharing) (desks last : List DeskView) (olds news : List (Worker DeskView G C))
    → IsCrew links faults moments most origin sharing desks last olds news
    → All (λ (d : DeskView). out ≡ d.origin) last → out ≡ origin
same_origin {G} {C} links faults moments most origin out sharing desks last olds news team told =
    let d = new_desk origin sharing 0 in
    let old = map (λ (w : Worker DeskView G C). w.desk) olds in
    let now = map (λ (w : Worker DeskView G C). w.desk) news in
    let first : AreNew origin sharing old = subst (AreNew origin sharing) (sym team.of_desks) team.made in
    let some_desk = team.some_desk in
    let long : 0 < length old = let c = first.count in omega (arith, c, some_desk) in
    let count : length now ≡ length old = length-map news (λ (w : Worker DeskView G C). w.desk)
    ∙ (team.many ∙ sym (length-map olds (λ (w : Worker DeskView G C). w.desk))) in
    let within : 0 < length last = subst (λ (l : List DeskView). 0 < length l) (sym team.ends)
    (omega (arith, count, long)) in
    let at_end : slice_index_or last 0 d ≡ slice_index_or now 0 d = ap (λ l. slice_index_or l 0 d) team.ends in
    told 0 d within ∙ ap (λ (v : DeskView). v.origin) at_end
    ∙ (same_desks (view links faults moments) (λ (w : Worker DeskView G C). w.worked) most olds news team.worked 0 d
    long).origin
    ∙ ap (λ (v : DeskView). v.origin) (first.each 0 d long)

-- behind the handed history each entry has a worker's number
numbered_as : (sharing : Sharing) (last : List DeskView) (out : List Entry) (d : DeskView) → AreAll sharing last
    → All (λ (v : DeskView). IsNumbered v.sharing.desks v.sharing.handed out) last
    → IsNumbered sharing.desks sharing.handed out
numbered_as sharing last out d all told =
    let some_desk = all.some in
    let count = all.count in
    let within : 0 < length last = omega (arith, some_desk, count) in
    subst (λ (s : Sharing). IsNumbered s.desks s.handed out) (all.each 0 d within).1 (told 0 d within)

-- all workers together
pub serves : {G C : Type 0} (links : G → Option Links) (faults : G → ℕ) (moments : C → Moments) (most : Option ℕ)
    (count : ℕ) (origin : Origin) (sharing : Sharing) (history out : List Entry)
    (olds news : List (Worker DeskView G C)) (desks last : List DeskView) (gates : List G) (totals : Totals)
    (clock : Moments) (old new : NetworkView)
    → IsLegal (opening_of origin) out → sharing.desks ≡ count → sharing.handed ≡ history
    → IsCrew links faults moments most origin sharing desks last olds news
    → map (λ (w : Worker DeskView G C). w.gate) olds ≡ gates → AreNewGates links faults gates
    → All (λ (w : Worker DeskView G C). (calls : ℕ) → moments w.clock calls ≡ clock calls) olds
    → All (λ (d : DeskView). Extends d.sharing.handed d.seen × Extends d.seen out) last
    → All (λ (d : DeskView). entries_of d.number out ≡ entries_of d.number d.seen) last
    → All (λ (d : DeskView). IsNumbered d.sharing.desks d.sharing.handed out) last
    → totals.served ≡ min 18446744073709551615 (sum_by (λ (w : Worker DeskView G C). w.worked.served) news)
    → totals.failed ≡ list_any (λ (w : Worker DeskView G C). w.worked.failed) news
    → new.listening ≡ all_released old.listening (map (λ (w : Worker DeskView G C). (view links faults moments w).gate)
    news) → new.listens ≡ old.listens → new.faults ≡ old.faults
    → new.gate_faults ≡ faults_raised old.gate_faults (map (λ (w : Worker DeskView G C).
    (view links faults moments w).gate) news)
    → ServesAll most count (record { origin = origin; history = history; clock = clock })
    (record { history = out; totals = totals }) old new
serves {G} {C} links faults moments most count origin sharing history out olds news desks last gates totals clock old
    new legal counted handed team of_gates new_gates clocks seen own others served failed told listens same_faults
    gate_faults =
    let made = team.made in
    let alls = all_desks links faults moments most origin sharing desks last olds news team in
    let as_count : length olds ≡ count = sym (length-map olds (λ (w : Worker DeskView G C). w.desk))
    ∙ (ap length team.of_desks ∙ (made.count ∙ counted)) in
    let begins = begin_from (view links faults moments) (λ (w : Worker DeskView G C). w.worked) origin sharing clock 0
    olds
    (λ i other within.
    let long : i < length desks = let c = made.count in omega (arith, c, counted, as_count, within) in
    let at : (slice_index_or olds i other).desk ≡ new_desk origin sharing i =
    desk_at (λ (w : Worker DeskView G C). w.desk) (λ (w : Worker DeskView G C). w.gate) olds desks i other team.of_desks
    within ∙ made.each i other.desk long in (
      at ∙ ap (new_desk origin sharing) (let e : i ≡ 0 + i = omega arith in e),
      gate_at (λ (w : Worker DeskView G C). w.desk) (λ (w : Worker DeskView G C). w.gate)
          (λ gate. IsNewGate (record { links = links gate; faults = faults gate })) olds gates of_gates new_gates i
          other within,
      clocks i other within,
      refl,
    )) in
    let P : DeskView → Type 0 = λ (d : DeskView). Extends d.seen out
    × (entries_of d.number out ≡ entries_of d.number d.seen) in
    let both : All P (map (λ (w : Worker DeskView G C). w.desk) news) = subst (All P) team.ends
    (λ k d within. ((seen k d within).1, own k d within)) in
    let closes = of_workers (view links faults moments) (λ (w : Worker DeskView G C). w.worked) P news
    (recursion_from_All P (map (λ (w : Worker DeskView G C). w.desk) news) both) in
    subst (λ (h : List Entry). ServesAll most count (record { origin = origin; history = h; clock = clock })
    (record { history = out; totals = totals }) old new) handed
    (serves_all (view links faults moments) (λ (w : Worker DeskView G C). w.worked) most count origin sharing clock
    (record { history = out; totals = totals }) olds news old new team.worked as_count counted begins legal
    (numbered_as sharing last out (new_desk origin sharing 0) alls others) closes served failed told listens same_faults
    gate_faults)
