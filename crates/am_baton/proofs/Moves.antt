-- Each step of a shared manager's queue keeps the rule.
use Rattle.std.proofs.Common.{◌≡◌, ◌≢◌, ℕ, zero, suc, ◌+◌, ◌==◌, ◌<◌, ◌≤◌, Bool, true, false, true≢false, List, [], ◌∷◌, ◌++◌, length, set, drop, refl, sym, ap, ◌∙◌, subst, inl, inr, ⊎_elim, arith}
use Rattle.std.specs.Prelude.{All, ◌⊎◌, if◌then◌else◌}
use Rattle.std.proofs.lemmas.List.Elements.{All-nil, All-cons, All-head, All-tail, All-weaker}
use mathlib.Core.Option.{some, some-injective, some-ne-none}
use lib.ListN.{get_elem?}
use Rattle.crossbeam_queue.specs.Fifo.{Pushes, Pops, Forks, Merges, Learns}
use Rattle.crossbeam_queue.proofs.Lists.{at_set, set_else}
use Rattle.atomic_table.specs.Seated.{TableId}
use Rattle.am_types.specs.declared.history.Entry.{Entry}
use Rattle.am_history.specs.History.{Extends}
use Rattle.am_baton.specs.declared.baton.Baton.{Baton}
use Rattle.am_baton.specs.Shared.{key_of, Start, Mark, Known, fresh, spent, idle, holding, with_seen, next_mark, AddsOne, IsNumbered, IsFront, Moment, Belongs, Fits, Lies, IsShared, OneManager, Begun, Put, Taken, HasNumber, StandsFor}
use Rattle.am_baton.proofs.Fronts.{extends_self, extends_on, none_past, numbered_wider, numbered_first, adds_extends, adds_numbered, front_on, front_whole}

-- the number at the head
abbrev first : List ℕ → ℕ
first [] = 0
first (x ∷ xs) = x

-- tables with the same numbers are one
pub key_same : (s t : TableId) → key_of s ≡ key_of t → s ≡ t
key_same s t e = λ i. record {
  words = first (e i);
  slots = first (drop 1 (e i));
  views_name = first (drop 2 (e i));
  atom = first (drop 3 (e i));
  block = first (drop 4 (e i));
  offset = first (drop 5 (e i));
  slot_names = drop 6 (e i);
}

-- views by the number of their pass
abbrev Each : (ℕ → Known → Type 0) → List Known → Type 0
Each F views = (port : ℕ) (v : Known) → get_elem? views port ≡ some v → F port v

each_set : (F : ℕ → Known → Type 0) (views : List Known) (port : ℕ) (w : Known) → F port w
    → ((j : ℕ) (u : Known) → j ≢ port → get_elem? views j ≡ some u → F j u) → Each F (set views port w)
each_set F views port w mine others j u e =
    ⊎_elim (λ (x : (j ≡ port) × (w ≡ u)). subst (λ (y : ℕ × Known). F y.0 y.1) (λ i. (sym x.0 i, x.1 i)) mine)
    (λ (x : (j ≢ port) × (get_elem? views j ≡ some u)). others j u x.0 x.1) (at_set views port j w u e)

set_there : (views : List Known) (port : ℕ) (v w : Known) → get_elem? views port ≡ some v
    → get_elem? (set views port w) port ≡ some w
set_there [] port v w e = absurd (some-ne-none v (sym e))
set_there (x ∷ xs) zero v w e = refl
set_there (x ∷ xs) (suc port) v w e = set_there xs port v w e

set_length : (views : List Known) (port : ℕ) (w : Known) → length (set views port w) ≡ length views
set_length [] port w = refl
set_length (x ∷ xs) zero w = refl
set_length (x ∷ xs) (suc port) w = ap suc (set_length xs port w)

at_more : (views : List Known) (w u : Known) (j : ℕ) → get_elem? (views ++ w ∷ []) j ≡ some u
    → ((j < length views) × (get_elem? views j ≡ some u)) ⊎ ((j ≡ length views) × (w ≡ u))
at_more [] w u zero e = inr (refl, some-injective w u e)
at_more [] w u (suc j) e = absurd (some-ne-none u (sym e))
at_more (x ∷ xs) w u zero e = inl (omega arith, e)
at_more (x ∷ xs) w u (suc j) e =
    ⊎_elim (λ (y : (j < length xs) × (get_elem? xs j ≡ some u)). let h = y.0 in inl (omega arith, y.1))
    (λ (y : (j ≡ length xs) × (w ≡ u)). inr (ap suc y.0, y.1)) (at_more xs w u j e)

still_there : (views : List Known) (w u : Known) (j : ℕ) → get_elem? views j ≡ some u → get_elem? (views ++ w ∷ []) j
    ≡ some u
still_there [] w u j e = absurd (some-ne-none u (sym e))
still_there (x ∷ xs) w u zero e = e
still_there (x ∷ xs) w u (suc j) e = still_there xs w u j e

alone_there : (v : Known) (port : ℕ) → get_elem? (fresh ∷ []) port ≡ some v → (fresh ≡ v) × (port ≡ 0)
alone_there v zero e = (some-injective fresh v e, refl)
alone_there v (suc port) e = absurd (some-ne-none v (sym e))

-- a view of the first moment is the fresh one
first_there : (views : List Known) (port : ℕ) (v : Known) → views ≡ fresh ∷ [] → get_elem? views port ≡ some v
    → (fresh ≡ v) × (port ≡ 0)
first_there views port v only at = alone_there v port (ap (λ l. get_elem? l port) (sym only) ∙ at)

-- a view that isn't fresh is none of the first moment
not_first : {X : Type 0} (views : List Known) (port : ℕ) (v : Known) → v.live ≡ true → views ≡ fresh ∷ []
    → get_elem? views port ≡ some v → X
not_first views port v live only at =
    absurd (true≢false (sym live ∙ ap (λ (y : Known). y.live) (sym (first_there views port v only at).0)))

cons_nil : {X : Type 0} (x : X) (xs : List X) → x ∷ xs ≡ [] → ⊥
cons_nil x xs e = let n = ap length e in omega arith

-- what belongs to a moment belongs to one at which the manager is elsewhere
belongs_out : (m : Moment) (taker port : ℕ) (mark : Mark) → Belongs m port mark
    → Belongs (record m { taker = taker }) port mark
belongs_out m taker port mark b = record { same = b.same; front = b.front; made = b.made; seated = b.seated }

-- and, if it is another desk, to one with one more entry
belongs_on : (m : Moment) (port j number : ℕ) (new : List Entry) (mark : Mark) → j ≢ port → m.seat number ≡ port
    → AddsOne number m.now new → Belongs m j mark → Belongs (record m { now = new; taker = 0 }) j mark
belongs_on m port j number new mark apart seat adds b = record {
  same = b.same;
  front = front_on number mark m.now new adds (λ is. apart (sym b.seated ∙ ap m.seat (sym is) ∙ seat)) b.front;
  made = b.made;
  seated = b.seated;
}

-- the pass that stands for each number, once one stands for the number n
abbrev seat_with : (ℕ → ℕ) → ℕ → ℕ → ℕ → ℕ
seat_with seat n port k = if k == n then port else seat k

seat_there : (seat : ℕ → ℕ) (n port : ℕ) → seat_with seat n port n ≡ port
seat_there seat n port = let same : (n == n) ≡ true = grind (arith) in ap (λ b. if b then port else seat n) same

seat_else : (seat : ℕ → ℕ) (n port k : ℕ) → k ≢ n → seat_with seat n port k ≡ seat k
seat_else seat n port k apart = let other : (k == n) ≡ false = grind (arith) in ap (λ b. if b then port else seat k)
    other

-- and once the pass `from` gave its numbers to another
abbrev seat_moved : (ℕ → ℕ) → ℕ → ℕ → ℕ → ℕ
seat_moved seat from port k = if seat k == from then port else seat k

moved_there : (seat : ℕ → ℕ) (from port k : ℕ) → seat k ≡ from → seat_moved seat from port k ≡ port
moved_there seat from port k is = let same : (seat k == from) ≡ true = grind (arith) in ap
    (λ b. if b then port else seat k) same

moved_else : (seat : ℕ → ℕ) (from port k : ℕ) → seat k ≢ from → seat_moved seat from port k ≡ seat k
moved_else seat from port k apart = let other : (seat k == from) ≡ false = grind (arith) in ap
    (λ b. if b then port else seat k) other

-- one more desk
belongs_made : (m : Moment) (n port j : ℕ) (mark : Mark) → n ≡ m.next → Belongs m j mark
    → Belongs (record m { next = n + 1; seat = seat_with m.seat n port }) j mark
belongs_made m n port j mark is b = let below = b.made in record {
  same = b.same;
  front = b.front;
  made = omega arith;
  seated = seat_else m.seat n port mark.number (λ same. omega arith) ∙ b.seated;
}

-- a pass took another in
belongs_moved : (m : Moment) (from port j : ℕ) (mark : Mark) → j ≢ from → Belongs m j mark
    → Belongs (record m { seat = seat_moved m.seat from port }) j mark
belongs_moved m from port j mark apart b = record {
  same = b.same;
  front = b.front;
  made = b.made;
  seated = moved_else m.seat from port mark.number (λ is. apart (sym b.seated ∙ is)) ∙ b.seated;
}

belongs_taken : (m : Moment) (from port : ℕ) (mark : Mark) → Belongs m from mark
    → Belongs (record m { seat = seat_moved m.seat from port }) port mark
belongs_taken m from port mark b = record {
  same = b.same;
  front = b.front;
  made = b.made;
  seated = moved_there m.seat from port mark.number b.seated;
}

fits_spent : (m : Moment) (port : ℕ) → Fits m port spent
fits_spent m port = record {
  begun = refl;
  own = λ h. absurd (true≢false (sym h));
  others = λ h. absurd (true≢false (sym h));
  out = λ h. absurd (true≢false (sym h));
  whole = λ h. absurd (true≢false (sym h));
  last = λ h. absurd (true≢false (sym h));
}

-- the view of a desk with which the manager isn't out
fits_idle : (m : Moment) (port : ℕ) (makes : Bool) (mark : Mark) (ended : List Mark) → Belongs m port mark
    → All (Belongs m port) ended
    → (makes ≡ true → mark.number + 1 ≡ m.next) → Fits m port (idle makes mark ended)
fits_idle m port makes mark ended own others last = record {
  begun = refl;
  own = λ _. own;
  others = λ _. others;
  out = λ h. absurd (true≢false (sym h));
  whole = λ h. absurd (true≢false (sym h));
  last = λ makes. (refl, last makes);
}

-- a number above 0 is one more than another
below_one : (n : ℕ) → 0 < n → (q : ℕ) × (n ≡ suc q)
below_one zero some_more = absurd (omega arith)
below_one (suc q) some_more = (q, refl)

-- the pass that stands for a number is this one
seat_among : (m : Moment) (port : ℕ) (marks : List Mark) → All (Belongs m port) marks → (k : ℕ) → HasNumber k marks
    → m.seat k ≡ port
seat_among m port [] all k has = absurd has
seat_among m port (mark ∷ marks) all k has =
    ⊎_elim (λ (is : k ≡ mark.number). ap m.seat is ∙ (All-head (Belongs m port) mark marks all).seated)
    (λ (later : HasNumber k marks). seat_among m port marks (All-tail (Belongs m port) mark marks all) k later) has

seat_of : (m : Moment) (port : ℕ) (v : Known) → Belongs m port v.mark → All (Belongs m port) v.ended → (k : ℕ)
    → StandsFor v k → m.seat k ≡ port
seat_of m port v own others k stands =
    ⊎_elim (λ (is : k ≡ v.mark.number). ap m.seat is ∙ own.seated)
    (λ (later : HasNumber k v.ended). seat_among m port v.ended others k later) stands

-- a pass with which the manager isn't out isn't the one that was found with it
not_found : (views : List Known) (port q : ℕ) (v u : Known) → v.holds ≡ false → get_elem? views port ≡ some v → u.holds
    ≡ true → get_elem? views q ≡ some u → q ≢ port
not_found views port q v u free at holds there is =
    let same : u ≡ v = some-injective u v (sym there ∙ ap (λ (n : ℕ). get_elem? views n) is ∙ at) in
    true≢false (sym holds ∙ ap (λ (y : Known). y.holds) same ∙ free)

module _ {K : Type 0} where
  pub begins : OneManager {K = K} [] (fresh ∷ [])
  begins = inl (refl, refl)

  lies_alone : (b : Baton K) (items : List (Baton K)) (m : Moment) → Lies (b ∷ items) m
      → (items ≡ []) × (m.taker ≡ 0) × (b.manager.value.origin ≡ m.start.origin) × (b.desks ≡ m.start.desks)
      × (b.manager.value.history ≡ m.now)
  lies_alone b [] m l = (refl, l.0, l.1, l.2, l.3)
  lies_alone b (c ∷ bs) m l = absurd l

  lies_out : (items : List (Baton K)) (m : Moment) → Lies items m → 0 < m.taker → items ≡ []
  lies_out [] m l h = refl
  lies_out (b ∷ []) m l h = absurd (let z = l.0 in omega arith)
  lies_out (b ∷ c ∷ bs) m l h = absurd l

  -- the first pass puts the manager in
  pub opens : (n port : ℕ) (v : Known) (b : Baton K) → v ≡ fresh → 1 ≤ b.desks
      → Pushes OneManager n port v b (Begun v b)
  opens n port v b begun some_desk items views room h at =
      let start : Start = record { origin = b.manager.value.origin; desks = b.desks; handed = b.manager.value.history } in
      let mark : Mark = record { start = start; number = 0; seen = b.manager.value.history } in
      let w : Known = idle true mark [] in
      let m : Moment = record { start = start; now = b.manager.value.history; next = 1; taker = 0; seat = λ _. port } in
      ⊎_elim
      (λ (x : (items ≡ []) × (views ≡ fresh ∷ [])). (
        w,
        inr (record {
          moment = m;
          lies = subst (λ (l : List (Baton K)). Lies (l ++ b ∷ []) m) (sym x.0) (refl, refl, refl, refl);
          numbered = numbered_first 1 b.manager.value.history;
          few = some_desk;
          fits = each_set (Fits m) views port w
              (fits_idle m port true mark []
              (record {
                same = refl;
                front = front_whole mark b.manager.value.history (extends_self b.manager.value.history);
                made = omega arith;
                seated = refl;
              })
              (All-nil (Belongs m port)) (λ _. omega arith))
              (λ j u other e. absurd (other ((first_there views j u x.1 e).1
              ∙ sym (first_there views port v x.1 at).1)));
          found = λ p e. absurd (omega arith);
        }),
        refl,
      ))
      (λ (x : IsShared items views). absurd (true≢false (sym (ap (λ (y : Known). y.fresh) begun)
      ∙ (x.fits port v at).begun)))
      h

  -- a pass takes the manager out
  pub takes : (port : ℕ) (v : Known) → v.live ≡ true → Pops (OneManager {K = K}) port v (Taken v)
  takes port v live b items views h at =
      let w : Known = holding v.makes (with_seen v.mark b.manager.value.history) v.ended in
      ⊎_elim
      (λ (x : (b ∷ items ≡ []) × (views ≡ fresh ∷ [])). absurd (cons_nil b items x.0))
      (λ (x : IsShared (b ∷ items) views).
      let old = x.moment in
      let m : Moment = record old { taker = suc port } in
      let a = lies_alone b items old x.lies in
      let now : b.manager.value.history ≡ old.now = a.4 in
      let f = x.fits port v at in
      let own = f.own live in
      let front : IsFront v.mark b.manager.value.history = subst (IsFront v.mark) (sym now) own.front in
      let start : v.mark.start ≡ old.start = own.same in (
        w,
        inr (record {
          moment = m;
          lies = subst (λ (l : List (Baton K)). Lies l m) (sym a.0) (omega arith);
          numbered = x.numbered;
          few = x.few;
          fits = each_set (Fits m) views port w
              (record {
                begun = refl;
                own = λ _. record {
                  same = start;
                  front = subst (λ (l : List Entry). IsFront (with_seen v.mark b.manager.value.history) l) now
                      (front_whole v.mark b.manager.value.history (extends_on v.mark.start.handed v.mark.seen
                      b.manager.value.history front.begins front.grows));
                  made = own.made;
                  seated = own.seated;
                };
                others = λ _. All-weaker (Belongs old port) (Belongs m port)
                    (λ mark. belongs_out old (suc port) port mark) v.ended (f.others live);
                out = λ _. refl;
                whole = λ _. now;
                last = λ makes. (refl, (f.last makes).1);
              })
              (λ j u other e. let g = x.fits j u e in record {
                begun = g.begun;
                own = λ l. belongs_out old (suc port) j u.mark (g.own l);
                others = λ l. All-weaker (Belongs old j) (Belongs m j) (λ mark. belongs_out old (suc port) j mark)
                    u.ended (g.others l);
                out = λ holds. absurd (let z = g.out holds in let y = a.1 in omega arith);
                whole = g.whole;
                last = g.last;
              });
          found = λ p e. let same : port ≡ p = omega arith in (
            w,
            subst (λ (q : ℕ). get_elem? (set views port w) q ≡ some w) same (set_there views port v w at),
            refl,
            refl,
          );
        }),
        record {
          origin = a.2 ∙ ap (λ (s : Start). s.origin) (sym start);
          desks = a.3 ∙ ap (λ (s : Start). s.desks) (sym start);
          front = front;
          others = All-weaker (Belongs old port) (λ (mark : Mark). (mark.start ≡ v.mark.start)
              × IsFront mark b.manager.value.history)
              (λ mark belongs. (belongs.same ∙ sym start, subst (IsFront mark) (sym now) belongs.front)) v.ended
              (f.others live);
          numbered = subst (λ (s : Start). IsNumbered s.desks s.handed b.manager.value.history) (sym start)
              (subst (IsNumbered old.start.desks old.start.handed) (sym now)
              (numbered_wider old.next old.start.desks old.start.handed old.now x.few x.numbered));
          made = subst (λ (s : Start). v.mark.number < s.desks) (sym start)
              (let below = own.made in let few = x.few in omega arith);
          view = refl;
        },
      ))
      h

  -- the pass that holds the manager puts it back, with at most one entry more
  pub gives_back : (n port : ℕ) (v : Known) (b : Baton K) → v.holds ≡ true → v.live ≡ true → v.ended ≡ []
      → b.manager.value.origin ≡ v.mark.start.origin
      → b.desks ≡ v.mark.start.desks → AddsOne v.mark.number v.mark.seen b.manager.value.history
      → Pushes OneManager n port v b (Put v b)
  gives_back n port v b holds live none origin desks adds items views room h at =
      let new = b.manager.value.history in
      let mark : Mark = with_seen v.mark new in
      let w : Known = idle v.makes mark v.ended in
      ⊎_elim
      (λ (x : (items ≡ []) × (views ≡ fresh ∷ [])). not_first views port v live x.1 at)
      (λ (x : IsShared items views).
      let old = x.moment in
      let m : Moment = record old { now = new; taker = 0 } in
      let f = x.fits port v at in
      let own = f.own live in
      let start : v.mark.start ≡ old.start = own.same in
      let taker : old.taker ≡ suc port = f.out holds in
      let out = lies_out items old x.lies (omega arith) in
      let adds_now : AddsOne v.mark.number old.now new = subst (λ (l : List Entry). AddsOne v.mark.number l new)
      (f.whole holds) adds in
      let further : Extends old.now new = adds_extends v.mark.number old.now new adds_now in (
        w,
        inr (record {
          moment = m;
          lies = subst (λ (l : List (Baton K)). Lies (l ++ b ∷ []) m) (sym out)
              (refl, origin ∙ ap (λ (s : Start). s.origin) start, desks ∙ ap (λ (s : Start). s.desks) start, refl);
          numbered = adds_numbered v.mark.number old.next old.start.handed old.now new adds_now own.made x.numbered;
          few = x.few;
          fits = each_set (Fits m) views port w
              (fits_idle m port v.makes mark v.ended
              (record {
                same = start;
                front = front_whole v.mark new
                    (extends_on v.mark.start.handed v.mark.seen new own.front.begins
                    (extends_on v.mark.seen old.now new own.front.grows further));
                made = own.made;
                seated = own.seated;
              })
              (subst (All (Belongs m port)) (sym none) (All-nil (Belongs m port))) (λ makes. (f.last makes).1))
              (λ j u other e. let g = x.fits j u e in record {
                begun = g.begun;
                own = λ l. belongs_on old port j v.mark.number new u.mark other own.seated adds_now (g.own l);
                others = λ l. All-weaker (Belongs old j) (Belongs m j)
                    (λ y. belongs_on old port j v.mark.number new y other own.seated adds_now) u.ended (g.others l);
                out = λ hs. absurd (other (let z = g.out hs in omega arith));
                whole = λ hs. absurd (other (let z = g.out hs in omega arith));
                last = g.last;
              });
          found = λ p e. absurd (omega arith);
        }),
        refl,
      ))
      h

  -- while a pass holds the manager, the queue is empty
  pub empty : (port : ℕ) (v : Known) → v.holds ≡ true → v.live ≡ true
      → Learns (OneManager {K = K}) port v (λ items. items ≡ [])
  empty port v holds live items views h at =
      ⊎_elim (λ (x : (items ≡ []) × (views ≡ fresh ∷ [])). x.0)
      (λ (x : IsShared items views). let taker : x.moment.taker ≡ suc port = (x.fits port v at).out holds in lies_out
      items x.moment x.lies (omega arith)) h

  -- before anything was put, the queue is empty
  pub empty_first : (port : ℕ) (v : Known) → v ≡ fresh → Learns (OneManager {K = K}) port v (λ items. items ≡ [])
  empty_first port v begun items views h at =
      ⊎_elim (λ (x : (items ≡ []) × (views ≡ fresh ∷ [])). x.0)
      (λ (x : IsShared items views). absurd (true≢false (sym (ap (λ (y : Known). y.fresh) begun)
      ∙ (x.fits port v at).begun))) h

  -- the next number or another pass for a number leaves the manager where it is
  lies_made : (items : List (Baton K)) (m : Moment) (next : ℕ) (seat : ℕ → ℕ) → Lies items m
      → Lies items (record m { next = next; seat = seat })
  lies_made [] m next seat l = l
  lies_made (b ∷ []) m next seat l = l
  lies_made (b ∷ c ∷ bs) m next seat l = absurd l

  -- the next desk is made
  pub forks : (port : ℕ) (v : Known) → v.live ≡ true → v.holds ≡ false → v.makes ≡ true
      → v.mark.number + 1 < v.mark.start.desks
      → Forks (OneManager {K = K}) port v (idle false v.mark v.ended) (idle true (next_mark v.mark) [])
  forks port v live free makes room items views h at =
      ⊎_elim
      (λ (x : (items ≡ []) × (views ≡ fresh ∷ [])). not_first views port v live x.1 at)
      (λ (x : IsShared items views).
      let old = x.moment in
      let f = x.fits port v at in
      let own = f.own live in
      let start : v.mark.start ≡ old.start = own.same in
      let n : ℕ = v.mark.number + 1 in
      let is : n ≡ old.next = (f.last makes).1 in
      let left : Known = idle false v.mark v.ended in
      let vs : List Known = set views port left in
      let new : Known = idle true (next_mark v.mark) [] in
      let p : ℕ = length vs in
      let m : Moment = record old { next = n + 1; seat = seat_with old.seat n p } in
      let on : (j : ℕ) (mark : Mark) → Belongs old j mark → Belongs m j mark = λ j mark. belongs_made old n p j mark is
      in
      let rest : Each (Fits m) vs = each_set (Fits m) views port left
      (fits_idle m port false v.mark v.ended (on port v.mark own) (All-weaker (Belongs old port) (Belongs m port)
      (on port) v.ended (f.others live)) (λ y. absurd (true≢false (sym y))))
      (λ j u other e. let g = x.fits j u e in record {
        begun = g.begun;
        own = λ l. on j u.mark (g.own l);
        others = λ l. All-weaker (Belongs old j) (Belongs m j) (on j) u.ended (g.others l);
        out = g.out;
        whole = g.whole;
        last = λ y. let last = g.last y in
            let one : u.mark.number ≡ v.mark.number = omega (arith, last.1) in
            absurd (other (sym (g.own last.0).seated ∙ ap old.seat one ∙ own.seated));
      }) in
      let added : Fits m p new = fits_idle m p true (next_mark v.mark) []
      (record {
        same = start;
        front = subst (λ (s : Start). IsFront (record { start = s; number = n; seen = s.handed }) old.now) (sym start)
            (record {
              begins = extends_self old.start.handed;
              grows = (x.numbered.0, x.numbered.1);
              own = none_past n old.next old.start.handed old.now (omega arith) x.numbered;
            });
        made = omega arith;
        seated = seat_there old.seat n p;
      })
      (All-nil (Belongs m p)) (λ _. refl) in
      inr (record {
        moment = m;
        lies = lies_made items old (n + 1) (seat_with old.seat n p) x.lies;
        numbered = numbered_wider old.next (n + 1) old.start.handed old.now (omega arith) x.numbered;
        few = let most : n < old.start.desks = subst (λ (s : Start). n < s.desks) start room in omega arith;
        fits = λ j u e.
            ⊎_elim (λ (y : (j < length vs) × (get_elem? vs j ≡ some u)). rest j u y.1)
            (λ (y : (j ≡ length vs) × (new ≡ u)). subst (λ (z : ℕ × Known). Fits m z.0 z.1) (λ i. (sym y.0 i, y.1 i))
            added)
            (at_more vs new u j e);
        found = λ q e. let w = x.found q e in (
          w.0,
          still_there vs new w.0 q (set_else views port q left (not_found views port q v w.0 free at w.3 w.1) ∙ w.1),
          w.2,
          w.3,
        );
      }))
      h

  -- a pass takes another in
  pub merges : (port : ℕ) (v : Known) (other : ℕ) (u : Known) → v.live ≡ true → u.live ≡ true → v.holds ≡ false
      → u.holds ≡ false
      → Merges (OneManager {K = K}) port v other u (idle false v.mark (u.mark ∷ v.ended)) spent
  merges port v other u live theirs free idles items views h at two at2 =
      ⊎_elim
      (λ (x : (items ≡ []) × (views ≡ fresh ∷ [])). not_first views port v live x.1 at)
      (λ (x : IsShared items views).
      let old = x.moment in
      let both : Known = idle false v.mark (u.mark ∷ v.ended) in
      let vs : List Known = set views port both in
      let was : get_elem? views other ≡ some u = ⊎_elim (λ (y : (other ≡ port) × (both ≡ u)). absurd (two y.0))
      (λ (y : (other ≢ port) × (get_elem? views other ≡ some u)). y.1) (at_set views port other both u at2) in
      let f = x.fits port v at in
      let g = x.fits other u was in
      let m : Moment = record old { seat = seat_moved old.seat other port } in
      let on : (j : ℕ) → j ≢ other → (mark : Mark) → Belongs old j mark
      → Belongs m j mark = λ j apart mark. belongs_moved old other port j mark apart in
      let away : port ≢ other = λ is. two (sym is) in
      let mine : Fits m port both = fits_idle m port false v.mark (u.mark ∷ v.ended) (on port away v.mark (f.own live))
      (All-cons (Belongs m port) u.mark v.ended (belongs_taken old other port u.mark (g.own theirs))
      (All-weaker (Belongs old port) (Belongs m port) (on port away) v.ended (f.others live)))
      (λ y. absurd (true≢false (sym y))) in
      let Apart : ℕ → Known → Type 0 = λ j y. j ≢ other → Fits m j y in
      let rest : Each Apart vs = each_set Apart views port both (λ _. mine)
      (λ j y _ e apart. let k = x.fits j y e in record {
        begun = k.begun;
        own = λ l. on j apart y.mark (k.own l);
        others = λ l. All-weaker (Belongs old j) (Belongs m j) (on j apart) y.ended (k.others l);
        out = k.out;
        whole = k.whole;
        last = k.last;
      }) in
      inr (record {
        moment = m;
        lies = lies_made items old old.next (seat_moved old.seat other port) x.lies;
        numbered = x.numbered;
        few = x.few;
        fits = each_set (Fits m) vs other spent (fits_spent m other) (λ j y apart e. rest j y e apart);
        found = λ q e. let w = x.found q e in (
          w.0,
          set_else vs other q spent (not_found views other q u w.0 idles was w.3 w.1)
              ∙ set_else views port q both (not_found views port q v w.0 free at w.3 w.1) ∙ w.1,
          w.2,
          w.3,
        );
      }))
      h

  lies_none : (items : List (Baton K)) (m : Moment) → items ≡ [] → Lies items m → 0 < m.taker
  lies_none [] m none l = l
  lies_none (b ∷ bs) m none l = absurd (cons_nil b bs none)

  -- a pass that stands for each desk finds the manager in the queue
  pub filled : (port : ℕ) (v : Known) → v.live ≡ true → v.holds ≡ false
      → ((k : ℕ) → k < v.mark.start.desks → StandsFor v k)
      → Learns (OneManager {K = K}) port v (λ items. items ≢ [])
  filled port v live free all items views h at =
      ⊎_elim
      (λ (x : (items ≡ []) × (views ≡ fresh ∷ [])). not_first views port v live x.1 at)
      (λ (x : IsShared items views) none.
      let out = lies_none items x.moment none x.lies in
      let pre : (q : ℕ) × (x.moment.taker ≡ suc q) = below_one x.moment.taker out in
      let w = x.found pre.0 pre.1 in
      let g = x.fits pre.0 w.0 w.1 in
      let f = x.fits port v at in
      let own = g.own w.2 in
      let few : w.0.mark.number < v.mark.start.desks =
      subst (λ (s : Start). w.0.mark.number < s.desks) (sym (f.own live).same)
      (let made = own.made in let most = x.few in omega arith) in
      let seat : x.moment.seat w.0.mark.number ≡ port = seat_of x.moment port v (f.own live) (f.others live)
      w.0.mark.number (all w.0.mark.number few) in
      not_found views port pre.0 v w.0 free at w.3 w.1 (sym own.seated ∙ seat))
      h
