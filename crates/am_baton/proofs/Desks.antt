-- The desks of a shared manager, as they are made and as they end.
use Rattle.std.proofs.Common.{◌≡◌, ℕ, zero, suc, ◌<◌, ◌≤◌, ◌∙◌, List, [], ◌∷◌, ◌++◌, length, map, slice_index_or, refl, sym, ap, subst, inl, inr, ⊎_elim, append_assoc, arith}
use Rattle.std.specs.Prelude.{All, ◌⊎◌, Result, Ok, Err, IfOk, OnErr}
use Rattle.std.proofs.lemmas.List.{map-append}
use Rattle.std.proofs.lemmas.List.Elements.{All-nil, All-push, All-weaker, All-map}
use Rattle.atomic_table.specs.Seated.{TableId}
use Rattle.am_types.specs.declared.history.Entry.{Entry}
use Rattle.am_types.specs.declared.history.Shown.{Shown}
use Rattle.am_history.specs.Desks.{Origin, Sharing, DeskView, IsSameDesk, SeesOthers, ShowsAt, opening_of, start_of}
use Rattle.am_history.specs.Steps.{Call}
use Rattle.am_machine.specs.Managed.{Managed}
use Rattle.am_baton.specs.declared.baton.Baton.{Baton}
use Rattle.am_baton.specs.Shared.{Start, Mark, Known, desk_of, HasNumber, StandsFor, IsNumbered, IsFront, Put, Taken, AreNew, AreAll, IsClosed, holding, idle, with_seen}
use Rattle.am_baton.proofs.Fronts.{alone, front_later}

-- the history that a pass found, as the desk's caller sees it
pub sees_found : {K : Type 0} (t : TableId) (v : Known) (b : Baton K) (w : Known) → Taken v b w
    → SeesOthers (desk_of t v.mark) b.manager.value.history
sees_found t v b w taken = record {
  grows = taken.front.grows;
  others = taken.front.own;
  alone = λ one. alone v.mark b.manager.value.history one taken.made taken.numbered taken.front;
}

-- a pass that waits knows what it knew, and may have seen more
pub record HasWaited (v u : Known) : Type 0 where
  pub idle : u ≡ idle v.makes (with_seen v.mark u.mark.seen) []
  pub front : (history : List Entry) → IsFront u.mark history → IsFront v.mark history

-- it does once it took the manager and put it back unchanged
pub waits_more : {K : Type 0} (v u : Known) (b : Baton K) (t n : Known) → HasWaited v u → Taken u b t → Put t b n
    → HasWaited v n
waits_more v u b t n waited taken put =
    let h = b.manager.value.history in
    let now : n ≡ idle v.makes (with_seen v.mark h) [] =
    put
    ∙ (ap (λ (k : Known). idle k.makes (with_seen k.mark h) k.ended) taken.view
    ∙ ap (λ (k : Known). idle k.makes (with_seen k.mark h) k.ended) waited.idle) in
    let seen : n.mark.seen ≡ h = ap (λ (k : Known). k.mark.seen) now in
    record {
      idle = now ∙ ap (λ (s : List Entry). idle v.makes (with_seen v.mark s) []) (sym seen);
      front = λ history begins. front_later v.mark h history (waited.front h taken.front)
          (subst (λ (m : Mark). IsFront m history) (ap (λ (k : Known). k.mark) now) begins);
    }

-- what it takes then is what it would have taken at once
pub taken_later : {K : Type 0} (v u : Known) (b : Baton K) (w : Known) → v.ended ≡ [] → HasWaited v u → Taken u b w
    → Taken v b w
taken_later v u b w none waited taken =
    let h = b.manager.value.history in
    let is = waited.idle in
    let P : Mark → Type 0 = λ (mark : Mark). (mark.start ≡ v.mark.start) × IsFront mark h in
    record {
      origin = taken.origin ∙ ap (λ (k : Known). k.mark.start.origin) is;
      desks = taken.desks ∙ ap (λ (k : Known). k.mark.start.desks) is;
      front = waited.front h taken.front;
      others = subst (All P) (sym none) (All-nil P);
      numbered = subst (λ (s : Start). IsNumbered s.desks s.handed h) (ap (λ (k : Known). k.mark.start) is)
          taken.numbered;
      made = subst (λ (m : Mark). m.number < m.start.desks) (ap (λ (k : Known). k.mark) is) taken.made;
      view = taken.view
          ∙ (ap (λ (k : Known). holding k.makes (with_seen k.mark h) k.ended) is
          ∙ ap (holding v.makes (with_seen v.mark h)) (sym none));
    }

-- what one of the desks may say of the manager that was taken last
closed : {K : Type 0} (t : TableId) (v : Known) (b : Baton K) (w : Known) → Taken v b w → (mark : Mark) → mark.start
    ≡ v.mark.start
    → IsFront mark b.manager.value.history → IsClosed (desk_of t mark) b.manager.value
closed t v b w taken mark same front = record {
  origin = taken.origin ∙ ap (λ (s : Start). s.origin) (sym same);
  begins = front.begins;
  grows = front.grows;
  own = front.own;
  others = subst (λ (s : Start). IsNumbered s.desks s.handed b.manager.value.history) (sym same) taken.numbered;
}

pub all_closed : {K : Type 0} (t : TableId) (v : Known) (b : Baton K) (w : Known) → Taken v b w
    → All (λ (mark : Mark). IsClosed (desk_of t mark) b.manager.value) (v.ended ++ v.mark ∷ [])
all_closed t v b w taken =
    All-push (λ (mark : Mark). IsClosed (desk_of t mark) b.manager.value) v.ended v.mark
    (All-weaker (λ (mark : Mark). (mark.start ≡ v.mark.start) × IsFront mark b.manager.value.history)
    (λ (mark : Mark). IsClosed (desk_of t mark) b.manager.value) (λ mark fact. closed t v b w taken mark fact.0 fact.1)
    v.ended taken.others)
    (closed t v b w taken v.mark refl taken.front)

-- one more desk is made
pub each_more : (f : ℕ → DeskView) (xs : List DeskView) (x : DeskView)
    → ((k : ℕ) (other : DeskView) → k < length xs → slice_index_or xs k other ≡ f k)
    → x ≡ f (length xs) → (k : ℕ) (other : DeskView) → k < length (xs ++ x ∷ []) → slice_index_or (xs ++ x ∷ []) k other
    ≡ f k
each_more f [] x all here zero other below = here
each_more f [] x all here (suc k) other below = absurd (omega arith)
each_more f (y ∷ ys) x all here zero other below = all 0 other (omega arith)
each_more f (y ∷ ys) x all here (suc k) other below =
    each_more (λ i. f (suc i)) ys x (λ i o h. all (suc i) o (omega arith)) here k other (omega arith)

-- what stands in the middle of a list
at_middle : (xs : List DeskView) (x : DeskView) (ys : List DeskView) → slice_index_or (xs ++ x ∷ ys) (length xs) x ≡ x
at_middle [] x ys = refl
at_middle (y ∷ xs) x ys = at_middle xs x ys

middle_below : (xs : List DeskView) (x : DeskView) (ys : List DeskView) → length xs < length (xs ++ x ∷ ys)
middle_below [] x ys = omega arith
middle_below (y ∷ xs) x ys = let below = middle_below xs x ys in omega arith

pub among : (sharing : Sharing) (all xs : List DeskView) (x : DeskView) (ys : List DeskView) → AreAll sharing all → all
    ≡ xs ++ x ∷ ys → x.sharing ≡ sharing
among sharing all xs x ys desks parts =
    let a : AreAll sharing (xs ++ x ∷ ys) = subst (AreAll sharing) parts desks in
    ap (λ (d : DeskView). d.sharing) (sym (at_middle xs x ys)) ∙ (a.each (length xs) x (middle_below xs x ys)).1

-- the desk of a number is one of those whose passes were taken in, or the last
stands_at : (t : TableId) (ended : List Mark) (mark : Mark) (k n : ℕ) (other : DeskView)
    → k < length (map (desk_of t) ended ++ desk_of t mark ∷ [])
    → (slice_index_or (map (desk_of t) ended ++ desk_of t mark ∷ []) k other).number ≡ n
    → (n ≡ mark.number) ⊎ HasNumber n ended
stands_at t [] mark zero n other below is = inl (sym is)
stands_at t [] mark (suc k) n other below is = absurd (omega arith)
stands_at t (m ∷ ms) mark zero n other below is = inr (inl (sym is))
stands_at t (m ∷ ms) mark (suc k) n other below is =
    ⊎_elim (λ (own : n ≡ mark.number). inl own) (λ (later : HasNumber n ms). inr (inr later))
    (stands_at t ms mark k n other (omega arith) is)

-- all desks, once none is left whose pass wasn't taken in
all_parts : (t : TableId) (v : Known) (last : DeskView) (desks items : List DeskView) → desks ≡ items
    ++ map (desk_of t) v.ended
    → items ≡ [] → desk_of t v.mark ≡ last → desks ++ last ∷ [] ≡ map (desk_of t) v.ended ++ desk_of t v.mark ∷ []
all_parts t v last desks items parts none own =
    ap (λ l. l ++ last ∷ []) parts
    ∙ ap (λ l. (l ++ map (desk_of t) v.ended) ++ last ∷ []) none
    ∙ ap (λ (d : DeskView). map (desk_of t) v.ended ++ d ∷ []) (sym own)

pub stands : (t : TableId) (v : Known) (last : DeskView) (desks items : List DeskView)
    → AreAll last.sharing (desks ++ last ∷ [])
    → desks ≡ items ++ map (desk_of t) v.ended → items ≡ [] → desk_of t v.mark ≡ last
    → (k : ℕ) → k < v.mark.start.desks → StandsFor v k
stands t v last desks items all parts none own k below =
    let a : AreAll last.sharing (map (desk_of t) v.ended ++ desk_of t v.mark ∷ []) = subst (AreAll last.sharing)
    (all_parts t v last desks items parts none own) all in
    let many : v.mark.start.desks ≡ last.sharing.desks = ap (λ (d : DeskView). d.sharing.desks) own in
    let count = a.count in
    let within : k < length (map (desk_of t) v.ended ++ desk_of t v.mark ∷ []) = omega arith in
    stands_at t v.ended v.mark k k (desk_of t v.mark) within (a.each k (desk_of t v.mark) within).0

-- a desk that is taken from the end of those that are left
pub among_popped : (sharing : Sharing) (desks items left rest : List DeskView) (x last : DeskView)
    → AreAll sharing (desks ++ last ∷ [])
    → desks ≡ items ++ rest → items ≡ left ++ x ∷ [] → x.sharing ≡ sharing
among_popped sharing desks items left rest x last all parts popped =
    among sharing (desks ++ last ∷ []) left x (rest ++ last ∷ []) all
    (ap (λ l. l ++ last ∷ []) parts
    ∙ ap (λ l. (l ++ rest) ++ last ∷ []) popped
    ∙ ap (λ l. l ++ last ∷ []) (append_assoc left (x ∷ []) rest)
    ∙ append_assoc left (x ∷ rest) (last ∷ []))

-- what holds of the desks of all passes holds of all desks
pub closed_desks : {K : Type 0} (manager : Managed K) (t : TableId) (v : Known) (desks items : List DeskView)
    (last : DeskView)
    → desks ≡ items ++ map (desk_of t) v.ended → items ≡ [] → desk_of t v.mark ≡ last
    → All (λ (mark : Mark). IsClosed (desk_of t mark) manager) (v.ended ++ v.mark ∷ [])
    → All (λ (desk : DeskView). IsClosed desk manager) (desks ++ last ∷ [])
closed_desks manager t v desks items last parts none own closing =
    subst (λ (l : List DeskView). All (λ (desk : DeskView). IsClosed desk manager) l)
    (map-append (desk_of t) v.ended (v.mark ∷ []) ∙ sym (all_parts t v last desks items parts none own))
    (All-map (λ (desk : DeskView). IsClosed desk manager) (desk_of t) (v.ended ++ v.mark ∷ []) closing)

-- what a desk shows of a call, and of one that was refused
pub call_shows : {K E : Type 0} (t : TableId) (v : Known) (b : Baton K) (w : Known) (old : DeskView)
    (now after : List Entry) (made call : Call) (result : Result Shown E)
    → Taken v b w → old ≡ desk_of t v.mark → now ≡ after → made ≡ call
    → IfOk result (λ shown. ShowsAt (opening_of b.manager.value.origin) b.manager.value.history after made shown)
    → IfOk result (λ shown. (before : List Entry) × SeesOthers old before
    × ShowsAt (start_of old) before now call shown)
call_shows t v b w old now after made call (Ok shown) taken is seen same shows = (
  b.manager.value.history,
  subst (λ (d : DeskView). SeesOthers d b.manager.value.history) (sym is) (sees_found t v b w taken),
  subst (λ (o : Origin). ShowsAt (opening_of o) b.manager.value.history now call shown)
      (taken.origin ∙ sym (ap (λ (d : DeskView). d.origin) is))
      (subst (λ (l : List Entry). ShowsAt (opening_of b.manager.value.origin) b.manager.value.history l call shown) (sym seen)
      (subst (λ (c : Call). ShowsAt (opening_of b.manager.value.origin) b.manager.value.history after c shown) same shows)),
)
call_shows t v b w old now after made call (Err e) taken is seen same shows = tt

pub call_refused : {K X E : Type 0} (t : TableId) (v : Known) (b : Baton K) (w : Known) (old : DeskView)
    (now after : List Entry) (result : Result X E)
    → Taken v b w → old ≡ desk_of t v.mark → now ≡ after → OnErr result (after ≡ b.manager.value.history)
    → OnErr result (SeesOthers old now)
call_refused t v b w old now after (Ok x) taken is seen same = tt
call_refused t v b w old now after (Err e) taken is seen same =
    subst (λ (l : List Entry). SeesOthers old l) (sym (seen ∙ same))
    (subst (λ (d : DeskView). SeesOthers d b.manager.value.history) (sym is) (sees_found t v b w taken))

-- the desks that were made are all desks of their manager
pub new_all : (origin : Origin) (sharing : Sharing) (desks : List DeskView) → 1 ≤ sharing.desks
    → AreNew origin sharing desks → AreAll sharing desks
new_all origin sharing desks some_desk made = record {
  some = some_desk;
  count = made.count;
  each = λ k other below. (
    ap (λ (d : DeskView). d.number) (made.each k other below),
    ap (λ (d : DeskView). d.sharing) (made.each k other below),
  );
}

-- and so are the same desks after calls
pub still_all : (sharing : Sharing) (old new : List DeskView) → length new ≡ length old → AreAll sharing old
    → ((k : ℕ) (other : DeskView) → k < length old → IsSameDesk (slice_index_or old k other)
    (slice_index_or new k other)) → AreAll sharing new
still_all sharing old new count all same = record {
  some = all.some;
  count = count ∙ all.count;
  each = λ k other below.
      let within : k < length old = omega arith in
      let kept = same k other within in
      let was = all.each k other within in
      (kept.number ∙ was.0, kept.sharing ∙ was.1);
}
