-- What one more entry does to what the desks have seen.
use Rattle.std.proofs.Common.{◌≡◌, ◌≢◌, ℕ, ◌==◌, ◌<◌, ◌≤◌, true, false, cond, List, [], ◌∷◌, ◌++◌, refl, sym, ap, ◌∙◌, subst, ⊎_elim, append_assoc, arith}
use Rattle.std.specs.Prelude.{All}
use Rattle.std.proofs.lemmas.List.{append-nil, append_cancel_left}
use Rattle.std.proofs.lemmas.List.Elements.{filter-append, All-nil, All-head, All-tail, All-push, All-weaker}
use Rattle.am_types.specs.declared.history.Entry.{Entry}
use Rattle.am_history.specs.History.{Extends, entries_of}
use Rattle.am_baton.specs.Shared.{Mark, AddsOne, IsNumbered, IsFront, with_seen}

-- a history is a front of itself, and a front of a front is one
pub extends_self : (xs : List Entry) → Extends xs xs
extends_self xs = ([], sym (append-nil xs))

pub extends_on : (xs ys zs : List Entry) → Extends xs ys → Extends ys zs → Extends xs zs
extends_on xs ys zs p q = (p.0 ++ q.0, q.1 ∙ ap (λ l. l ++ q.0) p.1 ∙ append_assoc xs p.0 q.0)

-- tests of numbers
other_number : (a b : ℕ) → a ≢ b → (a == b) ≡ false
other_number a b apart = grind (arith)

same_number : (n : ℕ) → (n == n) ≡ true
same_number n = grind (arith)

pub entries_more : (k : ℕ) (xs ys : List Entry) → entries_of k (xs ++ ys) ≡ entries_of k xs ++ entries_of k ys
entries_more k xs ys = filter-append (λ (entry : Entry). entry.desk == k) xs ys

-- a list without entries of a number
none_of_one : (k : ℕ) (entry : Entry) → entry.desk ≢ k → entries_of k (entry ∷ []) ≡ []
none_of_one k entry other = ap (λ b. cond b (entry ∷ []) []) (other_number entry.desk k other)

none_of : (k next : ℕ) → next ≤ k → (xs : List Entry) → All (λ (entry : Entry). entry.desk < next) xs → entries_of k xs
    ≡ []
none_of k next above [] all = refl
none_of k next above (e ∷ es) all =
    let first : e.desk < next = All-head (λ (entry : Entry). entry.desk < next) e es all in
    ap (λ b. cond b (e ∷ entries_of k es) (entries_of k es)) (other_number e.desk k (λ same. omega arith))
    ∙ none_of k next above es (All-tail (λ (entry : Entry). entry.desk < next) e es all)

-- no desk from the next number on has an entry behind those that were handed over
pub none_past : (k next : ℕ) (handed history : List Entry) → next ≤ k → IsNumbered next handed history
    → entries_of k history ≡ entries_of k handed
none_past k next handed history above numbered =
    ap (entries_of k) numbered.1
    ∙ entries_more k handed numbered.0
    ∙ ap (λ l. entries_of k handed ++ l) (none_of k next above numbered.0 numbered.2)
    ∙ append-nil (entries_of k handed)

pub numbered_wider : (next desks : ℕ) (handed history : List Entry) → next ≤ desks → IsNumbered next handed history
    → IsNumbered desks handed history
numbered_wider next desks handed history most numbered = (
  numbered.0,
  numbered.1,
  All-weaker (λ (entry : Entry). entry.desk < next) (λ (entry : Entry). entry.desk < desks) (λ entry below. omega arith)
      numbered.0 numbered.2,
)

pub numbered_first : (next : ℕ) (history : List Entry) → IsNumbered next history history
numbered_first next history = ([], sym (append-nil history), All-nil (λ (entry : Entry). entry.desk < next))

-- one more entry
pub adds_extends : (number : ℕ) (old new : List Entry) → AddsOne number old new → Extends old new
adds_extends number old new adds =
    ⊎_elim (λ (same : new ≡ old). subst (Extends old) (sym same) (extends_self old))
    (λ (more : (entry : Entry) × (entry.desk ≡ number) × (new ≡ old ++ entry ∷ [])). (more.0 ∷ [], more.2)) adds

pub adds_other : (number k : ℕ) (old new : List Entry) → AddsOne number old new → number ≢ k
    → entries_of k new ≡ entries_of k old
adds_other number k old new adds apart =
    ⊎_elim (λ (same : new ≡ old). ap (entries_of k) same)
    (λ (more : (entry : Entry) × (entry.desk ≡ number) × (new ≡ old ++ entry ∷ [])).
    ap (entries_of k) more.2
    ∙ entries_more k old (more.0 ∷ [])
    ∙ ap (λ l. entries_of k old ++ l) (none_of_one k more.0 (λ same. apart (sym more.1 ∙ same)))
    ∙ append-nil (entries_of k old)) adds

pub adds_numbered : (number next : ℕ) (handed old new : List Entry) → AddsOne number old new → number < next
    → IsNumbered next handed old → IsNumbered next handed new
adds_numbered number next handed old new adds below numbered =
    ⊎_elim (λ (same : new ≡ old). subst (IsNumbered next handed) (sym same) numbered)
    (λ (more : (entry : Entry) × (entry.desk ≡ number) × (new ≡ old ++ entry ∷ [])). (
      numbered.0 ++ more.0 ∷ [],
      more.2 ∙ ap (λ l. l ++ more.0 ∷ []) numbered.1 ∙ append_assoc handed numbered.0 (more.0 ∷ []),
      All-push (λ (entry : Entry). entry.desk < next) numbered.0 more.0 numbered.2 (let is = more.1 in omega arith),
    )) adds

-- the front of a desk, as the history grows by an entry of another, or of its own
pub front_on : (number : ℕ) (mark : Mark) (old new : List Entry) → AddsOne number old new → number ≢ mark.number
    → IsFront mark old → IsFront mark new
front_on number mark old new adds apart front = record {
  begins = front.begins;
  grows = extends_on mark.seen old new front.grows (adds_extends number old new adds);
  own = adds_other number mark.number old new adds apart ∙ front.own;
}

pub front_whole : (mark : Mark) (history : List Entry) → Extends mark.start.handed history
    → IsFront (with_seen mark history) history
front_whole mark history begins = record { begins = begins; grows = extends_self history; own = refl }

-- what begins with more than the desk has seen begins with what it has seen
pub front_later : (mark : Mark) (now history : List Entry) → IsFront mark now → IsFront (with_seen mark now) history
    → IsFront mark history
front_later mark now history first next = record {
  begins = first.begins;
  grows = extends_on mark.seen now history first.grows next.grows;
  own = next.own ∙ first.own;
}

-- whose desk is the only one sees the whole history
all_back : (P : Entry → Type 0) (xs ys : List Entry) → All P (xs ++ ys) → All P ys
all_back P [] ys all = all
all_back P (x ∷ xs) ys all = all_back P xs ys (All-tail P x (xs ++ ys) all)

all_own : (xs : List Entry) → All (λ (entry : Entry). entry.desk < 1) xs → entries_of 0 xs ≡ xs
all_own [] all = refl
all_own (e ∷ es) all =
    let first : e.desk < 1 = All-head (λ (entry : Entry). entry.desk < 1) e es all in
    let zeroth : e.desk ≡ 0 = omega arith in
    ap (λ n. cond (n == 0) (e ∷ entries_of 0 es) (entries_of 0 es)) zeroth
    ∙ ap (λ l. e ∷ l) (all_own es (All-tail (λ (entry : Entry). entry.desk < 1) e es all))

pub alone : (mark : Mark) (history : List Entry) → mark.start.desks ≡ 1 → mark.number < mark.start.desks
    → IsNumbered mark.start.desks mark.start.handed history → IsFront mark history → history ≡ mark.seen
alone mark history one made numbered front =
    let zeroth : mark.number ≡ 0 = omega arith in
    let s = front.begins.0 in
    let t = front.grows.0 in
    let parts : numbered.0 ≡ s ++ t = append_cancel_left mark.start.handed numbered.0 (s ++ t)
    (sym numbered.1 ∙ front.grows.1 ∙ ap (λ l. l ++ t) front.begins.1 ∙ append_assoc mark.start.handed s t) in
    let all : All (λ (entry : Entry). entry.desk < 1) (s ++ t) =
    subst (λ (l : List Entry). All (λ (entry : Entry). entry.desk < 1) l) parts
    (subst (λ (n : ℕ). All (λ (entry : Entry). entry.desk < n) numbered.0) one numbered.2) in
    let own : entries_of 0 history ≡ entries_of 0 mark.seen =
    subst (λ (n : ℕ). entries_of n history ≡ entries_of n mark.seen) zeroth front.own in
    let rest : entries_of 0 t ≡ [] = append_cancel_left (entries_of 0 mark.seen) (entries_of 0 t) []
    (sym (entries_more 0 mark.seen t) ∙ sym (ap (entries_of 0) front.grows.1) ∙ own
    ∙ sym (append-nil (entries_of 0 mark.seen))) in
    let none : t ≡ [] = sym (all_own t (all_back (λ (entry : Entry). entry.desk < 1) s t all)) ∙ rest in
    front.grows.1 ∙ ap (λ l. mark.seen ++ l) none ∙ append-nil mark.seen
